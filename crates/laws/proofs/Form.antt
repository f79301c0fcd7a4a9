-- The form of the answers, with some current F for the fault's, E for D and some lift: what the laws of the network leave open. Assumes nothing.
use mathlib.Core.Bool.{true, false}
use mathlib.Core.Path.{◌≡◌}
use Prim.Native.Nat.{ℕ, zero, suc, ◌≤◌}
use native.Mathlib.Omega.{arith}
use lib.IntN.{ℤ}
use Rattle.turn.specs.declared.Num.{Num}
use Rattle.paper.specs.declared.Seq.{Seq}
use Rattle.paper.specs.Bytes.{one_of}
use Rattle.paper.specs.Chain.{chain, joined, unearthed, zero_chain, shared1, shared2, shared0}
use Rattle.paper.specs.Fault.{nil_n, seq}
use Rattle.paper.specs.Phase.{Asked, voltage_of, only_if}
use Rattle.laws.specs.Values.{Values, Everywhere}
use Rattle.laws.specs.Laws.{lifts}

-- "A record on k's chain carries I1 and I2; it carries I0 if it also lies on k's zero-sequence sum", of a fault's current F
unfoldable pub carried_by : Asked → Seq → ℕ → Seq
carried_by q F r =
    let on = one_of r (chain q.boards q.k) in
    seq (only_if on F.s1) (only_if on F.s2) (only_if (one_of r (zero_chain q.boards q.k)) F.s0)

-- what it leaves of board j's voltage, with what W0 is lifted by at k and the boards joined to it
unfoldable pub left_by : Asked → ℤ → Seq → Num → ℕ → Seq
left_by q E F up j = voltage_of E F (shared1 q.boards j q.k) (shared2 q.boards j q.k) (shared0 q.boards j q.k) (only_if (joined q.boards j q.k) up)

-- what a fault's current and a lift must be, whatever the connection
pub record Open (q : Asked) (F : Seq) (up : Num) : Type 0 where
  -- without earth return at k nothing goes to earth
  pub no_out : unearthed q.boards q.k ≡ true → F.s0 ≡ nil_n
  -- no lift unless R-2 frees it
  pub no_lift : lifts q ≡ false → up ≡ nil_n

pub record Formed (q : Asked) (E : ℤ) (v : Values) (up : Num) : Type 0 where
  pub form_W : Everywhere q (λ j. v.W j ≡ left_by q E v.F up j)
  pub form_I : Everywhere q (λ r. v.I r ≡ carried_by q v.F r)
  pub form_open : Open q v.F up

-- what holds at each place, its number written as one more than another
pub places : {n : ℕ} (P : ℕ → Type 0) → ((q : ℕ) → suc q ≤ n → P (suc q)) → (r : ℕ) → 1 ≤ r → r ≤ n → P r
places P h zero a l = absurd (omega arith)
places P h (suc q) a l = h q l
