-- What demand 3 speaks of: the answers, or rival values, over one whole divisor, in their three sequences and "brought to the fault's side". Assumes nothing.
use Rattle.std.specs.Prelude.{◌≡◌, ℕ, ◌≤◌, ℤ, length}
use Rattle.turn.specs.declared.Num.{Num}
use Rattle.turn.specs.Number.{◌·N◌}
use Rattle.paper.specs.declared.Seq.{Seq}
use Rattle.paper.specs.Phase.{Asked, the_i, voltage, current}

-- the voltage of each board, the current of each record towards its board, and the current out of the network at the fault
pub record Values : Type 0 where
  pub W : ℕ → Seq
  pub I : ℕ → Seq
  pub F : Seq

-- the answers of demand 2, over D
unfoldable pub answers : Asked → Values
answers q = record { W = voltage q; I = current q; F = the_i q }

-- ---- what holds at every place of a board, or of its record
abbrev pub Everywhere : Asked → (ℕ → Type 0) → Type 0
Everywhere q P = (r : ℕ) → 1 ≤ r → r ≤ length q.boards → P r

-- ---- v over E is w over D: v·D = w·E, coordinate by coordinate
abbrev pub Same : ℤ → Num → ℤ → Num → Type 0
Same E v D w = D ·N v ≡ E ·N w

pub record SameSeq (E : ℤ) (v : Seq) (D : ℤ) (w : Seq) : Type 0 where
  pub same1 : Same E v.s1 D w.s1
  pub same2 : Same E v.s2 D w.s2
  pub same0 : Same E v.s0 D w.s0

pub record SameValues (q : Asked) (E : ℤ) (v : Values) (D : ℤ) (w : Values) : Type 0 where
  pub same_W : Everywhere q (λ j. SameSeq E (v.W j) D (w.W j))
  pub same_I : Everywhere q (λ j. SameSeq E (v.I j) D (w.I j))
  pub same_F : SameSeq E v.F D w.F
