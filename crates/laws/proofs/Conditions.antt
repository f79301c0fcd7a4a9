-- The fault tables and the conditions of each fault as the solver's expressions, so that what follows from them is computed. The checker compares them with specs/: their values are the tables and
-- the conditions. Assumes nothing.
use mathlib.Core.Bool.{Bool, true, false}
use mathlib.Core.List.{List, [], ◌∷◌}
use Prim.Native.Nat.{ℕ, zero, suc, ◌*◌, ◌≤◌}
use native.Mathlib.Omega.{arith}
use Rattle.lemmas.proofs.Solver.{E, Eqn, var, con, ◌⊕◌, ◌⊗◌, ◌⊖◌, ⊝◌, eqn, eval, Means}
use Rattle.turn.specs.declared.Num.{Num}
use Rattle.turn.specs.Number.{one_n, power_n}
use Rattle.turn.proofs.TRing.{Tring}
use Rattle.paper.specs.declared.Ohms.{Ohms}
use Rattle.paper.specs.declared.Seq.{Seq}
use Rattle.paper.specs.declared.Fault.{Fault}
use Rattle.paper.specs.Fault.{nil_n, num_of, seq}
use Rattle.paper.specs.Phase.{shows}
use Rattle.laws.specs.Connection.{Condition}

-- ---- the variables: the turn t^(8p) that the three phases share, and the impedances. Those from var 5 on are the reader's
abbrev pub turn_e : E Num
turn_e = var 0

abbrev pub Z1E : E Num
Z1E = var 1

abbrev pub Z2E : E Num
Z2E = var 2

abbrev pub Z0E : E Num
Z0E = var 3

abbrev pub ZfE : E Num
ZfE = var 4

abbrev pub one_e : E Num
one_e = con one_n

abbrev pub nil_e : E Num
nil_e = con nil_n

pub record SeqE : Type 0 where
  pub e1 : E Num
  pub e2 : E Num
  pub e0 : E Num

abbrev pub seq_e : E Num → E Num → E Num → SeqE
seq_e a b c = record { e1 = a; e2 = b; e0 = c }

-- ---- the table and, for `true`, that of a board without earth return, with the lift by the faulted board's W1
abbrev pub GE : E Num
GE = Z0E ⊕ (ZfE ⊕ ZfE ⊕ ZfE)

pub record RowE : Type 0 where
  pub divisor : E Num
  pub above : SeqE
  pub lift : E Num → E Num

abbrev row_with : E Num → SeqE → (E Num → E Num) → RowE
row_with d n up = record { divisor = d; above = n; lift = up }

abbrev pub row_e : ℕ → Bool → RowE
row_e zero u = row_with (Z1E ⊕ ZfE) (seq_e one_e nil_e nil_e) (λ w. nil_e)
row_e (suc zero) false = row_with (Z1E ⊕ Z2E ⊕ GE) (seq_e one_e one_e one_e) (λ w. nil_e)
row_e (suc zero) true = row_with one_e (seq_e nil_e nil_e nil_e) (λ w. ⊝ w)
row_e (suc (suc zero)) u = row_with (Z1E ⊕ Z2E ⊕ ZfE) (seq_e one_e (⊝ one_e) nil_e) (λ w. nil_e)
row_e (suc (suc (suc n))) false = row_with (Z1E ⊗ Z2E ⊕ Z1E ⊗ GE ⊕ Z2E ⊗ GE) (seq_e (Z2E ⊕ GE) (⊝ GE) (⊝ Z2E)) (λ w. nil_e)
row_e (suc (suc (suc n))) true = row_with (Z1E ⊕ Z2E ⊕ nil_e) (seq_e one_e (⊝ one_e) nil_e) (λ w. w)

-- the faulted board's voltage, where the source's is u, the fault's current i, and W0 is lifted by up
abbrev pub voltage_e : E Num → SeqE → E Num → SeqE
voltage_e u i up = seq_e (u ⊖ Z1E ⊗ i.e1) (⊝ (Z2E ⊗ i.e2)) (⊝ (Z0E ⊗ i.e0) ⊕ up)

-- what phase p + n shows
abbrev shows_e : SeqE → ℕ → E Num
shows_e x n = turn_e ⊗ (x.e0 ⊕ con (power_n (8 * n)) ⊗ x.e1 ⊕ con (power_n (4 * n)) ⊗ x.e2)

-- ---- a kind's three conditions, each with what it is to be multiplied by
abbrev pub Multipliers : Type 0
Multipliers = E Num × E Num × E Num

module _ (w i : SeqE) (m : Multipliers) where
  abbrev three : E Num → E Num → E Num → E Num → E Num → E Num → List (Eqn Num)
  three a b c d e f = eqn m.0 a b ∷ eqn m.1 c d ∷ eqn m.2 e f ∷ []

  -- the voltage behind the fault's impedance
  abbrev behind : ℕ → E Num
  behind n = shows_e w n ⊖ ZfE ⊗ shows_e i n

  abbrev pub conditions : ℕ → List (Eqn Num)
  conditions zero = three (behind 0) (behind 1) (behind 1) (behind 2) (shows_e i 0 ⊕ shows_e i 1 ⊕ shows_e i 2) nil_e
  conditions (suc zero) = three (shows_e w 0) (ZfE ⊗ shows_e i 0) (shows_e i 1) nil_e (shows_e i 2) nil_e
  conditions (suc (suc zero)) = three (shows_e i 0) nil_e (shows_e i 1) (⊝ shows_e i 2) (shows_e w 1 ⊖ shows_e w 2) (ZfE ⊗ shows_e i 1)
  conditions (suc (suc (suc n))) = three (shows_e i 0) nil_e (shows_e w 1) (shows_e w 2) (shows_e w 2) (ZfE ⊗ (shows_e i 1 ⊕ shows_e i 2))

-- ---- their values, at a fault, the faulted board's impedances, and those of the reader's variables
module _ (f : Fault) (z1 z2 z0 : Ohms) (more : List Num) where
  abbrev pub values : List Num
  values = power_n (8 * f.phase) ∷ num_of z1 ∷ num_of z2 ∷ num_of z0 ∷ num_of f.zf ∷ more

  abbrev pub value : E Num → Num
  value x = eval Tring values x

  abbrev pub value_seq : SeqE → Seq
  value_seq x = seq (value x.e1) (value x.e2) (value x.e0)

  module _ (w i : SeqE) (m : Multipliers) where
    pub from_equations : (kind : ℕ) → kind ≤ 3 → Means Tring values (conditions w i m kind) → Condition f (value_seq w) (value_seq i) kind
    unfolding Condition shows
    from_equations zero k h = (h.0, h.1.0, h.1.1.0)
    from_equations (suc zero) k h = (h.0, h.1.0, h.1.1.0)
    from_equations (suc (suc zero)) k h = (h.0, h.1.0, h.1.1.0)
    from_equations (suc (suc (suc zero))) k h = (h.0, h.1.0, h.1.1.0)
    from_equations (suc (suc (suc (suc n)))) k h = omega arith

    pub equations : (kind : ℕ) → Condition f (value_seq w) (value_seq i) kind → Means Tring values (conditions w i m kind)
    unfolding Condition shows
    equations zero h = (h.0, (h.1, (h.2, tt)))
    equations (suc zero) h = (h.0, (h.1, (h.2, tt)))
    equations (suc (suc zero)) h = (h.0, (h.1, (h.2, tt)))
    equations (suc (suc (suc zero))) h = (h.0, (h.1, (h.2, tt)))
    equations (suc (suc (suc (suc n)))) h = absurd h
