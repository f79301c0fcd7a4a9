-- 02, R-2: "Refusing earth faults here was a wrong rule of ours"; and with them the premise would have been one. In a fault that R-2 frees no values at all, over any E but 0, obey the laws and have W0 = 0 at the
-- faulted board. Assumes nothing.
use mathlib.Core.Bool.{Bool, true, false}
use mathlib.Core.List.{List, [], ◌∷◌}
use mathlib.Core.Logic.{◌⊎◌, inl, inr}
use mathlib.Core.Path.{◌≡◌, refl, sym, ◌∙◌, ap, ap₂, subst}
use Prim.Native.Nat.{ℕ}
use lib.IntN.{ℤ, pos}
use Rattle.lemmas.proofs.Solver.{con, eqn, ◌⊕◌, ◌⊗◌, ◌⊖◌, ⊝◌}
use Rattle.lemmas.proofs.Solve.{solve, solve_by}
use Rattle.turn.specs.declared.Num.{Num}
use Rattle.turn.specs.Number.{whole_n, power_n, ◌+N◌, neg_n, ◌*N◌}
use Rattle.turn.proofs.Ring.{Nring}
use Rattle.paper.specs.declared.Ohms.{Ohms}
use Rattle.paper.specs.declared.Seq.{Seq}
use Rattle.paper.specs.declared.Fault.{Fault}
use Rattle.paper.specs.Kind.{ohms, is_zero}
use Rattle.paper.specs.Chain.{joined, unearthed, Z1, Z2, Z0, shared0}
use Rattle.paper.specs.Fault.{nil_n, num_of, seq, shorts, unearthed_shorts, short_of, lift_of}
use Rattle.paper.specs.Phase.{Asked, asked, voltage_of, only_if}
use Rattle.paper.specs.Answer.{verdict}
use Rattle.follows.proofs.Divisor.{cancel_divisor}
use Rattle.laws.specs.Values.{Values}
use Rattle.laws.specs.Connection.{Connected}
use Rattle.laws.specs.Laws.{Laws, lifts}
use Rattle.laws.proofs.Sums.{only_nil}
use Rattle.laws.proofs.Fair.{Fair, fair}
use Rattle.laws.proofs.Form.{left_by, Open}
use Rattle.laws.proofs.Formed.{left1, left2, no_earth_current}
use Rattle.laws.proofs.Lift.{row_at, lift_at, lifts_freed}
use Rattle.laws.proofs.Forced.{Answered, answered}
use Rattle.laws.proofs.Demand.{at_fault, at_fault_lem}

-- ---- a lift of 0 leaves nothing of the source's voltage
module _ (f : Fault) (z1 z2 z0 : Ohms) (e : ℤ) (F : Seq) where
  abbrev Unlifted : Bool → ℕ → Type 0
  Unlifted u kind = Answered (row_at f z1 z2 z0 u kind) (lift_at u kind) z1 e F nil_n

  -- kind 1: it is -1
  one_phase : Unlifted true 1 → whole_n e ≡ nil_n
  unfolding short_of unearthed_shorts lift_of only_if power_n
  one_phase a =
      solve_by Nring 3 (λ e z f. eqn (con (pos 1)) (con (pos 0)) (⊝ (e ⊖ z ⊗ f)) ∷ eqn z (con (pos 1) ⊗ f) (e ⊗ con (pos 0)) ∷ []) (λ e z f. e) (λ e z f. con (pos 0)) tt
      (whole_n e) (num_of z1) F.s1 (a.lift_is, (a.currents_are.over1, tt))

  -- kind 3: it is Z2 over Z1 + Z2; and Z2, which is not zero, carries nothing but 0 to 0
  carried_to_0 : Unlifted true 3 → (num_of z2 +N num_of (ohms 0 0)) *N F.s1 ≡ (num_of z2 +N num_of (ohms 0 0)) *N nil_n
  unfolding short_of unearthed_shorts lift_of only_if power_n num_of
  carried_to_0 a =
      solve_by Nring 4 (λ e z y f. eqn (con (pos 1)) ((z ⊕ y ⊕ con (pos 0)) ⊗ f) (e ⊗ con (pos 1)) ∷ eqn (⊝ con (pos 1)) (con (pos 0)) (e ⊖ z ⊗ f) ∷ [])
      (λ e z y f. (y ⊕ con (pos 0)) ⊗ f) (λ e z y f. (y ⊕ con (pos 0)) ⊗ con (pos 0)) tt (whole_n e) (num_of z1) (num_of z2) F.s1 (a.currents_are.over1, (a.lift_is, tt))

  two_phases_lem : is_zero z2 ≡ false → Unlifted true 3 → whole_n e ≡ nil_n
  unfolding short_of shorts unearthed_shorts lift_of only_if
  two_phases_lem nz a =
      let none = cancel_divisor z2 z2 z0 (ohms 0 0) 0 nz nz F.s1 nil_n (carried_to_0 a) in
      solve_by Nring 3 (λ e z f. eqn (⊝ con (pos 1)) (con (pos 0)) (e ⊖ z ⊗ f) ∷ eqn z f (con (pos 0)) ∷ []) (λ e z f. e) (λ e z f. con (pos 0)) tt (whole_n e) (num_of z1) F.s1 (a.lift_is, (none, tt))

-- ---- without earth return nothing goes to earth, so that W0 at the faulted board is the lift itself
module _ (q : Asked) (a : Fair q) (h : lifts q ≡ true) (E : ℤ) (v : Values) (laws : Laws q E v) where
  open q use {boards, fault, k}
  open v use {W, F}

  free : Open q F nil_n
  free = record { no_out = no_earth_current q a E v laws; no_lift = λ l. refl }

  at_k : (W k).s0 ≡ nil_n → W k ≡ at_fault q E F nil_n
  unfolding left_by voltage_of
  at_k w = (λ i. seq (left1 q a E v laws k a.k_from a.k_to i) (left2 q a E v laws k a.k_from a.k_to i) (zero_there i)) ∙ at_fault_lem q E F nil_n
    where
      zero_there : (W k).s0 ≡ neg_n (num_of (shared0 boards k k) *N F.s0) +N only_if (joined boards k k) nil_n
      zero_there =
          w
          ∙ sym (ap₂ (λ f x. neg_n (num_of (shared0 boards k k) *N f) +N x) (free.no_out (lifts_freed q h).0) (only_nil (joined boards k k) refl)
          ∙ solve Nring 1 (λ z. ⊝ (z ⊗ con (pos 0)) ⊕ con (pos 0)) (λ z. con (pos 0)) tt (num_of (shared0 boards k k)))

  pub source_gone : (W k).s0 ≡ nil_n → E ≡ pos 0
  unfolding Connected at_fault
  source_gone w =
      let f = lifts_freed q h in
      let meets = subst (λ x. Connected fault x F) (at_k w) laws.connected in
      let r = answered fault (Z1 boards k) (Z2 boards k) (Z0 boards k) a.z2_some E F nil_n (unearthed boards k) fault.kind free.no_out (λ no. refl) meets in
      ap (λ (n : Num). n.x0) (go f.1 (subst (λ u. Unlifted fault (Z1 boards k) (Z2 boards k) (Z0 boards k) E F u fault.kind) f.0 r))
    where
      go : (fault.kind ≡ 1) ⊎ (fault.kind ≡ 3) → Unlifted fault (Z1 boards k) (Z2 boards k) (Z0 boards k) E F true fault.kind → whole_n E ≡ nil_n
      go (inl e) r = one_phase fault (Z1 boards k) (Z2 boards k) (Z0 boards k) E F (subst (Unlifted fault (Z1 boards k) (Z2 boards k) (Z0 boards k) E F true) e r)
      go (inr e) r = two_phases_lem fault (Z1 boards k) (Z2 boards k) (Z0 boards k) E F a.z2_some (subst (Unlifted fault (Z1 boards k) (Z2 boards k) (Z0 boards k) E F true) e r)

pub wrong : (net flt : List ℕ) (room : ℕ) → (verdict net flt room).number ≡ 0 → lifts (asked net flt) ≡ true
    → (E : ℤ) (v : Values) → (E ≡ pos 0 → ⊥) → Laws (asked net flt) E v → (v.W (asked net flt).k).s0 ≡ nil_n → ⊥
wrong net flt room accepted h E v some laws w = some (source_gone (asked net flt) (fair net flt room accepted) h E v laws w)
