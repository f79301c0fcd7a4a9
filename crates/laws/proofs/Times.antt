-- Values m times as large over a divisor m times as large: they are the same, and of the same form. Assumes nothing.
use mathlib.Core.Bool.{Bool, true, false}
use mathlib.Core.List.{[], ◌∷◌}
use mathlib.Core.Path.{◌≡◌, refl, sym, ◌∙◌, ap}
use lib.IntN.{ℤ, ◌*ℤ◌}
use Rattle.lemmas.proofs.Ring.{mul_zer}
use Rattle.lemmas.proofs.Solver.{eqn, ◌⊕◌, ◌⊗◌, ◌⊖◌, ⊝◌}
use Rattle.lemmas.proofs.Solve.{solve, solve_by}
use Rattle.turn.specs.declared.Num.{Num}
use Rattle.turn.specs.Number.{whole_n, ◌+N◌, neg_n, ◌-N◌, ◌*N◌}
use Rattle.turn.proofs.Ring.{Nring, whole_mul}
use Rattle.paper.specs.declared.Ohms.{Ohms}
use Rattle.paper.specs.declared.Seq.{Seq}
use Rattle.paper.specs.Fault.{num_of, seq}
use Rattle.paper.specs.Phase.{voltage_of, only_if}
use Rattle.laws.specs.Values.{Same, SameSeq}
use Rattle.laws.proofs.Fractions.{as_product, from_product}

abbrev pub times : ℤ → Seq → Seq
times m X = seq (whole_n m *N X.s1) (whole_n m *N X.s2) (whole_n m *N X.s0)

module _ (m : ℤ) where
  pub one_times : (E D : ℤ) (x y : Num) → Same E x D y → Same E x (m *ℤ D) (whole_n m *N y)
  one_times E D x y h =
      from_product E (m *ℤ D) x (whole_n m *N y)
      (ap (λ t. t *N x) (whole_mul m D)
      ∙ solve_by Nring 5 (λ m d e x y. eqn m (d ⊗ x) (e ⊗ y) ∷ []) (λ m d e x y. m ⊗ d ⊗ x) (λ m d e x y. e ⊗ (m ⊗ y)) tt (whole_n m) (whole_n D) (whole_n E) x y (as_product E D x y h, tt))

  pub same_times : (E D : ℤ) (v w : Seq) → SameSeq E v D w → SameSeq E v (m *ℤ D) (times m w)
  same_times E D v w s = record { same1 = one_times E D v.s1 w.s1 s.same1; same2 = one_times E D v.s2 w.s2 s.same2; same0 = one_times E D v.s0 w.s0 s.same0 }

  -- the part of a voltage that the source leaves
  pub left_times : (D : ℤ) (z : Ohms) (f : Num) → whole_n m *N (whole_n D -N num_of z *N f) ≡ whole_n (m *ℤ D) -N num_of z *N (whole_n m *N f)
  left_times D z f =
      solve Nring 4 (λ m d z f. m ⊗ (d ⊖ z ⊗ f)) (λ m d z f. m ⊗ d ⊖ z ⊗ (m ⊗ f)) tt (whole_n m) (whole_n D) (num_of z) f ∙ ap (λ t. t -N num_of z *N (whole_n m *N f)) (sym (whole_mul m D))

  pub voltage_times : (D : ℤ) (F : Seq) (za zb zc : Ohms) (up : Num) → times m (voltage_of D F za zb zc up) ≡ voltage_of (m *ℤ D) (times m F) za zb zc (whole_n m *N up)
  unfolding voltage_of
  voltage_times D F za zb zc up = λ i. seq (left_times D za F.s1 i) (fall i) (lifted i)
    where
      fall : whole_n m *N neg_n (num_of zb *N F.s2) ≡ neg_n (num_of zb *N (whole_n m *N F.s2))
      fall = solve Nring 3 (λ m z f. m ⊗ (⊝ (z ⊗ f))) (λ m z f. ⊝ (z ⊗ (m ⊗ f))) tt (whole_n m) (num_of zb) F.s2

      lifted : whole_n m *N (neg_n (num_of zc *N F.s0) +N up) ≡ neg_n (num_of zc *N (whole_n m *N F.s0)) +N whole_n m *N up
      lifted = solve Nring 4 (λ m z f u. m ⊗ (⊝ (z ⊗ f) ⊕ u)) (λ m z f u. ⊝ (z ⊗ (m ⊗ f)) ⊕ m ⊗ u) tt (whole_n m) (num_of zc) F.s0 up

  pub only_times : (e : Bool) (x : Num) → whole_n m *N only_if e x ≡ only_if e (whole_n m *N x)
  unfolding only_if
  only_times true x = refl
  only_times false x = mul_zer Nring (whole_n m)
