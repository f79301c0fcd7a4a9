-- Three phases taken back to the sequences that they show, three times each. Assumes nothing.
use mathlib.Core.List.{[], ◌∷◌}
use mathlib.Core.Path.{◌≡◌, refl, sym, ◌∙◌, ap, ap₂}
use Prim.Native.Nat.{ℕ, zero, suc, ◌+◌, ◌*◌}
use native.Mathlib.Omega.{arith}
use lib.IntN.{pos}
use Rattle.lemmas.proofs.Solver.{E, con, ◌⊕◌, ◌⊗◌, eqn}
use Rattle.lemmas.proofs.Solve.{solve_by}
use Rattle.turn.specs.declared.Num.{Num}
use Rattle.turn.specs.Number.{whole_n, one_n, ◌+N◌, ◌*N◌, power_n, times_t, turn_n}
use Rattle.turn.proofs.TRing.{Tring}
use Rattle.turn.proofs.Powers.{power_add, again}
use Rattle.paper.specs.declared.Seq.{Seq}
use Rattle.paper.specs.Fault.{seq}
use Rattle.paper.specs.Phase.{shows}
use Rattle.laws.specs.Seen.{thrice}

-- turns that go round
round : (n : ℕ) → power_n (12 * n) ≡ one_n
round zero = refl
round (suc n) = let e : 12 * suc n ≡ 12 + 12 * n = omega arith in ap power_n e ∙ again (12 * n) ∙ round n

undone : (m n r : ℕ) → m + n ≡ 12 * r → power_n m *N power_n n ≡ one_n
undone m n r e = sym (power_add m n) ∙ ap power_n e ∙ round r

-- ---- as expressions
abbrev shows_e : E Num → E Num → E Num → E Num → E Num → E Num → ℕ → E Num
shows_e u x y a b c i = u ⊗ (c ⊕ con (power_n (8 * i)) ⊗ y ⊗ a ⊕ con (power_n (4 * i)) ⊗ x ⊗ b)

abbrev three_e : E Num
three_e = con (whole_n (pos 3))

-- ---- u = t^(8p), w = t^(4p), y = t^(-d), x = t^d
module _ (p sj sk : ℕ) (X : Seq) where
  abbrev u : Num
  u = power_n (8 * p)

  abbrev w : Num
  w = power_n (4 * p)

  abbrev x : Num
  x = power_n (sj + 11 * sk)

  abbrev y : Num
  y = power_n (11 * sj + sk)

  wu : w *N u ≡ one_n
  wu = undone (4 * p) (8 * p) p (omega arith)

  xy : x *N y ≡ one_n
  xy = undone (sj + 11 * sk) (11 * sj + sk) (sj + sk) (omega arith)

  apart : (i : ℕ) → shows p sj sk X i ≡ u *N (X.s0 +N power_n (8 * i) *N y *N X.s1 +N power_n (4 * i) *N x *N X.s2)
  unfolding shows
  apart i =
      let e : 8 * i + 11 * sj + sk ≡ 8 * i + (11 * sj + sk) = omega arith in
      let f : 4 * i + sj + 11 * sk ≡ 4 * i + (sj + 11 * sk) = omega arith in
      ap₂ (λ a b. u *N (X.s0 +N a *N X.s1 +N b *N X.s2)) (ap power_n e ∙ power_add (8 * i) (11 * sj + sk)) (ap power_n f ∙ power_add (4 * i) (sj + 11 * sk))

  pub back : thrice p sj sk (shows p sj sk X) ≡ seq (whole_n (pos 3) *N X.s1) (whole_n (pos 3) *N X.s2) (whole_n (pos 3) *N X.s0)
  unfolding thrice power_n times_t
  back = λ i. seq (back1 i) (back2 i) (back0 i)
    where
      back1 : turn_n (4 * p + (sj + 11 * sk)) (shows p sj sk X 0 +N turn_n 4 (shows p sj sk X 1) +N turn_n 8 (shows p sj sk X 2)) ≡ whole_n (pos 3) *N X.s1
      back1 =
          (λ i. power_add (4 * p) (sj + 11 * sk) i *N (apart 0 i +N power_n 4 *N apart 1 i +N power_n 8 *N apart 2 i))
          ∙ solve_by Tring 7 (λ w u x y a b c. eqn (three_e ⊗ a ⊗ x ⊗ y) (w ⊗ u) (con one_n) ∷ eqn (three_e ⊗ a) (x ⊗ y) (con one_n) ∷ [])
          (λ w u x y a b c. w ⊗ x ⊗ (shows_e u x y a b c 0 ⊕ con (power_n 4) ⊗ shows_e u x y a b c 1 ⊕ con (power_n 8) ⊗ shows_e u x y a b c 2)) (λ w u x y a b c. three_e ⊗ a) tt
          w u x y X.s1 X.s2 X.s0 (wu, (xy, tt))

      back2 : turn_n (4 * p + (11 * sj + sk)) (shows p sj sk X 0 +N turn_n 8 (shows p sj sk X 1) +N turn_n 4 (shows p sj sk X 2)) ≡ whole_n (pos 3) *N X.s2
      back2 =
          (λ i. power_add (4 * p) (11 * sj + sk) i *N (apart 0 i +N power_n 8 *N apart 1 i +N power_n 4 *N apart 2 i))
          ∙ solve_by Tring 7 (λ w u x y a b c. eqn (three_e ⊗ b ⊗ x ⊗ y) (w ⊗ u) (con one_n) ∷ eqn (three_e ⊗ b) (x ⊗ y) (con one_n) ∷ [])
          (λ w u x y a b c. w ⊗ y ⊗ (shows_e u x y a b c 0 ⊕ con (power_n 8) ⊗ shows_e u x y a b c 1 ⊕ con (power_n 4) ⊗ shows_e u x y a b c 2)) (λ w u x y a b c. three_e ⊗ b) tt
          w u x y X.s1 X.s2 X.s0 (wu, (xy, tt))

      back0 : turn_n (4 * p) (shows p sj sk X 0 +N shows p sj sk X 1 +N shows p sj sk X 2) ≡ whole_n (pos 3) *N X.s0
      back0 =
          (λ i. w *N (apart 0 i +N apart 1 i +N apart 2 i))
          ∙ solve_by Tring 7 (λ w u x y a b c. eqn (three_e ⊗ c) (w ⊗ u) (con one_n) ∷ []) (λ w u x y a b c. w ⊗ (shows_e u x y a b c 0 ⊕ shows_e u x y a b c 1 ⊕ shows_e u x y a b c 2)) (λ w u x y a b c. three_e ⊗ c) tt
          w u x y X.s1 X.s2 X.s0 (wu, tt)
