-- The conjugate, and the numbers R + jX. Assumes nothing.
use mathlib.Core.Path.{◌≡◌, refl, sym, ◌∙◌, ap}
use mathlib.Core.List.{[], ◌∷◌}
use Prim.Native.Nat.{ℕ, zero, suc, ◌+◌, ◌*◌}
use native.Mathlib.Omega.{arith}
use lib.IntN.{ℤ, neg_ℤ, ◌+ℤ◌, ◌-ℤ◌, ◌*ℤ◌}
use Rattle.lemmas.proofs.Solver.{var, ◌⊕◌, ◌⊗◌, ◌⊖◌, ⊝◌}
use Rattle.turn.specs.declared.Num.{Num}
use Rattle.turn.specs.Number.{whole_n, complex_n, ◌+N◌, neg_n, ◌·N◌, ◌*N◌, times_t, power_n, turn_n, conj_n, square_n}
use Rattle.turn.proofs.Form.{Form, add_f, neg_f, times_t_f, sum_f, mul_f, con_f, whole_f, complex_f, ring_f, by_coordinates}
use Rattle.turn.proofs.Powers.{times_t_lem, power_add, turn_zero, turn_suc}

abbrev pub conj_f : Form → Form
unfolding power_n times_t
conj_f a = sum_f a (con_f (power_n 0)) (con_f (power_n 11)) (con_f (power_n 22)) (con_f (power_n 33))

pub conj_add : (a b : Num) → conj_n (a +N b) ≡ conj_n a +N conj_n b
unfolding conj_n ◌+N◌ ◌·N◌ power_n times_t
conj_add = by_coordinates 2 (λ a b. conj_f (add_f a b)) (λ a b. add_f (conj_f a) (conj_f b)) tt

pub conj_neg : (a : Num) → conj_n (neg_n a) ≡ neg_n (conj_n a)
unfolding conj_n ◌+N◌ ◌·N◌ neg_n power_n times_t
conj_neg = by_coordinates 1 (λ a. conj_f (neg_f a)) (λ a. neg_f (conj_f a)) tt

pub conj_mul : (a b : Num) → conj_n (a *N b) ≡ conj_n a *N conj_n b
unfolding conj_n ◌*N◌ ◌+N◌ ◌·N◌ power_n times_t
conj_mul = by_coordinates 2 (λ a b. conj_f (mul_f a b)) (λ a b. mul_f (conj_f a) (conj_f b)) tt

pub conj_conj : (a : Num) → conj_n (conj_n a) ≡ a
unfolding conj_n ◌+N◌ ◌·N◌ power_n times_t
conj_conj = by_coordinates 1 (λ a. conj_f (conj_f a)) (λ a. a) tt

-- every power of t goes to its eleventh power
pub conj_power : (n : ℕ) → conj_n (power_n n) ≡ power_n (11 * n)
unfolding conj_n ◌+N◌ ◌·N◌ power_n times_t
conj_power zero = refl
conj_power (suc n) =
    let e : 11 + 11 * n ≡ 11 * suc n = omega arith in
    ap conj_n (sym (times_t_lem (power_n n))) ∙ conj_mul (power_n 1) (power_n n) ∙ ap (λ (a : Num). power_n 11 *N a) (conj_power n) ∙ sym (power_add 11 (11 * n))
    ∙ ap power_n e

-- a turn keeps the absolute value
times_absolute : (a : Num) → times_t a *N conj_n (times_t a) ≡ a *N conj_n a
unfolding conj_n ◌*N◌ ◌+N◌ ◌·N◌ power_n times_t
times_absolute = by_coordinates 1 (λ a. mul_f (times_t_f a) (conj_f (times_t_f a))) (λ a. mul_f a (conj_f a)) tt

pub turn_absolute : (n : ℕ) (a : Num) → turn_n n a *N conj_n (turn_n n a) ≡ a *N conj_n a
turn_absolute zero a = ap (λ (b : Num). b *N conj_n b) (turn_zero a)
turn_absolute (suc n) a = ap (λ (b : Num). b *N conj_n b) (turn_suc n a) ∙ times_absolute (turn_n n a) ∙ turn_absolute n a

-- ---- R + jX

module _ (r x s y : ℤ) where
  pub complex_add : complex_n r x +N complex_n s y ≡ complex_n (r +ℤ s) (x +ℤ y)
  unfolding ◌+N◌
  complex_add = refl

  pub complex_mul : complex_n r x *N complex_n s y ≡ complex_n (r *ℤ s -ℤ x *ℤ y) (r *ℤ y +ℤ x *ℤ s)
  unfolding ◌*N◌ ◌+N◌ ◌·N◌ times_t
  complex_mul = ring_f (r ∷ x ∷ s ∷ y ∷ []) (mul_f (complex_f (var 0) (var 1)) (complex_f (var 2) (var 3))) (complex_f (var 0 ⊗ var 2 ⊖ var 1 ⊗ var 3) (var 0 ⊗ var 3 ⊕ var 1 ⊗ var 2)) tt

module _ (r x : ℤ) where
  pub complex_neg : neg_n (complex_n r x) ≡ complex_n (neg_ℤ r) (neg_ℤ x)
  unfolding neg_n
  complex_neg = refl

  pub complex_conj : conj_n (complex_n r x) ≡ complex_n r (neg_ℤ x)
  unfolding conj_n ◌+N◌ ◌·N◌ power_n times_t
  complex_conj = ring_f (r ∷ x ∷ []) (conj_f (complex_f (var 0) (var 1))) (complex_f (var 0) (⊝ var 1)) tt

  -- "D is the square of its absolute value"
  pub complex_square : complex_n r x *N conj_n (complex_n r x) ≡ whole_n (square_n (complex_n r x))
  unfolding conj_n square_n ◌*N◌ ◌+N◌ ◌·N◌ power_n times_t
  complex_square = ring_f (r ∷ x ∷ []) (mul_f (complex_f (var 0) (var 1)) (conj_f (complex_f (var 0) (var 1)))) (whole_f (var 0 ⊗ var 0 ⊕ var 1 ⊗ var 1)) tt
