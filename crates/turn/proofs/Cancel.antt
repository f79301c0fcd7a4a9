-- No number but 0 is carried to 0 by a positive whole number, or by an R + jX that is not 0; so they cancel, and so does a turn. Assumes nothing.
use mathlib.Core.List.{[], ◌∷◌}
use mathlib.Core.Path.{◌≡◌, refl, sym, ◌∙◌, ap, ap₂}
use Prim.Native.Nat.{ℕ, zero, suc, ◌+◌, ◌*◌}
use lib.IntN.{ℤ, pos, nat_abs, ◌+ℤ◌}
use Rattle.lemmas.proofs.Ring.{sub_zer, mul_zer}
use Rattle.lemmas.proofs.Solver.{con, ◌⊗◌, ◌⊖◌, eqn}
use Rattle.lemmas.proofs.Solve.{solve, solve_by}
use Rattle.lemmas.proofs.Distance.{square_pos, squares_zero}
use Rattle.lemmas.proofs.Cancel.{no_zero}
use Rattle.turn.specs.declared.Num.{Num}
use Rattle.turn.specs.Number.{whole_n, complex_n, one_n, power_n, turn_n, times_t, ◌+N◌, ◌-N◌, ◌·N◌, ◌*N◌, conj_n, square_n}
use Rattle.turn.proofs.Form.{alike}
use Rattle.turn.proofs.Ring.{Nring, whole_times}
use Rattle.turn.proofs.Conj.{complex_square, turn_absolute}

multiple_zero : (k : ℕ) (u : Num) → pos (suc k) ·N u ≡ whole_n (pos 0) → u ≡ whole_n (pos 0)
unfolding ◌·N◌
multiple_zero k u e =
    alike (no_zero k u.x0 (ap (λ (n : Num). n.x0) e)) (no_zero k u.x1 (ap (λ (n : Num). n.x1) e)) (no_zero k u.x2 (ap (λ (n : Num). n.x2) e))
    (no_zero k u.x3 (ap (λ (n : Num). n.x3) e))

pub no_zero_whole : (k : ℕ) (u : Num) → whole_n (pos (suc k)) *N u ≡ whole_n (pos 0) → u ≡ whole_n (pos 0)
no_zero_whole k u h = multiple_zero k u (sym (whole_times (pos (suc k)) u) ∙ h)

-- a sum of two squares that is not 0 is a positive whole number, and R + jX times its conjugate is that
squares : (r x : ℤ) → square_n (complex_n r x) ≡ pos (nat_abs r * nat_abs r + nat_abs x * nat_abs x)
unfolding square_n
squares r x = ap₂ ◌+ℤ◌ (square_pos r) (square_pos x)

pub no_zero_complex : (r x : ℤ) (u : Num) → (complex_n r x ≡ whole_n (pos 0) → ⊥) → complex_n r x *N u ≡ whole_n (pos 0) → u ≡ whole_n (pos 0)
no_zero_complex r x u other h = go (nat_abs r * nat_abs r + nat_abs x * nat_abs x) refl
  where
    z : Num
    z = complex_n r x

    go : (n : ℕ) → nat_abs r * nat_abs r + nat_abs x * nat_abs x ≡ n → u ≡ whole_n (pos 0)
    go zero e = let w = squares_zero r x e in absurd (other (λ i. complex_n (w.0 i) (w.1 i)))
    go (suc k) e =
        no_zero_whole k u
        (ap (λ (n : ℕ). whole_n (pos n) *N u) (sym e) ∙ ap (λ t. whole_n t *N u) (sym (squares r x)) ∙ ap (λ t. t *N u) (sym (complex_square r x))
        ∙ solve Nring 3 (λ a b c. a ⊗ b ⊗ c) (λ a b c. b ⊗ (a ⊗ c)) tt z (conj_n z) u
        ∙ ap (λ t. conj_n z *N t) h
        ∙ mul_zer Nring (conj_n z))

-- ---- so they cancel
module _ (z u v : Num) where
  apart : z *N u ≡ z *N v → z *N (u -N v) ≡ whole_n (pos 0)
  apart h = solve Nring 3 (λ n x y. n ⊗ (x ⊖ y)) (λ n x y. n ⊗ x ⊖ n ⊗ y) tt z u v ∙ ap (λ t. t -N z *N v) h ∙ Nring.add_neg (z *N v)

pub cancel_whole : (k : ℕ) (u v : Num) → whole_n (pos (suc k)) *N u ≡ whole_n (pos (suc k)) *N v → u ≡ v
cancel_whole k u v h = sub_zer Nring u v (no_zero_whole k (u -N v) (apart (whole_n (pos (suc k))) u v h))

pub cancel_complex : (r x : ℤ) (u v : Num) → (complex_n r x ≡ whole_n (pos 0) → ⊥) → complex_n r x *N u ≡ complex_n r x *N v → u ≡ v
cancel_complex r x u v other h = sub_zer Nring u v (no_zero_complex r x (u -N v) other (apart (complex_n r x) u v h))

-- a turn cancels: times its conjugate it is one
pub turn_cancels : (n : ℕ) (x y : Num) → turn_n n x ≡ turn_n n y → x ≡ y
unfolding power_n times_t conj_n ◌+N◌ ◌·N◌
turn_cancels n x y h =
    solve_by Nring 4 (λ t c x y. eqn (y ⊖ x) (t ⊗ con (pos 1) ⊗ c) (con (pos 1) ⊗ con (pos 1)) ∷ eqn c (t ⊗ x) (t ⊗ y) ∷ []) (λ t c x y. x) (λ t c x y. y) tt
    (power_n n) (conj_n (turn_n n one_n)) x y (turn_absolute n one_n, (h, tt))
