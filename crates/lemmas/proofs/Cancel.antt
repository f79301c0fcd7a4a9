-- A positive whole number divides no zero of ℤ, so it cancels. Assumes nothing.
use mathlib.Core.Path.{◌≡◌, sym, ◌∙◌, ap}
use Prim.Native.Nat.{ℕ, suc, ◌*◌}
use native.Mathlib.Omega.{arith}
use lib.IntN.{ℤ, pos, nat_abs, ◌-ℤ◌, ◌*ℤ◌}
use Rattle.lemmas.proofs.Ring.{ℤring, sub_zer}
use Rattle.lemmas.proofs.Solver.{◌⊗◌, ◌⊖◌}
use Rattle.lemmas.proofs.Solve.{solve}
use Rattle.lemmas.proofs.Distance.{nat_abs_mul, nat_abs_zero}

pub no_zero : (k : ℕ) (z : ℤ) → pos (suc k) *ℤ z ≡ pos 0 → z ≡ pos 0
no_zero k z h = nat_abs_zero z (factor k (nat_abs z) (sym (nat_abs_mul (pos (suc k)) z) ∙ ap nat_abs h))
  where
    factor : (k m : ℕ) → suc k * m ≡ 0 → m ≡ 0
    factor k m h = omega arith

pub cancelℤ : (k : ℕ) (u v : ℤ) → pos (suc k) *ℤ u ≡ pos (suc k) *ℤ v → u ≡ v
cancelℤ k u v h =
    sub_zer ℤring u v
    (no_zero k (u -ℤ v)
    (solve ℤring 3 (λ n x y. n ⊗ (x ⊖ y)) (λ n x y. n ⊗ x ⊖ n ⊗ y) tt (pos (suc k)) u v ∙ ap (λ t. t -ℤ pos (suc k) *ℤ v) h
    ∙ ℤring.add_neg (pos (suc k) *ℤ v)))
