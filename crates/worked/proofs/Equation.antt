-- Equations between polynomials, over the whole numbers. Assumes nothing.
use mathlib.Core.Path.{◌≡◌}
use mathlib.Core.List.{[], ◌∷◌}
use lib.IntN.{ℤ, pos, ◌+ℤ◌, ◌-ℤ◌, ◌*ℤ◌}
use Rattle.lemmas.proofs.Ring.{ℤring}
use Rattle.lemmas.proofs.Solver.{con, ◌⊕◌, ◌⊗◌, ◌⊖◌, eqn}
use Rattle.lemmas.proofs.Solve.{solve, solve_by}

-- the variables by name
pub two_squares : (a b : ℤ) → (a +ℤ b) *ℤ (a -ℤ b) ≡ a *ℤ a -ℤ b *ℤ b
two_squares = solve ℤring 2 (λ x y. (x ⊕ y) ⊗ (x ⊖ y)) (λ x y. x ⊗ x ⊖ y ⊗ y) tt

-- from hypotheses: a - (c + 1)² is 1 times (a - b²) and b + c + 1 times (b - (c + 1))
pub next_square : (a b c : ℤ) → a ≡ b *ℤ b → b ≡ c +ℤ pos 1 → a ≡ c *ℤ c +ℤ pos 2 *ℤ c +ℤ pos 1
next_square a b c p q =
    solve_by ℤring 3 (λ a b c. eqn (con (pos 1)) a (b ⊗ b) ∷ eqn (b ⊕ c ⊕ con (pos 1)) b (c ⊕ con (pos 1)) ∷ []) (λ a b c. a)
    (λ a b c. c ⊗ c ⊕ con (pos 2) ⊗ c ⊕ con (pos 1)) tt a b c (p, (q, tt))
