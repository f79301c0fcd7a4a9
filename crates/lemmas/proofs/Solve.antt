-- The solver with the variables by name, for any number n of them:
--   solve ℤring 2 (λ x y. (x ⊕ y) ⊗ (x ⊖ y)) (λ x y. x ⊗ x ⊖ y ⊗ y) tt a b
-- and from hypotheses, each with what it is to be multiplied by:
--   solve_by ℤring 2 (λ x y. eqn q l r ∷ []) (λ x y. ..) (λ x y. ..) tt a b (h, tt)
-- Assumes nothing.
use mathlib.Core.Path.{◌≡◌}
use mathlib.Core.List.{List, [], ◌∷◌, ◌++◌}
use Prim.Native.Nat.{ℕ, zero, suc}
use lib.Dec.{T}
use Rattle.lemmas.proofs.Ring.{Coef, CRing}
use Rattle.lemmas.proofs.Solver.{E, Eqn, var, same, same_by, eval, ring, ring_by, Means}

-- functions of n arguments
abbrev pub Fun : ℕ → Type 0 → Type 0 → Type 0
Fun zero A B = B
Fun (suc n) A B = A → Fun n A B

-- f at the variables i, i + 1, ..
abbrev pub at_vars : (K : Type 0) {B : Type 0} (n i : ℕ) → Fun n (E K) B → B
at_vars K zero i f = f
at_vars K (suc n) i f = at_vars K n (suc i) (f (var i))

module _ {κ : Coef} (R : CRing κ) where
  -- P of the values ρ with any n more behind them
  abbrev pub All : ℕ → List R.C → (List R.C → Type 0) → Type 0
  All zero ρ P = P ρ
  All (suc n) ρ P = (x : R.C) → All n (ρ ++ (x ∷ [])) P

  all : (n : ℕ) (ρ : List R.C) (P : List R.C → Type 0) → ((σ : List R.C) → P σ) → All n ρ P
  all zero ρ P h = h ρ
  all (suc n) ρ P h = λ x. all n (ρ ++ (x ∷ [])) P h

  abbrev pub vars : (n : ℕ) {B : Type 0} → Fun n (E κ.K) B → B
  vars n f = at_vars κ.K n 0 f

  pub solve : (n : ℕ) (f g : Fun n (E κ.K) (E κ.K)) → T (same κ (vars n f) (vars n g))
      → All n [] (λ ρ. eval R ρ (vars n f) ≡ eval R ρ (vars n g))
  solve n f g t = all n [] (λ ρ. eval R ρ (vars n f) ≡ eval R ρ (vars n g)) (λ ρ. ring R ρ (vars n f) (vars n g) t)

  pub solve_by : (n : ℕ) (hs : Fun n (E κ.K) (List (Eqn κ.K))) (f g : Fun n (E κ.K) (E κ.K))
      → T (same_by κ (vars n hs) (vars n f) (vars n g))
      → All n [] (λ ρ. Means R ρ (vars n hs) → eval R ρ (vars n f) ≡ eval R ρ (vars n g))
  solve_by n hs f g t =
      all n [] (λ ρ. Means R ρ (vars n hs) → eval R ρ (vars n f) ≡ eval R ρ (vars n g))
      (λ ρ h. ring_by R ρ (vars n hs) h (vars n f) (vars n g) t)
