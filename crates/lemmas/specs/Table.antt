-- A list by a rule. Assumes nothing.
use Rattle.std.specs.Prelude.{List, [], ◌∷◌, ℕ, zero, suc}

-- f at i, i + 1, .., k of them
abbrev pub tab : {X : Type 0} → (ℕ → X) → ℕ → ℕ → List X
tab f i zero = []
tab f i (suc k) = f i ∷ tab f (suc i) k
