-- Each part fits, by one computed test of the bounds.
use Rattle.std.proofs.Common.{List, [], ◌∷◌, ℕ, ℤ}
use Rattle.lemmas.specs.Small.{Small}
use Rattle.lemmas.proofs.Solver.{var, ◌⊖◌, ◌⊗◌}
use Rattle.lemmas.proofs.Words.{Known, know, fits, reads as read}
use Rattle.worked.proofs.less_square.Goals as goal

-- the words, with their bounds: a is var 0, b is var 1
abbrev k : {a b : ℤ} {m n : ℕ} → Small m a × Small n b → List Known
k r = know r.0 ∷ know r.1 ∷ []

pub overflow_mul-result : goal.overflow_mul-result
overflow_mul-result c = fits (k c.requires) (var 1 ⊗ var 1) tt

pub overflow_sub-result : goal.overflow_sub-result
overflow_sub-result c = fits (k c.requires) (var 0 ⊖ var 1 ⊗ var 1) tt

pub returns : goal.returns
returns c = read (k c.requires) (var 0 ⊖ var 1 ⊗ var 1) tt
