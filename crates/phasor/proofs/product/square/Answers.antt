use mathlib.Core.List.{List, []}
use Rattle.lemmas.proofs.Solver.{var, ◌⊕◌, ◌⊗◌}
use Rattle.lemmas.proofs.Words.{Known, fits, reads as read}
use Rattle.turn.specs.Number.{square_n}
use Rattle.turn.proofs.Operands.{coordinates}
use Rattle.phasor.proofs.product.square.Goals as goal

-- `phasor::product::square` meets its contract: a sum of two squares of numbers at most 2 ^ 30 from 0. Assumes nothing.
abbrev k : goal.After-struct_told-2-1 → List Known
k c = coordinates c.requires.within []

pub returns : goal.returns
unfolding square_n
returns c = read (k c) (var 0 ⊗ var 0 ⊕ var 3 ⊗ var 3) tt

pub overflow_add-result : goal.overflow_add-result
overflow_add-result c = fits (k c) (var 0 ⊗ var 0 ⊕ var 3 ⊗ var 3) tt
