use mathlib.Core.List.{List, []}
use Rattle.lemmas.proofs.Solver.{var, ◌⊕◌}
use Rattle.lemmas.proofs.Words.{Known, reads as read}
use Rattle.turn.specs.Number.{◌+N◌}
use Rattle.turn.proofs.Operands.{coordinates}
use Rattle.turn.proofs.arithmetic.NumAdd.add.Goals as goal

-- The sum: each coordinate is a sum of two numbers at most 2 ^ 61 from 0. Assumes nothing.
abbrev k : goal.After-struct_told-8-1 → List Known
k c = coordinates c.requires.0 (coordinates c.requires.1 [])

pub returns : goal.returns
unfolding ◌+N◌
returns c = λ i. record { x0 = read (k c) (var 0 ⊕ var 4) tt i; x1 = read (k c) (var 1 ⊕ var 5) tt i; x2 = read (k c) (var 2 ⊕ var 6) tt i; x3 = read (k c) (var 3 ⊕ var 7) tt i }
