use mathlib.Core.List.{List, []}
use Rattle.lemmas.proofs.Solver.{var, ⊝◌}
use Rattle.lemmas.proofs.Words.{Known, reads as read}
use Rattle.turn.specs.Number.{neg_n}
use Rattle.turn.proofs.Operands.{coordinates}
use Rattle.turn.proofs.arithmetic.NumNeg.neg.Goals as goal

-- The opposite: no coordinate is the least word, which has no opposite. Assumes nothing.
abbrev k : goal.After-struct_told-4-1 → List Known
k c = coordinates c.requires []

pub returns : goal.returns
unfolding neg_n
returns c = λ i. record { x0 = read (k c) (⊝ var 0) tt i; x1 = read (k c) (⊝ var 1) tt i; x2 = read (k c) (⊝ var 2) tt i; x3 = read (k c) (⊝ var 3) tt i }
