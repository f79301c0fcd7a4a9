-- After i turns the table holds the first i boards.
use mathlib.Core.Path.{◌≡◌}
use Rattle.stream.proofs.Boards.{filled}
use Rattle.stream.proofs.case.boards_of.Given as goal

abbrev pub invariant-loop-i : goal.invariant-loop-i
invariant-loop-i l = l.boards ≡ filled 372 l.n l.s l.i
