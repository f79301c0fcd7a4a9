-- After i turns the boards behind i are left to write.
use Prim.Native.Nat.{◌+◌, ◌*◌}
use lib.ListN.{drop}
use Rattle.decimal.proofs.Pens.{Left}
use Rattle.paper.specs.File.{boards_of}
use Rattle.lines.specs.Boards.{boards_lying}
use Rattle.lines.proofs.boards.put_boards.Given as goal

abbrev pub invariant-loop-i : goal.invariant-loop-i
invariant-loop-i l = Left l.initial.pen (boards_lying (boards_of l.net) (drop 13 l.zs)) l.pen (boards_lying (drop l.i (boards_of l.net)) (drop (13 + 24 * l.i) l.zs))
