-- Of the text that is to stand, the boards behind those that stand are left to write.
use Rattle.std.proofs.Common.{take, drop}
use Rattle.paper.specs.Write.{boards_bytes}
use Rattle.decimal.proofs.Pens.{Left}
use Rattle.writer.proofs.lay.put_boards.Given as goal

abbrev pub invariant-loop-b : goal.invariant-loop-b
invariant-loop-b l = Left l.initial.pen (boards_bytes (take 256 l.boards)) l.pen (boards_bytes (drop l.b-index l.b-items))
