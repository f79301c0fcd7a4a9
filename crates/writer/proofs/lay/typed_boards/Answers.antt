use Rattle.std.proofs.Common.{arith}
use Rattle.paper.specs.Chain.{no_board}
use Rattle.writer.proofs.InType.{all_more, all_of}
use Rattle.writer.proofs.lay.typed_boards.Goals as goal

pub loop-b-init : goal.loop-b-init
loop-b-init c = tt

pub loop-b-preserved : goal.loop-b-preserved
loop-b-preserved c = all_more c.loop-b.b-index c.args.boards.now no_board (omega arith) c.loop-b.invariant c.typed.ensures

pub returns : goal.returns
returns c = all_of c.loop-b.b-index c.args.boards.now (omega arith) c.loop-b.invariant
