use mathlib.Core.Path.{◌∙◌, ap}
use Prim.Native.Nat.{◌*◌}
use native.Mathlib.Omega.{arith}
use Rattle.paper.specs.File.{board_of}
use Rattle.file.proofs.Decoded.{part_is}
use Rattle.stream.proofs.Boards.{none_yet, one_more, all_there}
use Rattle.stream.proofs.case.boards_of.Goals as goal

pub loop-i-init : goal.loop-i-init
loop-i-init c = none_yet 372 c.args.n c.args.s.now c.empty_board-boards.ensures

pub loop-i-preserved : goal.loop-i-preserved
loop-i-preserved c =
    one_more 372 c.args.n c.args.s.now c.loop-i.i (omega arith) (omega arith) c.loop-i.invariant (c.board_of.ensures ∙ ap board_of (part_is c.args.s.now (44 * c.loop-i.i)))

pub returns : goal.returns
returns c =
    c.loop-i.invariant ∙ all_there 372 c.args.n c.args.s.now c.loop-i.i (omega arith)
