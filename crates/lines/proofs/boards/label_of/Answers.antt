use Prim.Native.Nat.{◌+◌, ◌*◌}
use Rattle.lines.proofs.BoardLines.{label_cut}
use Rattle.lines.proofs.boards.label_of.Goals as goal

pub returns : goal.returns
returns c = label_cut c.args.net.now (8 + 44 * c.args.i) c.board_of-board.ensures
