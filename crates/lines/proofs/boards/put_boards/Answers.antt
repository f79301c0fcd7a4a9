use native.Mathlib.Omega.{arith}
use Rattle.decimal.proofs.Pens.{left_all, left_as, left_then, left_none, fits_front}
use Rattle.lines.proofs.BoardLines.{next_board, no_board_lem}
use Rattle.lines.proofs.boards.put_boards.Goals as goal

pub loop-i-init : goal.loop-i-init
loop-i-init c = left_all c.requires.room

pub put_board-requires : goal.put_board-requires
put_board-requires c =
    let l = c.loop-i in
    record { in_bounds = omega arith; room = fits_front _ (left_as (next_board c.args.net.now c.args.zs.now c.args.n c.requires.n_value l.i (omega arith) c.label_of-l.ensures) l.invariant).room }

pub loop-i-preserved : goal.loop-i-preserved
loop-i-preserved c =
    let l = c.loop-i in
    left_then (left_as (next_board c.args.net.now c.args.zs.now c.args.n c.requires.n_value l.i (omega arith) c.label_of-l.ensures) l.invariant) c.put_board.ensures

pub returns : goal.returns
returns c =
    let l = c.loop-i in
    left_none (left_as (no_board_lem c.args.net.now c.args.zs.now c.args.n c.requires.n_value l.i _ (omega arith)) l.invariant)
