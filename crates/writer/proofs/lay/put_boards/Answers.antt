use Rattle.std.proofs.Common.{◌≡◌, take, sym, ap, arith, rules}
use Rattle.paper.specs.Write.{boards_bytes}
use Rattle.paper.specs.Chain.{no_board}
use Rattle.decimal.specs.Wrote.{Wrote}
use Rattle.decimal.proofs.Pens.{left_by, left_as, left_then, left_none, fits_front}
use Rattle.writer.proofs.Laid.{next_board, no_board_lem, first_256}
use Rattle.writer.proofs.lay.put_boards.Goals as goal

pub loop-b-init : goal.loop-b-init
loop-b-init c = left_by (ap boards_bytes (sym (first_256 c.args.boards.now c.at_most_256-n.ensures))) (record { room = c.requires })

pub put_board-requires : goal.put_board-requires
put_board-requires c =
    let front = take c.at_most_256-n.result c.args.boards.now in
    fits_front _ (left_as (next_board front c.loop-b.b-index no_board (omega arith)) c.loop-b.invariant).room

pub loop-b-preserved : goal.loop-b-preserved
loop-b-preserved c =
    let front = take c.at_most_256-n.result c.args.boards.now in
    left_then (left_as (next_board front c.loop-b.b-index no_board (omega arith)) c.loop-b.invariant) c.put_board.ensures

pub returns : goal.returns
returns c =
    let w = left_none (left_as (no_board_lem (take c.at_most_256-n.result c.args.boards.now) c.loop-b.b-index (omega arith)) c.loop-b.invariant) in
    let wrote : Wrote 8 (boards_bytes (take 256 c.args.boards.now)) c.args.page.now c.loop-b.pen.out.now c.loop-b.pen.at = w.wrote in
    let same : c.loop-b.pen.out.ghost_name ≡ _ = w.same_buffer in
    search rules
