use mathlib.Core.Path.{sym, ap, ◌∙◌}
use native.Mathlib.Omega.{arith}
use lib.ListN.{length}
use Rattle.decimal.proofs.Pens.{left_by, left_then, left_last, fits_front}
use Rattle.lines.proofs.Unspaced.{front, unspaced_most}
use Rattle.lines.proofs.BoardLines.{board_pieces}
use Rattle.lines.proofs.boards.put_board.Goals as goal

pub slice_bounds-l-end : goal.slice_bounds-l-end
slice_bounds-l-end c = omega (arith, c.letters-n.ensures, unspaced_most c.args.l)

pub slice_bounds-whose-end : goal.slice_bounds-whose-end
slice_bounds-whose-end c = c.letters-n.ensures ∙ sym (ap length (front c.args.l c.letters-n.ensures))

pub put_phases-requires : goal.put_phases-requires
put_phases-requires c =
    let l = c.letters-n in
    record { in_bounds = omega arith; room = fits_front _ (left_by (board_pieces c.args.l l.result c.args.zs.now l.ensures) c.requires.room).room }

pub put_phases-requires-2 : goal.put_phases-requires-2
put_phases-requires-2 c =
    let l = c.letters-n in
    record { in_bounds = omega arith; room = (left_then (left_by (board_pieces c.args.l l.result c.args.zs.now l.ensures) c.requires.room) c.put_phases.ensures).room }

pub returns : goal.returns
returns c =
    let l = c.letters-n in
    left_last (left_then (left_by (board_pieces c.args.l l.result c.args.zs.now l.ensures) c.requires.room) c.put_phases.ensures) c.put_phases-2.ensures
