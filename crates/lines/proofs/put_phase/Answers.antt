-- Piece behind piece.
use Rattle.decimal.proofs.Pens.{left_by, left_then, left_two, left_last, fits_front}
use Rattle.lines.proofs.Lines.{phase_pieces}
use Rattle.lines.proofs.put_phase.Goals as goal

pub bytes-requires : goal.bytes-requires
bytes-requires c =
    fits_front _ (left_by (phase_pieces c.args.whose.now c.args.what.now c.args.letter c.args.zs.now) c.requires).room

pub bytes-requires-2 : goal.bytes-requires-2
bytes-requires-2 c =
    fits_front _ (left_then (left_by (phase_pieces c.args.whose.now c.args.what.now c.args.letter c.args.zs.now) c.requires) c.bytes.ensures).room

pub row-requires : goal.row-requires
row-requires c =
    (left_two (left_by (phase_pieces c.args.whose.now c.args.what.now c.args.letter c.args.zs.now) c.requires) c.bytes.ensures c.bytes-2.ensures).room

pub returns : goal.returns
returns c =
    left_last (left_two (left_by (phase_pieces c.args.whose.now c.args.what.now c.args.letter c.args.zs.now) c.requires) c.bytes.ensures c.bytes-2.ensures) c.row.ensures
