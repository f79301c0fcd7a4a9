-- Piece behind piece.
use Rattle.decimal.proofs.Pens.{left_by, left_then, left_last, fits_front}
use Rattle.stream.proofs.Pieces.{refused_pieces}
use Rattle.stream.proofs.said.put_refused.Goals as goal

pub put_three-requires : goal.put_three-requires
put_three-requires c = fits_front _ (left_by (refused_pieces c.args.why c.args.shown.now) c.requires).room

pub put_part-requires : goal.put_part-requires
put_part-requires c = fits_front _ (left_then (left_by (refused_pieces c.args.why c.args.shown.now) c.requires) c.put_three.ensures).room

pub bytes-requires : goal.bytes-requires
bytes-requires c =
    (left_then (left_then (left_by (refused_pieces c.args.why c.args.shown.now) c.requires) c.put_three.ensures) c.put_part.ensures).room

pub returns : goal.returns
returns c =
    left_last (left_then (left_then (left_by (refused_pieces c.args.why c.args.shown.now) c.requires) c.put_three.ensures) c.put_part.ensures) c.bytes.ensures
