-- Piece behind piece.
use Rattle.decimal.proofs.Pens.{left_by, left_then, left_last, fits_front}
use Rattle.stream.proofs.Pieces.{head_pieces}
use Rattle.stream.proofs.solved.put_head.Goals as goal

pub put_found-requires : goal.put_found-requires
put_found-requires c = fits_front _ (left_by (head_pieces c.args.given c.args.shown.now c.args.room) c.requires).room

pub put_part-requires : goal.put_part-requires
put_part-requires c =
    fits_front _ (left_then (left_by (head_pieces c.args.given c.args.shown.now c.args.room) c.requires) c.put_found.ensures).room

pub bytes-requires : goal.bytes-requires
bytes-requires c =
    fits_front _ (left_then (left_then (left_by (head_pieces c.args.given c.args.shown.now c.args.room) c.requires) c.put_found.ensures) c.put_part.ensures).room

pub little-requires : goal.little-requires
little-requires c =
    (left_then (left_then (left_then (left_by (head_pieces c.args.given c.args.shown.now c.args.room) c.requires) c.put_found.ensures) c.put_part.ensures) c.bytes.ensures).room

pub returns : goal.returns
returns c =
    left_last (left_then (left_then (left_then (left_by (head_pieces c.args.given c.args.shown.now c.args.room) c.requires) c.put_found.ensures) c.put_part.ensures) c.bytes.ensures) c.little.ensures
