-- Piece behind piece.
use Rattle.decimal.proofs.Pens.{left_by, left_then, left_two, left_last, fits_front}
use Rattle.decimal.proofs.Pieces.{pair_pieces}
use Rattle.decimal.proofs.Pen.pair.Goals as goal

pub returns : goal.returns
returns c = left_last (left_two (left_by (pair_pieces c.args.m c.args.n) c.requires) c.field.ensures c.field-2.ensures) c.byte.ensures

pub field-requires : goal.field-requires
field-requires c = fits_front _ (left_by (pair_pieces c.args.m c.args.n) c.requires).room

pub field-requires-2 : goal.field-requires-2
field-requires-2 c = fits_front _ (left_then (left_by (pair_pieces c.args.m c.args.n) c.requires) c.field.ensures).room

pub byte-requires : goal.byte-requires
byte-requires c = (left_two (left_by (pair_pieces c.args.m c.args.n) c.requires) c.field.ensures c.field-2.ensures).room
