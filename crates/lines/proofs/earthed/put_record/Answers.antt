-- Piece behind piece.
use Rattle.decimal.proofs.Pens.{left_by, left_then, left_last, fits_front}
use Rattle.lines.proofs.EarthLine.{record_pieces}
use Rattle.lines.proofs.earthed.put_record.Goals as goal

pub bytes-requires : goal.bytes-requires
bytes-requires c = fits_front _ (left_by (record_pieces c.args.words.now c.args.place) c.requires).room

pub field-requires : goal.field-requires
field-requires c =
    fits_front _ (left_then (left_by (record_pieces c.args.words.now c.args.place) c.requires) c.bytes.ensures).room

pub byte-requires : goal.byte-requires
byte-requires c =
    (left_then (left_then (left_by (record_pieces c.args.words.now c.args.place) c.requires) c.bytes.ensures) c.field.ensures).room

pub returns : goal.returns
returns c =
    left_last (left_then (left_then (left_by (record_pieces c.args.words.now c.args.place) c.requires) c.bytes.ensures) c.field.ensures) c.byte.ensures
