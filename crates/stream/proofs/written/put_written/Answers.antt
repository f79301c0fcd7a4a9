use Rattle.decimal.proofs.Pens.{left_by, left_then, left_last, fits_front}
use Rattle.stream.proofs.Pieces.{written_pieces}
use Rattle.stream.proofs.written.put_written.Goals as goal

pub put_three-requires : goal.put_three-requires
put_three-requires c = fits_front _ (left_by (written_pieces c.args.given c.args.file.now) c.requires).room

pub put_part-requires : goal.put_part-requires
put_part-requires c = fits_front _ (left_then (left_by (written_pieces c.args.given c.args.file.now) c.requires) c.put_three.ensures).room

pub little-requires : goal.little-requires
little-requires c =
    fits_front _ (left_then (left_then (left_by (written_pieces c.args.given c.args.file.now) c.requires) c.put_three.ensures) c.put_part.ensures).room

pub bytes-requires : goal.bytes-requires
bytes-requires c =
    (left_then (left_then (left_then (left_by (written_pieces c.args.given c.args.file.now) c.requires) c.put_three.ensures) c.put_part.ensures) c.little.ensures).room

pub returns : goal.returns
returns c =
    left_last (left_then (left_then (left_then (left_by (written_pieces c.args.given c.args.file.now) c.requires) c.put_three.ensures) c.put_part.ensures) c.little.ensures) c.bytes.ensures
