-- Number behind number.
use Rattle.decimal.proofs.Pens.{left_by, left_then, left_last, fits_front}
use Rattle.stream.proofs.Pieces.{three_pieces}
use Rattle.stream.proofs.part.put_three.Goals as goal

pub little-requires : goal.little-requires
little-requires c = fits_front _ (left_by (three_pieces c.args.a c.args.b c.args.c) c.requires).room

pub little-requires-2 : goal.little-requires-2
little-requires-2 c = fits_front _ (left_then (left_by (three_pieces c.args.a c.args.b c.args.c) c.requires) c.little.ensures).room

pub little-requires-3 : goal.little-requires-3
little-requires-3 c =
    (left_then (left_then (left_by (three_pieces c.args.a c.args.b c.args.c) c.requires) c.little.ensures) c.little-2.ensures).room

pub returns : goal.returns
returns c =
    left_last (left_then (left_then (left_by (three_pieces c.args.a c.args.b c.args.c) c.requires) c.little.ensures) c.little-2.ensures) c.little-3.ensures
