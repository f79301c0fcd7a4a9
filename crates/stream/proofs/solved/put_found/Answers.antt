use Rattle.decimal.proofs.Pens.{left_by, left_then, left_last, fits_front}
use Rattle.stream.proofs.Pieces.{found_pieces}
use Rattle.stream.proofs.solved.put_found.Goals as goal

pub put_three-requires : goal.put_three-requires
put_three-requires c = fits_front _ (left_by (found_pieces c.args.given) c.requires).room

pub little-requires : goal.little-requires
little-requires c = (left_then (left_by (found_pieces c.args.given) c.requires) c.put_three.ensures).room

pub returns : goal.returns
returns c =
    left_last (left_then (left_by (found_pieces c.args.given) c.requires) c.put_three.ensures) c.little.ensures
