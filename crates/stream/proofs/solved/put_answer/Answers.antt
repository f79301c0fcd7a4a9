-- The elements behind the head.
use Rattle.decimal.proofs.Pens.{left_by, left_then, left_last, fits_front}
use Rattle.stream.proofs.Pieces.{answer_pieces}
use Rattle.stream.proofs.solved.put_answer.Goals as goal

pub put_head-requires : goal.put_head-requires
put_head-requires c = fits_front _ (left_by (answer_pieces c.args.given c.args.shown.now c.args.zs.now) c.requires).room

pub put_elements-requires : goal.put_elements-requires
put_elements-requires c = (left_then (left_by (answer_pieces c.args.given c.args.shown.now c.args.zs.now) c.requires) c.put_head.ensures).room

pub returns : goal.returns
returns c =
    left_last (left_then (left_by (answer_pieces c.args.given c.args.shown.now c.args.zs.now) c.requires) c.put_head.ensures) c.put_elements.ensures
