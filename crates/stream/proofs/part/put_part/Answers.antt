use Rattle.decimal.proofs.Pens.{left_by, left_last}
use Rattle.stream.proofs.Pieces.{part_pieces}
use Rattle.stream.proofs.part.put_part.Goals as goal

pub put_three-requires : goal.put_three-requires
put_three-requires c = (left_by (part_pieces c.args.part c.whose.ensures) c.requires).room

pub returns : goal.returns
returns c =
    left_last (left_by (part_pieces c.args.part c.whose.ensures) c.requires) c.put_three.ensures
