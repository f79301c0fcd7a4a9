use Rattle.decimal.proofs.Pens.{left_all, left_then, left_last}
use Rattle.decimal.proofs.Pen.field.Goals as goal

pub decimal-requires : goal.decimal-requires
decimal-requires c = (left_then (left_all c.requires) c.byte.ensures).room

pub returns : goal.returns
returns c = left_last (left_then (left_all c.requires) c.byte.ensures) c.decimal.ensures
