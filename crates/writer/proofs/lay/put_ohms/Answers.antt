-- Piece behind piece.
use Rattle.decimal.proofs.Pens.{left_all, left_then, left_last}
use Rattle.writer.proofs.lay.put_ohms.Goals as goal

pub little-requires-2 : goal.little-requires-2
little-requires-2 c = (left_then (left_all c.requires) c.little.ensures).room

pub returns : goal.returns
returns c = left_last (left_then (left_all c.requires) c.little.ensures) c.little-2.ensures
