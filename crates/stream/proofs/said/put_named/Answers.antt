-- Piece behind piece.
use Rattle.decimal.proofs.Pens.{left_all, left_then, left_last, fits_front}
use Rattle.stream.proofs.said.put_named.Goals as goal

pub put_three-requires-2 : goal.put_three-requires-2
put_three-requires-2 c = fits_front _ (left_then (left_all c.requires) c.put_three.ensures).room

pub bytes-requires : goal.bytes-requires
bytes-requires c = (left_then (left_then (left_all c.requires) c.put_three.ensures) c.put_three-2.ensures).room

pub returns : goal.returns
returns c =
    left_last (left_then (left_then (left_all c.requires) c.put_three.ensures) c.put_three-2.ensures) c.bytes.ensures
