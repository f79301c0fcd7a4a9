-- Piece behind piece.
use Rattle.decimal.proofs.Pens.{left_by, left_then, left_last, fits_front}
use Rattle.writer.proofs.Laid.{head_pieces}
use Rattle.writer.proofs.lay.put_head.Goals as goal

pub little-requires : goal.little-requires
little-requires c = fits_front _ (left_by (head_pieces c.args.h) c.requires).room

pub little-requires-2 : goal.little-requires-2
little-requires-2 c = fits_front _ (left_then (left_by (head_pieces c.args.h) c.requires) c.little.ensures).room

pub little-requires-3 : goal.little-requires-3
little-requires-3 c = fits_front _ (left_then (left_then (left_by (head_pieces c.args.h) c.requires) c.little.ensures) c.little-2.ensures).room

pub little-requires-4 : goal.little-requires-4
little-requires-4 c = (left_then (left_then (left_then (left_by (head_pieces c.args.h) c.requires) c.little.ensures) c.little-2.ensures) c.little-3.ensures).room

pub returns : goal.returns
returns c = left_last (left_then (left_then (left_then (left_by (head_pieces c.args.h) c.requires) c.little.ensures) c.little-2.ensures) c.little-3.ensures) c.little-4.ensures
