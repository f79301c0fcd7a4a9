-- Piece behind piece.
use native.Mathlib.Omega.{arith}
use Rattle.decimal.proofs.Pens.{left_by, left_then, left_last, fits_front}
use Rattle.text.proofs.Tops.{current_pieces}
use Rattle.text.proofs.put_currents.Goals as goal

pub row-requires : goal.row-requires
row-requires c = fits_front _ (left_by (current_pieces c.args.zs.now (omega arith)) c.requires.room).room

pub put_phases-requires : goal.put_phases-requires
put_phases-requires c = record { in_bounds = omega arith; room = (left_then (left_by (current_pieces c.args.zs.now (omega arith)) c.requires.room) c.row.ensures).room }

pub returns : goal.returns
returns c = left_last (left_then (left_by (current_pieces c.args.zs.now (omega arith)) c.requires.room) c.row.ensures) c.put_phases.ensures
