-- Piece behind piece: of each, what is left to write when it stands.
use Rattle.decimal.proofs.Pens.{left_by, left_then, left_two, left_last, fits_front}
use Rattle.writer.proofs.Laid.{board_pieces, left_four}
use Rattle.writer.proofs.lay.put_board.Goals as goal

pub little-requires : goal.little-requires
little-requires c = fits_front _ (left_by (board_pieces c.args.b) c.requires).room

pub put_label-requires : goal.put_label-requires
put_label-requires c = fits_front _ (left_then (left_by (board_pieces c.args.b) c.requires) c.little.ensures).room

pub put_label-requires-2 : goal.put_label-requires-2
put_label-requires-2 c = fits_front _ (left_two (left_by (board_pieces c.args.b) c.requires) c.little.ensures c.put_label.ensures).room

pub byte-requires : goal.byte-requires
byte-requires c = fits_front _ (left_then (left_two (left_by (board_pieces c.args.b) c.requires) c.little.ensures c.put_label.ensures) c.put_label-2.ensures).room

pub byte-requires-2 : goal.byte-requires-2
byte-requires-2 c = fits_front _ (left_four (left_by (board_pieces c.args.b) c.requires) c.little.ensures c.put_label.ensures c.put_label-2.ensures c.byte.ensures).room

pub put_ohms-requires : goal.put_ohms-requires
put_ohms-requires c = fits_front _ (left_then (left_four (left_by (board_pieces c.args.b) c.requires) c.little.ensures c.put_label.ensures c.put_label-2.ensures c.byte.ensures) c.byte-2.ensures).room

pub put_ohms-requires-2 : goal.put_ohms-requires-2
put_ohms-requires-2 c = fits_front _ (left_two (left_four (left_by (board_pieces c.args.b) c.requires) c.little.ensures c.put_label.ensures c.put_label-2.ensures c.byte.ensures) c.byte-2.ensures c.put_ohms.ensures).room

pub put_ohms-requires-3 : goal.put_ohms-requires-3
put_ohms-requires-3 c = fits_front _ (left_then (left_two (left_four (left_by (board_pieces c.args.b) c.requires) c.little.ensures c.put_label.ensures c.put_label-2.ensures c.byte.ensures) c.byte-2.ensures c.put_ohms.ensures) c.put_ohms-2.ensures).room

pub put_ohms-requires-4 : goal.put_ohms-requires-4
put_ohms-requires-4 c = (left_four (left_four (left_by (board_pieces c.args.b) c.requires) c.little.ensures c.put_label.ensures c.put_label-2.ensures c.byte.ensures) c.byte-2.ensures c.put_ohms.ensures c.put_ohms-2.ensures c.put_ohms-3.ensures).room

pub returns : goal.returns
returns c = left_last (left_four (left_four (left_by (board_pieces c.args.b) c.requires) c.little.ensures c.put_label.ensures c.put_label-2.ensures c.byte.ensures) c.byte-2.ensures c.put_ohms.ensures c.put_ohms-2.ensures c.put_ohms-3.ensures) c.put_ohms-4.ensures
