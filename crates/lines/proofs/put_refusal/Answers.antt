use Rattle.decimal.proofs.Pens.{left_by, left_then, left_last, fits_front}
use Rattle.lines.proofs.Lines.{refused_pieces}
use Rattle.lines.proofs.put_refusal.Goals as goal

pub bytes-requires : goal.bytes-requires
bytes-requires c = fits_front _ (left_by (refused_pieces c.args.number c.args.place) c.requires).room

pub pair-requires : goal.pair-requires
pair-requires c = (left_then (left_by (refused_pieces c.args.number c.args.place) c.requires) c.bytes.ensures).room

pub returns : goal.returns
returns c = left_last (left_then (left_by (refused_pieces c.args.number c.args.place) c.requires) c.bytes.ensures) c.pair.ensures
