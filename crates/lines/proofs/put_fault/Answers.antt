use Rattle.decimal.proofs.Pens.{left_by, left_then, left_two, left_last, fits_front}
use Rattle.lines.proofs.Lines.{fault_pieces}
use Rattle.lines.proofs.put_fault.Goals as goal

pub bytes-requires : goal.bytes-requires
bytes-requires c = fits_front _ (left_by (fault_pieces c.args.l c.args.kind c.args.phase c.args.amps) c.requires).room

pub put_label-requires : goal.put_label-requires
put_label-requires c =
    fits_front _ (left_then (left_by (fault_pieces c.args.l c.args.kind c.args.phase c.args.amps) c.requires) c.bytes.ensures).room

pub field-requires : goal.field-requires
field-requires c =
    fits_front _ (left_two (left_by (fault_pieces c.args.l c.args.kind c.args.phase c.args.amps) c.requires) c.bytes.ensures c.put_label.ensures).room

pub pair-requires : goal.pair-requires
pair-requires c =
    (left_then (left_two (left_by (fault_pieces c.args.l c.args.kind c.args.phase c.args.amps) c.requires) c.bytes.ensures c.put_label.ensures) c.field.ensures).room

pub returns : goal.returns
returns c =
    left_last (left_then (left_two (left_by (fault_pieces c.args.l c.args.kind c.args.phase c.args.amps) c.requires) c.bytes.ensures c.put_label.ensures) c.field.ensures) c.pair.ensures
