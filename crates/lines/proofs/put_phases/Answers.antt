-- Line behind line.
use mathlib.Core.List.{◌++◌}
use Rattle.decimal.proofs.Pens.{left_by, left_then, left_two, left_last, fits_front}
use Rattle.lines.proofs.Lines.{three_pieces}
use Rattle.lines.proofs.put_phases.Goals as goal

pub put_phase-requires : goal.put_phase-requires
put_phase-requires c =
    fits_front _ (left_by (three_pieces (c.args.whose.now ++ c.args.what.now) c.args.zs.now) c.requires.room).room

pub put_phase-requires-2 : goal.put_phase-requires-2
put_phase-requires-2 c =
    fits_front _ (left_then (left_by (three_pieces (c.args.whose.now ++ c.args.what.now) c.args.zs.now) c.requires.room) c.put_phase.ensures).room

pub put_phase-requires-3 : goal.put_phase-requires-3
put_phase-requires-3 c =
    (left_two (left_by (three_pieces (c.args.whose.now ++ c.args.what.now) c.args.zs.now) c.requires.room) c.put_phase.ensures c.put_phase-2.ensures).room

pub returns : goal.returns
returns c =
    left_last (left_two (left_by (three_pieces (c.args.whose.now ++ c.args.what.now) c.args.zs.now) c.requires.room) c.put_phase.ensures c.put_phase-2.ensures) c.put_phase-3.ensures
