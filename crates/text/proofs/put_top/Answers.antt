use native.Mathlib.Omega.{arith}
use Rattle.decimal.proofs.Pens.{left_by, left_then, left_last, fits_front}
use Rattle.paper.specs.File.{fault_of}
use Rattle.text.proofs.Tops.{top_pieces}
use Rattle.text.proofs.put_top.Goals as goal

pub put_fault-requires : goal.put_fault-requires
put_fault-requires c =
    fits_front _ (left_by (top_pieces (fault_of c.args.flt.now) c.args.amps c.args.zs.now c.fault_of-f.ensures) c.requires.room).room

pub put_currents-requires : goal.put_currents-requires
put_currents-requires c =
    record { in_bounds = omega arith; room = (left_then (left_by (top_pieces (fault_of c.args.flt.now) c.args.amps c.args.zs.now c.fault_of-f.ensures) c.requires.room) c.put_fault.ensures).room }

pub returns : goal.returns
returns c =
    left_last (left_then (left_by (top_pieces (fault_of c.args.flt.now) c.args.amps c.args.zs.now c.fault_of-f.ensures) c.requires.room) c.put_fault.ensures) c.put_currents.ensures
