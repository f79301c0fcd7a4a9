use native.Mathlib.Omega.{arith}
use Rattle.decimal.proofs.Pens.{left_all, left_as, left_then, left_none, fits_front}
use Rattle.writer.proofs.Laid.{next_letter, no_letter}
use Rattle.writer.proofs.lay.put_label.Goals as goal

pub loop-b-init : goal.loop-b-init
loop-b-init c = left_all c.requires

pub byte-requires : goal.byte-requires
byte-requires c = fits_front _ (left_as (next_letter c.args.l c.loop-b.b-index (omega arith)) c.loop-b.invariant).room

pub loop-b-preserved : goal.loop-b-preserved
loop-b-preserved c = left_then (left_as (next_letter c.args.l c.loop-b.b-index (omega arith)) c.loop-b.invariant) c.byte.ensures

pub returns : goal.returns
returns c = left_none (left_as (no_letter c.args.l c.loop-b.b-index (omega arith)) c.loop-b.invariant)
