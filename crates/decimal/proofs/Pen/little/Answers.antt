-- A byte a turn.
use native.Mathlib.Omega.{arith}
use Rattle.decimal.proofs.Stored.{next_byte, no_byte}
use Rattle.decimal.proofs.Pens.{left_as, left_then, left_none, fits_front}
use Rattle.decimal.proofs.Pen.little.Goals as goal

pub byte-requires : goal.byte-requires
byte-requires g c = fits_front _ (left_as (next_byte g.row.N c.loop.counter c.loop.rest c.loop-test.true) c.loop.invariant).room

pub loop-preserved : goal.loop-preserved
loop-preserved g c = left_then (left_as (next_byte g.row.N c.loop.counter c.loop.rest c.loop-test.true) c.loop.invariant) c.byte.ensures

pub returns : goal.returns
returns g c = left_none (left_as (no_byte g.row.N c.loop.counter c.loop.rest (omega arith)) c.loop.invariant)
