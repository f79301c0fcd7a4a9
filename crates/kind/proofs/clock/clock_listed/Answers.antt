-- Each arm is a row of the kind table.
use Rattle.std.proofs.Common.{arith}
use Rattle.kind.proofs.ByName.{row, no_row}
use Rattle.kind.proofs.ClockRows.{clock_0, clock_odd, clock_any, clock_none}
use Rattle.kind.proofs.clock.clock_listed.Goals as goal

pub returns-in-Ok-Source : goal.returns-in-Ok-Source
returns-in-Ok-Source c = let e = row c.try_from.ensures c.in-Ok-Source.is c.in-Ok-Source.field-0-is in clock_0 c.args.kind c.args.clock c.ranges.clock (omega arith)

pub returns-in-Ok-FloatingSource : goal.returns-in-Ok-FloatingSource
returns-in-Ok-FloatingSource c = let e = row c.try_from.ensures c.in-Ok-FloatingSource.is c.in-Ok-FloatingSource.field-0-is in clock_0 c.args.kind c.args.clock c.ranges.clock (omega arith)

pub returns-in-Ok-Cable : goal.returns-in-Ok-Cable
returns-in-Ok-Cable c = let e = row c.try_from.ensures c.in-Ok-Cable.is c.in-Ok-Cable.field-0-is in clock_0 c.args.kind c.args.clock c.ranges.clock (omega arith)

pub returns-in-Ok-StarStar : goal.returns-in-Ok-StarStar
returns-in-Ok-StarStar c = let e = row c.try_from.ensures c.in-Ok-StarStar.is c.in-Ok-StarStar.field-0-is in clock_0 c.args.kind c.args.clock c.ranges.clock (omega arith)

pub returns-in-Ok-DeltaStar : goal.returns-in-Ok-DeltaStar
returns-in-Ok-DeltaStar c = clock_odd c.args.kind c.args.clock c.ranges.clock (row c.try_from.ensures c.in-Ok-DeltaStar.is c.in-Ok-DeltaStar.field-0-is)

pub returns-in-Ok-Blocking : goal.returns-in-Ok-Blocking
returns-in-Ok-Blocking c = clock_any c.args.kind c.args.clock c.ranges.clock (row c.try_from.ensures c.in-Ok-Blocking.is c.in-Ok-Blocking.field-0-is)

pub returns-in-Err : goal.returns-in-Err
returns-in-Err c = let h = no_row c.try_from.ensures c.in-Err.is in clock_none c.args.kind c.args.clock c.ranges.clock (omega arith) (omega arith) (omega arith)
