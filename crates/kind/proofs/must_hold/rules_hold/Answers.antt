-- Where the match begins, the code has made five tests: `tests` lists each row's of them.
use Rattle.paper.specs.Kind.{is_zero, same_ohms}
use Rattle.kind.proofs.ByName.{row, no_row}
use Rattle.kind.proofs.HoldRows.{rules_at, rules_none}
use Rattle.kind.proofs.must_hold.rules_hold.Goals as goal

pub returns-in-Ok-Source : goal.returns-in-Ok-Source
unfolding is_zero same_ohms
returns-in-Ok-Source c =
    rules_at 0 c.args.b (row c.try_from.ensures c.in-Ok-Source.is c.in-Ok-Source.field-0-is) c.ne.ensures c.ne-2.ensures c.eq-same.ensures c.eq-no_z0.ensures c.eq-no_zn.ensures

pub returns-in-Ok-FloatingSource : goal.returns-in-Ok-FloatingSource
unfolding is_zero same_ohms
returns-in-Ok-FloatingSource c =
    rules_at 1 c.args.b (row c.try_from.ensures c.in-Ok-FloatingSource.is c.in-Ok-FloatingSource.field-0-is) c.ne.ensures c.ne-2.ensures c.eq-same.ensures c.eq-no_z0.ensures c.eq-no_zn.ensures

pub returns-in-Ok-Cable : goal.returns-in-Ok-Cable
unfolding is_zero same_ohms
returns-in-Ok-Cable c =
    rules_at 2 c.args.b (row c.try_from.ensures c.in-Ok-Cable.is c.in-Ok-Cable.field-0-is) c.ne.ensures c.ne-2.ensures c.eq-same.ensures c.eq-no_z0.ensures c.eq-no_zn.ensures

pub returns-in-Ok-StarStar : goal.returns-in-Ok-StarStar
unfolding is_zero same_ohms
returns-in-Ok-StarStar c =
    rules_at 3 c.args.b (row c.try_from.ensures c.in-Ok-StarStar.is c.in-Ok-StarStar.field-0-is) c.ne.ensures c.ne-2.ensures c.eq-same.ensures c.eq-no_z0.ensures c.eq-no_zn.ensures

pub returns-in-Ok-DeltaStar : goal.returns-in-Ok-DeltaStar
unfolding is_zero same_ohms
returns-in-Ok-DeltaStar c =
    rules_at 4 c.args.b (row c.try_from.ensures c.in-Ok-DeltaStar.is c.in-Ok-DeltaStar.field-0-is) c.ne.ensures c.ne-2.ensures c.eq-same.ensures c.eq-no_z0.ensures c.eq-no_zn.ensures

pub returns-in-Ok-Blocking : goal.returns-in-Ok-Blocking
unfolding is_zero same_ohms
returns-in-Ok-Blocking c =
    rules_at 5 c.args.b (row c.try_from.ensures c.in-Ok-Blocking.is c.in-Ok-Blocking.field-0-is) c.ne.ensures c.ne-2.ensures c.eq-same.ensures c.eq-no_z0.ensures c.eq-no_zn.ensures

pub returns-in-Err : goal.returns-in-Err
returns-in-Err c = rules_none c.args.b (no_row c.try_from.ensures c.in-Err.is)
