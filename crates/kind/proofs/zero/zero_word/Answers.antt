use Rattle.paper.specs.Kind.{kind_of, kinds}
use Rattle.follows.proofs.KindTable.{unknown}
use Rattle.kind.specs.Zero.{zero_word}
use Rattle.kind.proofs.ByName.{row, no_row}
use Rattle.kind.proofs.zero.zero_word.Goals as goal

pub returns-in-Ok-Source : goal.returns-in-Ok-Source
unfolding kind_of kinds zero_word
returns-in-Ok-Source c = rw (row c.try_from.ensures c.in-Ok-Source.is c.in-Ok-Source.field-0-is)

pub returns-in-Ok-FloatingSource : goal.returns-in-Ok-FloatingSource
unfolding kind_of kinds zero_word
returns-in-Ok-FloatingSource c = rw (row c.try_from.ensures c.in-Ok-FloatingSource.is c.in-Ok-FloatingSource.field-0-is)

pub returns-in-Ok-Cable : goal.returns-in-Ok-Cable
unfolding kind_of kinds zero_word
returns-in-Ok-Cable c = rw (row c.try_from.ensures c.in-Ok-Cable.is c.in-Ok-Cable.field-0-is)

pub returns-in-Ok-StarStar : goal.returns-in-Ok-StarStar
unfolding kind_of kinds zero_word
returns-in-Ok-StarStar c = rw (row c.try_from.ensures c.in-Ok-StarStar.is c.in-Ok-StarStar.field-0-is)

pub returns-in-Ok-DeltaStar : goal.returns-in-Ok-DeltaStar
unfolding kind_of kinds zero_word
returns-in-Ok-DeltaStar c = rw (row c.try_from.ensures c.in-Ok-DeltaStar.is c.in-Ok-DeltaStar.field-0-is)

pub returns-in-Ok-Blocking : goal.returns-in-Ok-Blocking
unfolding kind_of kinds zero_word
returns-in-Ok-Blocking c = rw (row c.try_from.ensures c.in-Ok-Blocking.is c.in-Ok-Blocking.field-0-is)

pub returns-in-Err : goal.returns-in-Err
unfolding kind_of kinds zero_word
returns-in-Err c = rw (unknown c.args.kind (no_row c.try_from.ensures c.in-Err.is))
