use Rattle.kind.proofs.ClockRows.{kind_wrong_lem}
use Rattle.kind.proofs.clock.kind_wrong.Goals as goal

pub returns : goal.returns
returns c = kind_wrong_lem c.args.r c.args.b c.clock_listed.ensures
