use Rattle.std.proofs.Common.{arith}
use mathlib.Core.Path.{sym}
use Rattle.kind.proofs.ByName.{past_the_table}
use Rattle.kind.proofs.KindTryFromU8.try_from.Goals as goal

pub returns-in_default : goal.returns-in_default
returns-in_default c = sym (past_the_table c.args.kind (omega arith))
