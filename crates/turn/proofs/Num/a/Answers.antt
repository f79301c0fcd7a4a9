-- `turn::Num::a` meets its contract: a is t⁴, by computing.
use Rattle.std.proofs.Common.{refl}
use Rattle.turn.specs.Number.{power_n, times_t}
use Rattle.turn.proofs.Num.a.Goals as goal

pub returns : goal.returns
unfolding power_n times_t
returns c = refl
