-- `turn::Num::a2` meets its contract: a² is a times a, by computing.
use Rattle.std.proofs.Common.{refl}
use Rattle.turn.specs.Number.{◌*N◌, ◌+N◌, ◌·N◌, power_n, times_t}
use Rattle.turn.proofs.Num.a2.Goals as goal

pub returns : goal.returns
unfolding ◌*N◌ ◌+N◌ ◌·N◌ power_n times_t
returns c = refl
