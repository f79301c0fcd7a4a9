-- `turn::Num::j` meets its contract: j is t³, by computing.
use Rattle.std.proofs.Common.{refl}
use Rattle.turn.specs.Number.{power_n, times_t}
use Rattle.turn.proofs.Num.j.Goals as goal

pub returns : goal.returns
unfolding power_n times_t
returns c = refl
