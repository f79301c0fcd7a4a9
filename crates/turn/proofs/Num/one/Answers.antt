-- `turn::Num::one` meets its contract: 1 is t⁰, by computing.
use Rattle.std.proofs.Common.{refl}
use Rattle.turn.specs.Number.{power_n}
use Rattle.turn.proofs.Num.one.Goals as goal

pub returns : goal.returns
unfolding power_n
returns c = refl
