use mathlib.Core.Path.{◌≡◌, refl}
use Rattle.std.specs.Prelude.{Ok}
use Rattle.paper.specs.declared.EarthReturn.{EarthReturn}
use Rattle.paper.specs.declared.EarthReturn.TheVariants.{From, Stopped}
use Rattle.paper.specs.Refusal.{no_part}
use Rattle.paper.specs.Return.{said}
use Rattle.verdict.specs.Said.{part_said}
use Rattle.verdict.proofs.said.part_said.Goals as goal

nothing_shown : (e : EarthReturn) → no_part ≡ part_said (said (Ok e)).shown
unfolding said
nothing_shown (From r) = refl
nothing_shown (Stopped r) = refl

pub returns-in-Ok : goal.returns-in-Ok
returns-in-Ok c = rw c.in-Ok.is (nothing_shown _)

pub returns-in-Err : goal.returns-in-Err
unfolding said
returns-in-Err c = rw c.in-Err.is
