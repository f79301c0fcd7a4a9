use mathlib.Core.Path.{refl}
use Rattle.paper.specs.Kind.{◌+Ω◌, thrice}
use Rattle.kind.proofs.zero.with_neutral.Goals as goal

pub returns : goal.returns
unfolding ◌+Ω◌ thrice
returns c = refl
