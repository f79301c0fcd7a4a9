use mathlib.Core.Path.{refl}
use Rattle.paper.specs.Kind.{part_over}
use Rattle.kind.proofs.impedance.over.Goals as goal

pub returns : goal.returns
unfolding part_over
returns c = refl
