use mathlib.Core.Bool.{◌&&◌}
use Rattle.paper.specs.Bytes.{within}
use Rattle.paper.specs.Kind.{is_zero}
use Rattle.paper.specs.Refusal.{z1_forgotten}
use Rattle.kind.proofs.forgotten.z1_forgotten.Goals as goal

pub returns : goal.returns
unfolding z1_forgotten within is_zero
returns c = let b = c.args.b in λ i. within 3 5 b.kind && c.eq.ensures i
