use mathlib.Core.Path.{refl}
use Rattle.paper.specs.Answer.{refused}
use Rattle.verdict.proofs.refused.Goals as goal

-- `verdict::refused` meets its contract. Assumes nothing.
pub returns : goal.returns
unfolding refused
returns c = refl
