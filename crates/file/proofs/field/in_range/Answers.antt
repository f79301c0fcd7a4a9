use mathlib.Core.Path.{refl}
use Rattle.paper.specs.Bytes.{within}
use Rattle.file.proofs.field.in_range.Goals as goal

-- `file::field::in_range` meets its contract. Assumes nothing.
pub returns : goal.returns
unfolding within
returns c = refl
