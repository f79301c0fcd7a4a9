use mathlib.Core.Path.{refl}
use Rattle.chain.specs.Share.{shared_in}
use Rattle.chain.proofs.share.SharedFromNode.from.Goals as goal

-- What a node holds is read off it. Assumes nothing.
pub returns : goal.returns
unfolding shared_in
returns c = refl
