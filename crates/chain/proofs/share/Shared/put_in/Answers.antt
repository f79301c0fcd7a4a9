use mathlib.Core.Path.{refl}
use Rattle.chain.specs.Share.{with_share}
use Rattle.chain.proofs.share.Shared.put_in.Goals as goal

-- `chain::share::Shared::put_in` meets its contract. Assumes nothing.
pub returns : goal.returns
unfolding with_share
returns c = refl
