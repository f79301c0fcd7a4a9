use mathlib.Core.Path.{ap, ◌∙◌}
use lib.Dec.{lit≤}
use Rattle.turn.specs.declared.Num.{Num}
use Rattle.turn.specs.Number.{◌+N◌}
use Rattle.turn.proofs.Within.{within_weak, within_neg}
use Rattle.turn.proofs.arithmetic.NumSub.sub.Goals as goal

-- The difference: it adds the opposite. Assumes nothing.
pub returns : goal.returns
returns c = c.add.ensures ∙ ap (λ (b : Num). c.args.self +N b) c.neg.ensures

pub neg-requires : goal.neg-requires
neg-requires c = within_weak (lit≤ tt) c.requires.1

pub add-requires : goal.add-requires
add-requires c = (c.requires.0, rw c.neg.ensures (within_neg c.requires.1))
