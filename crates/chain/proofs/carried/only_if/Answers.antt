use Rattle.paper.specs.Phase.{only_if}
use Rattle.chain.proofs.carried.only_if.Goals as goal

-- `chain::carried::only_if` meets its contract. Assumes nothing.
pub returns-then-on : goal.returns-then-on
unfolding only_if
returns-then-on c = rw c.if-on.true

pub returns-else-on : goal.returns-else-on
unfolding only_if
returns-else-on c = rw (c.if-on.false, c.whole.ensures)
