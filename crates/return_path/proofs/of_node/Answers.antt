use Rattle.paper.specs.Return.{said}
use Rattle.return_path.proofs.Answers.{by_start, by_head}
use Rattle.return_path.proofs.of_node.Goals as goal

-- `return_path::of_node` meets its contract. Assumes nothing.
pub returns-then-node-eq0 : goal.returns-then-node-eq0
unfolding said
returns-then-node-eq0 c = by_head c.args.node c.if-node-eq0.true

pub returns : goal.returns
unfolding said
returns c = by_start c.args.node c.if-node-eq0.false
