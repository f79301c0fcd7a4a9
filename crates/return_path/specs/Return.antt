-- What a board's node says of its earth return: what the code computes. That it is the paper's is proved with `earth`. Assumes nothing.
use Rattle.std.specs.Prelude.{cond, eqb}
use Rattle.paper.specs.Return.{Said, earth_return_from, none_stopped_at}
use Rattle.node.specs.declared.Node.{Node}

abbrev pub said_by : Node → Said
said_by n = cond (eqb n.start 0) (none_stopped_at n.head) (earth_return_from n.start)
