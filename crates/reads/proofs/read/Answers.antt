-- The nodes that are lent say none.
use mathlib.Core.Path.{refl}
use Rattle.node.specs.Node.{no_node}
use Rattle.node.proofs.Tables.{empty_table}
use Rattle.reads.proofs.read.Goals as goal

pub read-requires : goal.read-requires
read-requires c = empty_table no_node refl
