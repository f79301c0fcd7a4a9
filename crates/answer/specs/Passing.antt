-- What the pass over the boards holds of a question that may be answered. Assumes nothing.
use Rattle.std.specs.Prelude.{Bool, List, ◌≡◌, ℕ, length}
use Rattle.paper.specs.Phase.{Asked}
use Rattle.node.specs.declared.Node.{Node}
use Rattle.node.specs.Node.{node_of, no_node}
use Rattle.node.specs.Tables.{table, nodes_of}
use Rattle.chain.specs.Marked.{marks_of}
use Rattle.board.specs.declared.front.Faulted.{Faulted}
use Rattle.board.specs.Faulted.{faulted_from}
use Rattle.answer.specs.Ready.{Ready}

module _ (q : Asked) where
  open q use {boards, fault, k}

  pub record Passing (nodes : List Node) (n : ℕ) (on : List Bool) (f : Faulted) : Type 0 where
    pub ready : Ready q
    pub nodes_are : nodes ≡ table no_node (nodes_of boards)
    pub all : n ≡ length boards
    pub marks_are : on ≡ marks_of nodes k
    pub faulted_is : f ≡ faulted_from (node_of boards k) fault
