-- A question, and what a call holds of it. Assumes nothing.
use Rattle.std.specs.Prelude.{List, ◌≡◌, ℕ}
use Rattle.paper.specs.declared.Head.{Head}
use Rattle.paper.specs.declared.Fault.{Fault}
use Rattle.paper.specs.Phase.{Asked}
use Rattle.node.specs.declared.Node.{Node}
use Rattle.node.specs.Node.{no_node}
use Rattle.node.specs.Tables.{table, nodes_of}
use Rattle.answer.specs.Ready.{Ready}

module _ (q : Asked) where
  open q use {head, boards, fault, k}

  -- its head, its boards' nodes, its fault and the faulted board's place
  pub record Posed (h : Head) (nodes : List Node) (f : Fault) (place : ℕ) : Type 0 where
    pub ready : Ready q
    pub same_head : h ≡ head
    pub nodes_are : nodes ≡ table no_node (nodes_of boards)
    pub same_fault : f ≡ fault
    pub same_place : place ≡ k
