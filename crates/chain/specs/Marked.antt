-- The chain of a board, in terms of nodes: climbed, and marked. That it is the paper's is a theorem (proofs/, `Climb`). Assumes nothing.
use Rattle.std.specs.Prelude.{Bool, true, false, List, [], ◌∷◌, ℕ, zero, suc, ◌-◌, ◌≤◌, get_or, set, replicate}
use Rattle.paper.specs.Chain.{climb}
use Rattle.node.specs.declared.Node.{Node}
use Rattle.node.specs.Node.{no_node}

-- "Any other feeder is the label of an earlier record."
pub record FromEarlier (nodes : List Node) : Type 0 where
  pub earlier : (i : ℕ) → (get_or nodes i no_node).feeder ≤ i

-- the feeder that a node says, place by place
unfoldable pub feeder_in : List Node → ℕ → ℕ
feeder_in nodes zero = 0
feeder_in nodes (suc i) = (get_or nodes i no_node).feeder

-- places, marked
unfoldable pub marked : List ℕ → List Bool → List Bool
marked [] on = on
marked (r ∷ rs) on = marked rs (set on (r - 1) true)

unfoldable pub marks_of : List Node → ℕ → List Bool
marks_of nodes k = marked (climb k (feeder_in nodes) k) (replicate 256 false)
