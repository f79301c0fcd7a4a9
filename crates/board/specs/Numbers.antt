-- The 24 numbers of a board, in the terms of the pass over the boards. That they are the paper's is a theorem (`answer`, `Boards`). Assumes nothing.
use Rattle.std.specs.Prelude.{Bool, ◌&&◌, List, ◌++◌, eqb, ℤ}
use Rattle.paper.specs.declared.Seq.{Seq}
use Rattle.paper.specs.Bounds.{AtMost}
use Rattle.paper.specs.Phase.{only_if, voltage_of, phases}
use Rattle.paper.specs.Answer.{flat}
use Rattle.node.specs.declared.Node.{Node}
use Rattle.chain.specs.declared.share.Shared.{Shared}
use Rattle.chain.specs.Carried.{carried_of}
use Rattle.board.specs.declared.front.Faulted.{Faulted}

-- ---- of a record
-- the referred voltages, of what the board shares; in the faulted board's part, which has its head, W0 is lifted
unfoldable pub left_of : Faulted → Node → Shared → Seq
left_of f n s = voltage_of f.d f.i s.z1 s.z2 s.z0 (only_if (eqb n.head f.head) f.lift)

-- "it carries I0 if it also lies on k's zero-sequence sum": on k's chain, in k's part, where that has an earth return
unfoldable pub passed_of : Faulted → Bool → Node → Seq
passed_of f on n = carried_of on (on && eqb n.head f.head && f.earthed) f.i

-- "The 24 numbers of board r ..: voltages a, b, c, then record currents a, b, c."
unfoldable pub numbers_of : Faulted → Bool → Node → Shared → List ℤ
numbers_of f on n s = flat (phases f.phase n.turn f.turn (left_of f n s)) ++ flat (phases f.phase n.turn f.turn (passed_of f on n))

-- ---- what keeps the numbers in their words
pub record ShareSmall (s : Shared) : Type 0 where
  pub share1 : AtMost 4095 s.z1
  pub share2 : AtMost 4095 s.z2
  pub share0 : AtMost 4095 s.z0
