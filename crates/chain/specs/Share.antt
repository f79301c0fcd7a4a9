-- What a board shares with the faulted one, in terms of nodes: what one pass in file order computes. That this is the paper's is a theorem (proofs/, `Shares`). Assumes nothing.
use Rattle.std.specs.Prelude.{Bool, cond, ℕ, eqb}
use Rattle.paper.specs.Kind.{ohms}
use Rattle.paper.specs.Chain.{Boards, shared1, shared2, shared0}
use Rattle.node.specs.declared.Node.{Node}
use Rattle.chain.specs.declared.share.Shared.{Shared}

abbrev pub no_share : Shared
no_share = record { z1 = ohms 0 0; z2 = ohms 0 0; z0 = ohms 0 0 }

-- the paper's, of boards j and k
unfoldable pub shared_of : Boards → ℕ → ℕ → Shared
shared_of bs k j = record { z1 = shared1 bs j k; z2 = shared2 bs j k; z0 = shared0 bs j k }

-- from what the feeder shares: all of the record's own sums on the chain, else the feeder's; no zero sequence where the heads of the parts differ
unfoldable pub share_from : Bool → Node → ℕ → Shared → Shared
share_from on node head up =
    record {
      z1 = cond on node.z1 up.z1;
      z2 = cond on node.z2 up.z2;
      z0 = cond (eqb node.head head) (cond on node.z0 up.z0) (ohms 0 0);
    }

-- ---- what a board shares, in place of its sums
unfoldable pub shared_in : Node → Shared
shared_in node = record { z1 = node.z1; z2 = node.z2; z0 = node.z0 }

unfoldable pub with_share : Node → Shared → Node
with_share node s = record { z1 = s.z1; z2 = s.z2; z0 = s.z0; feeder = node.feeder; head = node.head; start = node.start; turn = node.turn }
