-- What a board gets from its chain, and how it comes from its feeder's. Assumes nothing.
use Rattle.std.specs.Prelude.{Bool, cond, ◌||◌, ℕ, ◌+◌, ◌≤◌, eqb}
use Rattle.paper.specs.declared.Ohms.{Ohms}
use Rattle.paper.specs.declared.Board.{Board}
use Rattle.paper.specs.Kind.{ohms, ◌+Ω◌, Zero, starts, goes_on, none, kind_of, term, part_over}
use Rattle.paper.specs.Bounds.{AtMost}
use Rattle.paper.specs.Chain.{Boards, feeder_of, part_head, unearthed, Z1, Z2, Z0, turn_of}
use Rattle.node.specs.declared.Node.{Node}

-- where the zero sequence of board r starts: at the head of its part, or nowhere (0) where that has no earth return
unfoldable pub start_of : Boards → ℕ → ℕ
start_of bs r = cond (unearthed bs r) 0 (part_head bs r)

-- the paper's sums of board r
unfoldable pub node_of : Boards → ℕ → Node
node_of bs r = record { z1 = Z1 bs r; z2 = Z2 bs r; z0 = Z0 bs r; feeder = feeder_of bs r; head = part_head bs r; start = start_of bs r; turn = turn_of bs r }

abbrev pub no_node : Node
no_node = record { z1 = ohms 0 0; z2 = ohms 0 0; z0 = ohms 0 0; feeder = 0; head = 0; start = 0; turn = 0 }

-- ---- what keeps a record's sums in their words: no part over 4,095, and at most 11 turns for each of the 255 records above
pub record OwnSmall (b : Board) : Type 0 where
  pub own1 : AtMost 4095 b.z1
  pub own2 : AtMost 4095 b.z2
  pub own0 : AtMost 4095 b.z0
  pub own_n : AtMost 4095 b.zn
  pub own_clock : b.clock ≤ 11

pub record UpSmall (up : Node) : Type 0 where
  pub up1 : AtMost 4095 up.z1
  pub up2 : AtMost 4095 up.z2
  pub up0 : AtMost 4095 up.z0
  pub up_turn : up.turn ≤ 2805

-- ---- record r after its feeder: what the reader computes. That it is the paper's is a theorem (`records`, `node_next`)
-- with a zero sequence
abbrev pub zeroed : Node → Ohms → ℕ → ℕ → Node
zeroed n z h s = record { z1 = n.z1; z2 = n.z2; z0 = z; feeder = n.feeder; head = h; start = s; turn = n.turn }

unfoldable pub with_zero : Node → Board → ℕ → Zero → Node → Node
with_zero n b r (starts t) up = zeroed n (term t b) r r
with_zero n b r (goes_on t) up = zeroed n (cond (eqb up.start 0) (ohms 0 0) (term t b +Ω up.z0)) up.head up.start
with_zero n b r none up = zeroed n (ohms 0 0) r 0

unfoldable pub node_from : ℕ → Board → ℕ → Node → Node
node_from r b feeder up =
    with_zero (record { z1 = b.z1 +Ω up.z1; z2 = b.z2 +Ω up.z2; z0 = ohms 0 0; feeder = feeder; head = 0; start = 0; turn = b.clock + up.turn }) b r (kind_of b.kind).zero_seq up

-- 11
unfoldable pub node_over : Node → Bool
node_over n = part_over 4095 n.z1 || part_over 4095 n.z2 || part_over 4095 n.z0
