-- A board's zero sequence starts nowhere exactly where the board has no earth return: its node's one word says both. Assumes nothing.
use mathlib.Core.Bool.{Bool, true, false, cond}
use mathlib.Core.Path.{◌≡◌, refl}
use Prim.Native.Nat.{ℕ, ◌≤◌}
use native.Mathlib.Omega.{arith}
use lib.Dec.{eqb}
use borrow.Author.Tests.{ne_eqb}
use Rattle.paper.specs.Chain.{Boards, part_head, unearthed}
use Rattle.follows.proofs.Parts.{head_between}
use Rattle.node.specs.Node.{start_of}

pub starts_nowhere : (bs : Boards) (r : ℕ) → 1 ≤ r → eqb (start_of bs r) 0 ≡ unearthed bs r
unfolding start_of
starts_nowhere bs r l = go (unearthed bs r)
  where
    go : (u : Bool) → eqb (cond u 0 (part_head bs r)) 0 ≡ u
    go true = refl
    go false = let h = head_between bs r l in ne_eqb (part_head bs r) 0 (omega arith)
