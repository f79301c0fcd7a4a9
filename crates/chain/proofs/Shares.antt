-- One pass over the boards computes the paper's shared impedances. Assumes nothing.
use mathlib.Core.Bool.{Bool, true, false}
use mathlib.Core.Path.{◌≡◌, refl, sym}
use Prim.Native.Nat.{ℕ, suc, ◌≤◌}
use lib.Dec.{eqb}
use borrow.Author.Tests.{eqb-true, eqb-false}
use Rattle.paper.specs.declared.Ohms.{Ohms}
use Rattle.paper.specs.Bytes.{one_of}
use Rattle.paper.specs.Chain.{Boards, feeder_of, chain, part_head, term1, term2, Z1, Z2, shared1, shared2}
use Rattle.follows.proofs.Shared.{sum_none, sum_on, sum_off, shared0_none, shared0_own, shared0_feeders, shared_apart}
use Rattle.node.specs.declared.Node.{Node}
use Rattle.node.specs.Node.{node_of}
use Rattle.chain.specs.declared.share.Shared.{Shared}
use Rattle.chain.specs.Share.{no_share, shared_of, share_from, shared_in, with_share}

pub made : {a b c a' b' c' : Ohms} → a ≡ a' → b ≡ b' → c ≡ c' → ◌≡◌ {A = Shared} (record { z1 = a; z2 = b; z0 = c }) (record { z1 = a'; z2 = b'; z0 = c' })
made p q r = λ i. record { z1 = p i; z2 = q i; z0 = r i }

-- what was put into a node is read back
pub read_back : (node : Node) (s : Shared) → shared_in (with_share node s) ≡ s
unfolding shared_in with_share
read_back node s = refl

module _ (bs : Boards) (k : ℕ) where
  pub share_none : shared_of bs k 0 ≡ no_share
  unfolding shared_of shared1 shared2
  share_none = made (sum_none bs k (term1 bs)) (sum_none bs k (term2 bs)) (shared0_none bs k)

  pub share_next : 1 ≤ k → (q : ℕ) → share_from (one_of (suc q) (chain bs k)) (node_of bs (suc q)) (part_head bs k) (shared_of bs k (feeder_of bs (suc q))) ≡ shared_of bs k (suc q)
  unfolding share_from shared_of node_of shared1 shared2 Z1 Z2
  share_next l q = go (one_of (suc q) (chain bs k)) refl (eqb (part_head bs (suc q)) (part_head bs k)) refl
    where
      go : (on : Bool) → one_of (suc q) (chain bs k) ≡ on → (same : Bool) → eqb (part_head bs (suc q)) (part_head bs k) ≡ same →
          share_from (one_of (suc q) (chain bs k)) (node_of bs (suc q)) (part_head bs k) (shared_of bs k (feeder_of bs (suc q))) ≡ shared_of bs k (suc q)
      go true o true s = rw (o, s) (sym (made (sum_on bs k (term1 bs) (suc q) o) (sum_on bs k (term2 bs) (suc q) o) (shared0_own bs k (suc q) o (eqb-true (part_head bs (suc q)) (part_head bs k) s))))
      go true o false s = rw (o, s) (sym (made (sum_on bs k (term1 bs) (suc q) o) (sum_on bs k (term2 bs) (suc q) o) (shared_apart bs k (suc q) (eqb-false (part_head bs (suc q)) (part_head bs k) s))))
      go false o true s = rw (o, s) (sym (made (sum_off bs k (term1 bs) q o) (sum_off bs k (term2 bs) q o) (shared0_feeders bs k q l o (eqb-true (part_head bs (suc q)) (part_head bs k) s))))
      go false o false s = rw (o, s) (sym (made (sum_off bs k (term1 bs) q o) (sum_off bs k (term2 bs) q o) (shared_apart bs k (suc q) (eqb-false (part_head bs (suc q)) (part_head bs k) s))))
