-- What each contract of this crate rules out: a call that it allows, and an answer that it does not. Assumes nothing.
use mathlib.Core.Bool.{Bool, true, false}
use mathlib.Core.List.{List, [], ◌∷◌, ◌++◌}
use base.Fml.{Lft}
use Prim.Native.Nat.{ℕ, zero, suc, ◌+◌, ◌*◌, ◌≤◌, zero-le}
use native.Mathlib.Nat.{le_trans}
use lib.Dec.{lit≤}
use lib.IntN.{pos}
use lib.ListN.{get_or, replicate}
use Rattle.lemmas.proofs.RuledOut.{◌↛◌, RuledOut, ever, by_equation, bool, list, wholes, lent}
use Rattle.turn.specs.Number.{whole_n}
use Rattle.paper.specs.declared.Seq.{Seq}
use Rattle.paper.specs.Kind.{ohms}
use Rattle.paper.specs.Chain.{climb}
use Rattle.paper.specs.Fault.{seq}
use Rattle.paper.specs.Phase.{only_if, four}
use Rattle.paper.proofs.Told.{parts, sequences}
use Rattle.node.specs.declared.Node.{Node}
use Rattle.node.specs.Node.{no_node}
use Rattle.chain.specs.declared.share.Shared.{Shared}
use Rattle.chain.specs.Share.{no_share, share_from, shared_in, with_share}
use Rattle.chain.specs.Carried.{carried_of}
use Rattle.chain.specs.Marked.{FromEarlier, feeder_in, marked, marks_of}
use Rattle.chain.proofs.share.Shared.none.Reads as none
use Rattle.chain.proofs.share.share.Reads as share
use Rattle.chain.proofs.share.SharedFromNode.from.Reads as from
use Rattle.chain.proofs.share.Shared.put_in.Reads as put-in
use Rattle.chain.proofs.carried.carried.Reads as carried
use Rattle.chain.proofs.carried.only_if.Reads as only_if
use Rattle.chain.proofs.chain.Reads as chain

-- ---- answers told apart
abbrev ohms_told : Shared → ℕ
ohms_told s = list (parts s.z1 ++ parts s.z2 ++ parts s.z0)

abbrev node_told : Node → ℕ
node_told n = list (parts n.z1 ++ parts n.z2 ++ parts n.z0 ++ (n.feeder ∷ n.head ∷ n.start ∷ n.turn ∷ []))

abbrev bits : List Bool → ℕ
bits [] = 0
bits (b ∷ bs) = bool b + 2 * bits bs

-- ---- impedances, currents, and a node of the feeder given
abbrev shared : ℕ → ℕ → ℕ → Shared
shared x1 x2 x0 = record { z1 = ohms 0 x1; z2 = ohms 0 x2; z0 = ohms 0 x0 }

abbrev whole_seq : ℕ → ℕ → ℕ → Seq
whole_seq i1 i2 i0 = seq (whole_n (pos i1)) (whole_n (pos i2)) (whole_n (pos i0))

abbrev fed_with : ℕ → ℕ → ℕ → ℕ → Node
fed_with f x1 x2 x0 = record { z1 = ohms 0 x1; z2 = ohms 0 x2; z0 = ohms 0 x0; feeder = f; head = 1; start = 1; turn = 0 }

abbrev fed : ℕ → Node
fed f = fed_with f 1 2 3

-- two boards, one behind the other
abbrev two : List Node
two = fed 0 ∷ fed 1 ∷ replicate 254 no_node

two_earlier : FromEarlier two
two_earlier = record { earlier = each }
  where
    none : (n i : ℕ) → (get_or (replicate n no_node) i no_node).feeder ≤ 0
    none zero i = lit≤ tt
    none (suc n) zero = lit≤ tt
    none (suc n) (suc i) = none n i

    each : (i : ℕ) → (get_or two i no_node).feeder ≤ i
    each zero = lit≤ tt
    each (suc zero) = lit≤ tt
    each (suc (suc i)) = le_trans (none 254 i) zero-le

-- ---- the contracts
pub none_not : RuledOut (none.Pre tt) (ever (none.Post tt)) (
    tt ↛ record { z1 = ohms 1 0; z2 = ohms 1 0; z0 = ohms 1 0 }  -- r_shared_by_none
    ∷ tt ↛ shared 1 1 1  -- x_shared_by_none
    ∷ [])
none_not = by_equation (λ a. no_share) ohms_told (λ a z e s. s) (tt, (tt, tt)) tt

pub share_not : RuledOut (share.Pre tt) (ever (share.Post tt)) (
    (true, (fed 0, (1, (shared 4 5 6, tt)))) ↛ shared 1 1 3  -- negative_like_positive
    ∷ (true, (fed 0, (1, (shared 4 5 6, tt)))) ↛ shared 4 2 3  -- own_and_feeder_exchanged
    ∷ (true, (fed 0, (2, (shared 4 5 6, tt)))) ↛ shared 1 2 3  -- zero_of_any_head
    ∷ [])
unfolding share_from
share_not = by_equation (λ a. share_from a.0 a.1.0 a.1.1.0 a.1.1.1.0) ohms_told (λ a z e s. s) (tt, (tt, (tt, tt))) tt

pub from_not : RuledOut (from.Pre tt) (ever (from.Post tt)) (
    (fed 1, tt) ↛ no_share  -- nothing_read_back
    ∷ (fed 1, tt) ↛ shared 1 1 3  -- z1_read_back_for_z2
    ∷ [])
unfolding shared_in
from_not = by_equation (λ a. shared_in a.0) ohms_told (λ a z e s. s) (tt, (tt, tt)) tt

pub put_in_not : RuledOut (put-in.Pre tt) (ever (put-in.Post tt)) (
    (shared 4 5 6, (fed 1, tt)) ↛ fed 1  -- sums_stay
    ∷ (shared 4 5 6, (fed 1, tt)) ↛ fed_with 0 4 5 6  -- feeder_lost
    ∷ [])
unfolding with_share
put_in_not = by_equation (λ a. with_share a.1.0 a.0) node_told (λ a z e s. s) (tt, (tt, tt)) tt

pub only_if_not : RuledOut (only_if.Pre tt) (ever (only_if.Post tt)) (
    (true, (whole_n (pos 5), tt)) ↛ whole_n (pos 0)  -- lost_where_it_counts
    ∷ (false, (whole_n (pos 5), tt)) ↛ whole_n (pos 5)  -- counted_everywhere
    ∷ [])
unfolding only_if
only_if_not = by_equation (λ a. only_if a.0 a.1.0) (λ n. wholes (four n)) (λ a z e s. s) (tt, (tt, tt)) tt

pub carried_not : RuledOut (carried.Pre tt) (ever (carried.Post tt)) (
    (true, (false, (whole_seq 1 2 3, tt))) ↛ whole_seq 1 2 3  -- i0_through_delta
    ∷ (true, (true, (whole_seq 1 2 3, tt))) ↛ whole_seq 1 1 3  -- i1_for_i2
    ∷ (false, (false, (whole_seq 1 2 3, tt))) ↛ whole_seq 1 1 1  -- one_for_none
    ∷ [])
unfolding carried_of only_if
carried_not = by_equation (λ a. carried_of a.0 a.1.0 a.1.1.0) (λ i. wholes (sequences i)) (λ a z e s. s) (tt, (tt, (tt, tt))) tt

module _ (κ : Lft) where
  pub chain_not : RuledOut (chain.Pre (κ, tt)) (ever (chain.Post (κ, tt))) (
      (lent two, (2, tt)) ↛ (false ∷ true ∷ true ∷ replicate 253 false)  -- marked_from_0
      ∷ (lent two, (2, tt)) ↛ replicate 256 false  -- nothing_marked
      ∷ [])
  unfolding marks_of climb feeder_in marked
  chain_not = by_equation (λ a. marks_of a.0.now a.1.0) bits (λ a z e s. s) ((lit≤ tt, two_earlier), ((lit≤ tt, two_earlier), tt)) tt
