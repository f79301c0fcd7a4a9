-- The chain of a board, climbed and marked: the turns of the loop, and that it is the paper's chain. Assumes nothing.
use mathlib.Core.Bool.{Bool, true, false, ◌||◌, or-true, or-false}
use mathlib.Core.List.{List, [], ◌∷◌}
use mathlib.Core.Path.{◌≡◌, refl, sym, ◌∙◌, ap, subst}
use Prim.Native.Nat.{ℕ, zero, suc, ◌-◌, ◌≤◌, ◌<◌}
use native.Mathlib.Omega.{arith}
use lib.Dec.{eqb}
use lib.ListN.{length, get_or, set, replicate, length-set, length-replicate, get_or-replicate}
use lib.Seq.{get_or-set_same, get_or-set_other}
use borrow.Author.Tests.{eqb-true, eqb-false}
use Rattle.paper.specs.Bytes.{one_of}
use Rattle.paper.specs.Chain.{Boards, feeder_of, climb, chain}
use Rattle.follows.proofs.Lists.{On, on_here, on_there}
use Rattle.follows.proofs.Chain.{feeder_earlier, chain_between}
use Rattle.node.specs.declared.Node.{Node}
use Rattle.node.specs.Node.{node_of, no_node}
use Rattle.chain.specs.Marked.{FromEarlier, feeder_in, marked, marks_of}

-- ---- the loop: what is still to be marked, marked, is the whole
pub record Climbed (nodes : List Node) (k : ℕ) (on : List Bool) (at : ℕ) : Type 0 where
  pub steps : ℕ
  pub enough : at ≤ steps
  pub to : at ≤ 256
  pub places : length on ≡ 256
  pub marks : marked (climb steps (feeder_in nodes) at) on ≡ marks_of nodes k

pub climb_starts : (nodes : List Node) (k : ℕ) → k ≤ 256 → Climbed nodes k (replicate 256 false) k
unfolding marks_of
climb_starts nodes k h = record { steps = k; enough = omega arith; to = h; places = length-replicate 256 false; marks = refl }

pub climb_goes : (nodes : List Node) (k at : ℕ) (on : List Bool) {node : Node} → FromEarlier nodes → 1 ≤ at → node ≡ get_or nodes (at - 1) no_node → Climbed nodes k on at
    → Climbed nodes k (set on (at - 1) true) node.feeder
unfolding climb feeder_in marked
climb_goes nodes k zero on f l e c = absurd (omega arith)
climb_goes nodes k (suc i) on {node} f l e c = subst (λ (n : Node). Climbed nodes k (set on (suc i - 1) true) n.feeder) (sym (e ∙ here)) (go c.steps c.enough c.marks)
  where
    here : get_or nodes (suc i - 1) no_node ≡ get_or nodes i no_node
    here = let m : suc i - 1 ≡ i = omega arith in ap (λ (m : ℕ). get_or nodes m no_node) m

    go : (s : ℕ) → suc i ≤ s → marked (climb s (feeder_in nodes) (suc i)) on ≡ marks_of nodes k → Climbed nodes k (set on (suc i - 1) true) (get_or nodes i no_node).feeder
    go zero h e = absurd (omega arith)
    go (suc s) h e =
        let b = f.earlier i in
        let t = c.to in
        record { steps = s; enough = omega arith; to = omega arith; places = length-set on (suc i - 1) true ∙ c.places; marks = e }

pub climb_ends : (nodes : List Node) (k : ℕ) (on : List Bool) → Climbed nodes k on 0 → on ≡ marks_of nodes k
unfolding climb marked
climb_ends nodes k on c = go c.steps c.marks
  where
    go : (s : ℕ) → marked (climb s (feeder_in nodes) 0) on ≡ marks_of nodes k → on ≡ marks_of nodes k
    go zero e = e
    go (suc s) e = e

-- ---- the paper's chain
module _ (bs : Boards) (nodes : List Node) (are : (i : ℕ) → i < length bs → get_or nodes i no_node ≡ node_of bs (suc i)) where
  climb_is : (s r : ℕ) → r ≤ length bs → climb s (feeder_in nodes) r ≡ climb s (feeder_of bs) r
  unfolding climb feeder_in node_of
  climb_is zero r h = refl
  climb_is (suc s) zero h = refl
  climb_is (suc s) (suc i) h =
      let e : (get_or nodes i no_node).feeder ≡ feeder_of bs (suc i) = ap (λ (n : Node). n.feeder) (are i (omega arith)) in
      ap (λ l. suc i ∷ l) (ap (climb s (feeder_in nodes)) e ∙ climb_is s (feeder_of bs (suc i)) (omega (arith, feeder_earlier bs i)))

  pub chain_is : (k : ℕ) → k ≤ length bs → climb k (feeder_in nodes) k ≡ chain bs k
  unfolding chain
  chain_is k h = climb_is k k h

-- ---- what is marked
marked_length : (l : List ℕ) (on : List Bool) → length (marked l on) ≡ length on
unfolding marked
marked_length [] on = refl
marked_length (r ∷ rs) on = marked_length rs (set on (r - 1) true) ∙ length-set on (r - 1) true

marked_at : (l : List ℕ) (on : List Bool) (i : ℕ) → i < length on → ((r : ℕ) → On r l → 1 ≤ r) → get_or (marked l on) i false ≡ (one_of (suc i) l || get_or on i false)
unfolding marked one_of
marked_at [] on i h p = refl
marked_at (r ∷ rs) on i h p =
    marked_at rs (set on (r - 1) true) i (omega (arith, length-set on (r - 1) true)) (λ q o. p q (on_there q r rs o)) ∙ go (eqb (suc i) r) refl
  where
    first : 1 ≤ r
    first = p r (on_here r rs)

    go : (c : Bool) → eqb (suc i) r ≡ c → (one_of (suc i) rs || get_or (set on (r - 1) true) i false) ≡ (one_of (suc i) (r ∷ rs) || get_or on i false)
    go true e =
        let here : i ≡ r - 1 = omega (arith, eqb-true (suc i) r e) in
        let f = first in
        rw e (ap (λ (m : ℕ). one_of (suc i) rs || get_or (set on (r - 1) true) m false) here ∙ ap (λ (b : Bool). one_of (suc i) rs || b) (get_or-set_same on (r - 1) true false (omega arith)) ∙ or-true (one_of (suc i) rs))
    go false e =
        let n = eqb-false (suc i) r e in
        rw e (ap (λ (b : Bool). one_of (suc i) rs || b) (get_or-set_other on (r - 1) i true false (λ q. let f = first in n (omega arith))))

-- a mark is whether the place is on the chain
pub mark_is : (bs : Boards) (nodes : List Node) → ((i : ℕ) → i < length bs → get_or nodes i no_node ≡ node_of bs (suc i)) → (k i : ℕ) → k ≤ length bs → i < 256
    → get_or (marks_of nodes k) i false ≡ one_of (suc i) (chain bs k)
unfolding marks_of
mark_is bs nodes are k i h l =
    ap (λ r. get_or (marked r (replicate 256 false)) i false) (chain_is bs nodes are k h)
    ∙ marked_at (chain bs k) (replicate 256 false) i (omega (arith, length-replicate 256 false)) (λ r o. (chain_between bs k r o).0)
    ∙ ap (λ (b : Bool). one_of (suc i) (chain bs k) || b) (get_or-replicate 256 i false false l)
    ∙ or-false (one_of (suc i) (chain bs k))
