-- Record r behind the boards before it: its rules 7 and 8 by where its labels stand among all boards, and its node from its feeder's. Assumes nothing.
use mathlib.Core.Bool.{cond}
use mathlib.Core.List.{◌∷◌, ◌++◌}
use mathlib.Core.Path.{◌≡◌, refl, sym, ◌∙◌}
use Prim.Native.Nat.{ℕ, suc, ◌≤◌}
use native.Mathlib.Decide.{dec_le}
use native.Mathlib.Omega.{arith}
use lib.ListN.{length}
use Rattle.paper.specs.declared.Ohms.{Ohms}
use Rattle.paper.specs.declared.Board.{Board}
use Rattle.paper.specs.Label.{Label}
use Rattle.paper.specs.Kind.{ohms, ◌+Ω◌, Term, Zero, starts, goes_on, none, kind_of, term}
use Rattle.paper.specs.Chain.{Boards, place_of, look_from, feeder_of, part_head, Earth, is_none, Z1, Z2, Z0, turn_of}
use Rattle.follows.proofs.Places.{same_label_lem, look_here, place_most, place_stays, place_behind, Looked, looked, missing, found}
use Rattle.follows.proofs.Parts.{ZeroIs}
use Rattle.follows.proofs.Next.{feeder_next, Z1_next, Z2_next, turn_next, next_starts, next_tied, next_blocked}
use Rattle.node.specs.declared.Node.{Node}
use Rattle.node.specs.Node.{start_of, node_of, zeroed, node_from, with_zero}
use Rattle.node.proofs.Starts.{starts_nowhere}

-- what is found from place r on is 0 or at least r
from_there : (r : ℕ) (l : Label) (bs : Boards) → 1 ≤ r → (look_from r l bs ≡ 0 → ⊥) → r ≤ look_from r l bs
from_there r l bs h n = go (looked r l bs)
  where
    go : Looked r l bs → r ≤ look_from r l bs
    go (missing e d) = absurd (n e)
    go (found i b e s d) = omega (arith, e)

module _ (before : Boards) (b : Board) (rest : Boards) where
  -- 7: the first equal label is the record's own exactly where no earlier one is equal
  pub own_place : place_of b.label before ≡ 0 → place_of b.label (before ++ (b ∷ rest)) ≡ suc (length before)
  own_place e = place_behind b.label before (b ∷ rest) e ∙ look_here (suc (length before)) b.label b rest (same_label_lem b.label)

  pub used_place : (place_of b.label before ≡ 0 → ⊥) → place_of b.label (before ++ (b ∷ rest)) ≡ suc (length before) → ⊥
  used_place n e = let p : 1 ≤ place_of b.label before = omega arith in omega (arith, place_stays b.label before (b ∷ rest) p, place_most b.label before)

  -- 8: a label's first place among all boards is its place among those before, where it is before
  pub place_earlier : (l : Label) → 1 ≤ place_of l (before ++ (b ∷ rest)) → place_of l (before ++ (b ∷ rest)) ≤ length before → place_of l before ≡ place_of l (before ++ (b ∷ rest))
  place_earlier l h k = go (dec_le 1 (place_of l before))
    where
      go : Dec (1 ≤ place_of l before) → place_of l before ≡ place_of l (before ++ (b ∷ rest))
      go (yes p) = sym (place_stays l before (b ∷ rest) p)
      go (no f) =
          let s = place_behind l before (b ∷ rest) (omega arith) in
          let m = from_there (suc (length before)) l (b ∷ rest) (omega arith) (λ e. omega arith) in
          absurd (omega arith)

  pub place_not_earlier : (l : Label) → (1 ≤ place_of l (before ++ (b ∷ rest)) → place_of l (before ++ (b ∷ rest)) ≤ length before → ⊥) → place_of l before ≡ 0
  place_not_earlier l f = go (dec_le 1 (place_of l before))
    where
      go : Dec (1 ≤ place_of l before) → place_of l before ≡ 0
      go (yes p) = let s = place_stays l before (b ∷ rest) p in let m = place_most l before in absurd (f (omega arith) (omega arith))
      go (no f) = omega arith

  -- ---- the node
  abbrev r : ℕ
  r = suc (length before)

  abbrev fed : ℕ
  fed = place_of b.feeder before

  abbrev all : Boards
  all = before ++ (b ∷ rest)

  -- the zero sequence of the node is what the part says
  abbrev base : Node
  base = record { z1 = Z1 all r; z2 = Z2 all r; z0 = ohms 0 0; feeder = feeder_of all r; head = 0; start = 0; turn = turn_of all r }

  said : {z : Ohms} {h : ℕ} {e : Earth} → ZeroIs all r h e z → zeroed base z h (cond (is_none e) 0 h) ≡ node_of all r
  unfolding node_of start_of
  said s = λ i. zeroed base (sym s.zero_sum i) (sym s.zero_head i) (cond (is_none (sym s.zero_earth i)) 0 (sym s.zero_head i))

  -- what goes on has a feeder (8 and 9)
  abbrev Fed : Type 0
  Fed = (t : Term) → (kind_of b.kind).zero_seq ≡ goes_on t → 1 ≤ fed

  zero_node : Fed → (z : Zero) → (kind_of b.kind).zero_seq ≡ z → with_zero base b r z (node_of before fed) ≡ node_of all r
  unfolding with_zero node_of start_of is_none
  zero_node f (starts t) e = said (next_starts before b rest e)
  zero_node f (goes_on t) e =
      (λ i. zeroed base (cond (starts_nowhere before fed (f t e) i) (ohms 0 0) (term t b +Ω Z0 before fed)) (part_head before fed) (start_of before fed)) ∙ said (next_tied before b rest e (f t e))
  zero_node f none e = said (next_blocked before b rest e)

  pub node_next : Fed → node_from r b fed (node_of before fed) ≡ node_of all r
  unfolding node_from node_of
  node_next f =
      (λ i. with_zero (record { z1 = sym (Z1_next before b rest) i; z2 = sym (Z2_next before b rest) i; z0 = ohms 0 0; feeder = sym (feeder_next before b rest) i; head = 0; start = 0; turn = sym (turn_next before b rest) i }) b r (kind_of b.kind).zero_seq (node_of before fed))
      ∙ zero_node f (kind_of b.kind).zero_seq refl
