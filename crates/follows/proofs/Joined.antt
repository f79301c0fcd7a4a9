-- 02, R-2: "the boards joined to it by kinds 2 and 3". Two boards have the same head exactly where records of kinds 2 and 3 link them, any number of them, up and down. Assumes nothing.
use mathlib.Core.Bool.{true}
use mathlib.Core.List.{[], ◌∷◌}
use mathlib.Core.Path.{◌≡◌, refl, sym, ◌∙◌, ap, subst}
use Prim.Native.Nat.{ℕ, suc, ◌≤◌}
use native.Mathlib.Omega.{arith}
use borrow.Author.Tests.{eq-eqb, eqb-true}
use Rattle.paper.specs.Bytes.{one_of}
use Rattle.paper.specs.Kind.{Zero, starts, goes_on, none}
use Rattle.paper.specs.Chain.{Boards, board, feeder_of, zero_of, tied, tie, part_head, joined}
use Rattle.follows.proofs.Paths.{climbing}
use Rattle.follows.proofs.Parts.{Tied, heads, joins, which, tie_by, part_tree, head_tied, head_top}
use Rattle.follows.proofs.KindTable.{GoesOn, on_by_kind, kind_by_on}

-- a record of kind 2 or 3 links its board and its feeder's, and a link may be followed either way
pub data Linked (bs : Boards) (j : ℕ) : ℕ → Type 0 where
  itself : Linked bs j j
  up : (q : ℕ) → one_of (board bs (suc q)).kind (2 ∷ 3 ∷ []) ≡ true → 1 ≤ feeder_of bs (suc q) → Linked bs j (suc q) → Linked bs j (feeder_of bs (suc q))
  down : (q : ℕ) → one_of (board bs (suc q)).kind (2 ∷ 3 ∷ []) ≡ true → 1 ≤ feeder_of bs (suc q) → Linked bs j (feeder_of bs (suc q)) → Linked bs j (suc q)

module _ (bs : Boards) where
  pub goes_on_tied : (r : ℕ) → GoesOn (zero_of bs r) → tie bs r ≡ feeder_of bs r
  unfolding tied
  goes_on_tied r h = go (zero_of bs r) refl h
    where
      go : (z : Zero) → zero_of bs r ≡ z → GoesOn z → tie bs r ≡ feeder_of bs r
      go (starts t) e h = absurd h
      go (goes_on t) e h = tie_by bs r e
      go none e h = absurd h

  pub tied_goes_on : (r : ℕ) → 1 ≤ tie bs r → GoesOn (zero_of bs r)
  unfolding tied
  tied_goes_on r l = go (zero_of bs r) refl
    where
      go : (z : Zero) → zero_of bs r ≡ z → GoesOn z
      go (starts t) e = absurd (omega (arith, tie_by bs r e))
      go (goes_on t) e = tt
      go none e = absurd (omega (arith, tie_by bs r e))

  linked_head : (q : ℕ) → one_of (board bs (suc q)).kind (2 ∷ 3 ∷ []) ≡ true → 1 ≤ feeder_of bs (suc q) → part_head bs (suc q) ≡ part_head bs (feeder_of bs (suc q))
  linked_head q h l =
      let t = goes_on_tied (suc q) (on_by_kind (board bs (suc q)).kind h) in
      head_tied bs q (omega (arith, t, l)) ∙ ap (part_head bs) t

  -- ---- linked boards are joined
  pub linked_joined : (j k : ℕ) → Linked bs j k → joined bs j k ≡ true
  unfolding joined
  linked_joined j k l = eq-eqb (part_head bs j) (part_head bs k) (go k l)
    where
      go : (k : ℕ) → Linked bs j k → part_head bs j ≡ part_head bs k
      go k itself = refl
      go k (up q h l w) = go (suc q) w ∙ linked_head q h l
      go k (down q h l w) = go (feeder_of bs (suc q)) w ∙ sym (linked_head q h l)

  -- ---- joined boards are linked, by way of their head
  to_head : (r : ℕ) → 1 ≤ r → (j : ℕ) → Linked bs j r → Linked bs j (part_head bs r)
  to_head = climbing (part_tree bs) (λ r. 1 ≤ r → (j : ℕ) → Linked bs j r → Linked bs j (part_head bs r)) (λ l. absurd (omega arith)) go
    where
      go : (q : ℕ) → (1 ≤ tie bs (suc q) → (j : ℕ) → Linked bs j (tie bs (suc q)) → Linked bs j (part_head bs (tie bs (suc q)))) → 1 ≤ suc q → (j : ℕ) → Linked bs j (suc q) → Linked bs j (part_head bs (suc q))
      go q ih l j w = at (which bs (suc q))
        where
          at : Tied bs (suc q) → Linked bs j (part_head bs (suc q))
          at (heads e) = subst (Linked bs j) (sym (head_top bs q e)) w
          at (joins m e) =
              subst (Linked bs j) (sym (head_tied bs q m))
              (ih m j (subst (Linked bs j) (sym e) (up q (kind_by_on (board bs (suc q)).kind (tied_goes_on (suc q) m)) (omega (arith, e, m)) w)))

  from_head : (r : ℕ) → 1 ≤ r → (j : ℕ) → Linked bs j (part_head bs r) → Linked bs j r
  from_head = climbing (part_tree bs) (λ r. 1 ≤ r → (j : ℕ) → Linked bs j (part_head bs r) → Linked bs j r) (λ l. absurd (omega arith)) go
    where
      go : (q : ℕ) → (1 ≤ tie bs (suc q) → (j : ℕ) → Linked bs j (part_head bs (tie bs (suc q))) → Linked bs j (tie bs (suc q))) → 1 ≤ suc q → (j : ℕ) → Linked bs j (part_head bs (suc q)) → Linked bs j (suc q)
      go q ih l j w = at (which bs (suc q))
        where
          at : Tied bs (suc q) → Linked bs j (suc q)
          at (heads e) = subst (Linked bs j) (head_top bs q e) w
          at (joins m e) =
              down q (kind_by_on (board bs (suc q)).kind (tied_goes_on (suc q) m)) (omega (arith, e, m))
              (subst (Linked bs j) e (ih m j (subst (Linked bs j) (head_tied bs q m) w)))

  pub joined_linked : (j k : ℕ) → 1 ≤ j → 1 ≤ k → joined bs j k ≡ true → Linked bs j k
  unfolding joined
  joined_linked j k a b h = from_head k b j (subst (Linked bs j) (eqb-true (part_head bs j) (part_head bs k) h) (to_head j a j itself))
