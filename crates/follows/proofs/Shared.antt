-- The shared impedances of board j with k from those of j's feeder, and which records carry I0: what one pass over the boards computes and tests. Assumes nothing.
use mathlib.Core.Bool.{Bool, true, false, not, ◌&&◌, and-true, and-false}
use mathlib.Core.List.{[], ◌∷◌}
use mathlib.Core.Path.{◌≡◌, refl, sym, ◌∙◌, ap, ap₂, subst}
use Prim.Native.Nat.{ℕ, suc, ◌≤◌}
use lib.Dec.{eqb}
use borrow.Author.Tests.{eq-eqb, eqb-true}
use Rattle.lemmas.proofs.Bools.{both, untrue, not_both}
use Rattle.paper.specs.declared.Ohms.{Ohms}
use Rattle.paper.specs.Bytes.{one_of}
use Rattle.paper.specs.Kind.{ohms}
use Rattle.paper.specs.Chain.{Boards, feeder_of, chain, part_chain, part_head, earth_of, is_none, unearthed, zero_chain, sumΩ, term1, term2, term0, Z1, Z2, Z0, common, shared1, shared2, shared0}
use Rattle.paper.specs.Bounds.{AtMost}
use Rattle.follows.proofs.Lists.{On, common_skip, common_nothing, common_small}
use Rattle.follows.proofs.Paths.{common_on}
use Rattle.follows.proofs.Chain.{chain_tree, chain_none, chain_board}
use Rattle.follows.proofs.Parts.{Tied, heads, joins, which, part_tree, head_tied, head_top, on_head, head_on, part_on_chain, part_from_chain, earth_same, zero_earthed, zero_unearthed, zero_in_part, sum_earthed, sum_unearthed}

-- ---- the records common to two chains
module _ (bs : Boards) (k : ℕ) where
  -- where there is no board, none
  pub shares_none : common (chain bs 0) (chain bs k) ≡ []
  unfolding common
  shares_none = rw chain_none

  -- for j on k's chain, all of j's
  pub shares_all : (j : ℕ) → On j (chain bs k) → common (chain bs j) (chain bs k) ≡ chain bs j
  shares_all j = common_on (chain_tree bs) j k

  -- for j off it, its feeder's
  pub shares_feeders : (q : ℕ) → one_of (suc q) (chain bs k) ≡ false → common (chain bs (suc q)) (chain bs k) ≡ common (chain bs (feeder_of bs (suc q))) (chain bs k)
  shares_feeders q h = rw (chain_board bs q) (common_skip (suc q) (chain bs (feeder_of bs (suc q))) (chain bs k) h)

-- ---- so for whatever is summed over them: z1 and z2 alike
module _ (bs : Boards) (k : ℕ) (term : ℕ → Ohms) where
  abbrev shared : ℕ → Ohms
  shared j = sumΩ term (common (chain bs j) (chain bs k))

  pub sum_none : shared 0 ≡ ohms 0 0
  unfolding sumΩ
  sum_none = ap (sumΩ term) (shares_none bs k)

  pub sum_on : (j : ℕ) → On j (chain bs k) → shared j ≡ sumΩ term (chain bs j)
  sum_on j h = ap (sumΩ term) (shares_all bs k j h)

  pub sum_off : (q : ℕ) → one_of (suc q) (chain bs k) ≡ false → shared (suc q) ≡ shared (feeder_of bs (suc q))
  sum_off q h = ap (sumΩ term) (shares_feeders bs k q h)

-- ---- zero sequence, by the two boards' heads
module _ (bs : Boards) (k : ℕ) where
  nothing : (j : ℕ) → common (zero_chain bs j) (zero_chain bs k) ≡ [] → shared0 bs j k ≡ ohms 0 0
  unfolding shared0 sumΩ
  nothing j e = ap (sumΩ (term0 bs)) e

  empty_shares : (j : ℕ) → zero_chain bs j ≡ [] → shared0 bs j k ≡ ohms 0 0
  unfolding common
  empty_shares j e = nothing j (rw e)

  pub shared0_none : shared0 bs 0 k ≡ ohms 0 0
  unfolding earth_of is_none
  shared0_none = empty_shares 0 (zero_unearthed bs 0 refl)

  -- "is zero unless both boards have the same starting record"
  pub shared_apart : (j : ℕ) → (part_head bs j ≡ part_head bs k → ⊥) → shared0 bs j k ≡ ohms 0 0
  shared_apart j h = nothing j (common_nothing (zero_chain bs j) (zero_chain bs k) (λ i a b. h (on_head bs i j (zero_in_part bs j i a) ∙ sym (on_head bs i k (zero_in_part bs k i b)))))

  -- in the same part both have its earth return, or neither
  same_earth : (j : ℕ) → part_head bs j ≡ part_head bs k → {u : Bool} → unearthed bs k ≡ u → unearthed bs j ≡ u
  same_earth j s e = ap is_none (earth_same bs j k s) ∙ e

  part_shares : (j : ℕ) → part_head bs j ≡ part_head bs k → unearthed bs k ≡ false → shared0 bs j k ≡ sumΩ (term0 bs) (common (part_chain bs j) (part_chain bs k))
  unfolding shared0
  part_shares j s u = ap₂ (λ l m. sumΩ (term0 bs) (common l m)) (zero_earthed bs j (same_earth j s u)) (zero_earthed bs k u)

  -- on k's chain with k's head: all of the board's own
  pub shared0_own : (j : ℕ) → On j (chain bs k) → part_head bs j ≡ part_head bs k → shared0 bs j k ≡ Z0 bs j
  shared0_own j o s = go (unearthed bs k) refl
    where
      go : (u : Bool) → unearthed bs k ≡ u → shared0 bs j k ≡ Z0 bs j
      go true u = let v = same_earth j s u in empty_shares j (zero_unearthed bs j v) ∙ sym (sum_unearthed bs j v)
      go false u = part_shares j s u ∙ ap (sumΩ (term0 bs)) (common_on (part_tree bs) j k (part_from_chain bs j k o s)) ∙ sym (sum_earthed bs j (same_earth j s u))

  -- off it, with k's head: the feeder's
  pub shared0_feeders : (q : ℕ) → 1 ≤ k → one_of (suc q) (chain bs k) ≡ false → part_head bs (suc q) ≡ part_head bs k → shared0 bs (suc q) k ≡ shared0 bs (feeder_of bs (suc q)) k
  shared0_feeders q l o s = go (which bs (suc q)) (unearthed bs k) refl
    where
      off : one_of (suc q) (part_chain bs k) ≡ false
      off = untrue (one_of (suc q) (part_chain bs k)) (λ h. not_both (part_on_chain bs k (suc q) h) o)

      go : Tied bs (suc q) → (u : Bool) → unearthed bs k ≡ u → shared0 bs (suc q) k ≡ shared0 bs (feeder_of bs (suc q)) k
      go (heads e) u v = absurd (not_both (subst (λ h. On h (part_chain bs k)) (sym s ∙ head_top bs q e) (head_on bs k l)) off)
      go (joins m e) u v = at u v
        where
          t : part_head bs (feeder_of bs (suc q)) ≡ part_head bs k
          t = ap (part_head bs) (sym e) ∙ sym (head_tied bs q m) ∙ s

          at : (u : Bool) → unearthed bs k ≡ u → shared0 bs (suc q) k ≡ shared0 bs (feeder_of bs (suc q)) k
          at true v = empty_shares (suc q) (zero_unearthed bs (suc q) (same_earth (suc q) s v)) ∙ sym (empty_shares (feeder_of bs (suc q)) (zero_unearthed bs (feeder_of bs (suc q)) (same_earth (feeder_of bs (suc q)) t v)))
          at false v =
              part_shares (suc q) s v
              ∙ ap (λ l. sumΩ (term0 bs) (common l (part_chain bs k))) ((part_tree bs).goes q ∙ ap (λ u. suc q ∷ part_chain bs u) e)
              ∙ ap (sumΩ (term0 bs)) (common_skip (suc q) (part_chain bs (feeder_of bs (suc q))) (part_chain bs k) off)
              ∙ sym (part_shares (feeder_of bs (suc q)) t v)

  -- ---- "it carries I0 if it also lies on k's zero-sequence sum", as a test
  pub earthed_is : (j : ℕ) → (one_of j (chain bs k) && eqb (part_head bs j) (part_head bs k) && not (unearthed bs k)) ≡ one_of j (zero_chain bs k)
  unfolding one_of
  earthed_is j = go (unearthed bs k) refl
    where
      in_part_lem : (o : Bool) → one_of j (part_chain bs k) ≡ o → (one_of j (chain bs k) && eqb (part_head bs j) (part_head bs k)) ≡ o
      in_part_lem true o = rw (part_on_chain bs k j o, eq-eqb (part_head bs j) (part_head bs k) (sym (on_head bs j k o))) refl
      in_part_lem false o = untrue _ (λ h. let (a, b) = both (one_of j (chain bs k)) (eqb (part_head bs j) (part_head bs k)) h in not_both (part_from_chain bs j k a (eqb-true (part_head bs j) (part_head bs k) b)) o)

      go : (u : Bool) → unearthed bs k ≡ u → (one_of j (chain bs k) && eqb (part_head bs j) (part_head bs k) && not u) ≡ one_of j (zero_chain bs k)
      go true u = and-false (one_of j (chain bs k) && eqb (part_head bs j) (part_head bs k)) ∙ sym (ap (one_of j) (zero_unearthed bs k u))
      go false u = and-true (one_of j (chain bs k) && eqb (part_head bs j) (part_head bs k)) ∙ in_part_lem (one_of j (part_chain bs k)) refl ∙ sym (ap (one_of j) (zero_earthed bs k u))

-- ---- and none is larger than board j's own sum
module _ (bs : Boards) (k j most : ℕ) where
  pub shared1_small : AtMost most (Z1 bs j) → AtMost most (shared1 bs j k)
  unfolding shared1 Z1
  shared1_small = common_small (term1 bs) (chain bs j) (chain bs k) most

  pub shared2_small : AtMost most (Z2 bs j) → AtMost most (shared2 bs j k)
  unfolding shared2 Z2
  shared2_small = common_small (term2 bs) (chain bs j) (chain bs k) most

  pub shared0_small : AtMost most (Z0 bs j) → AtMost most (shared0 bs j k)
  unfolding shared0 Z0
  shared0_small = common_small (term0 bs) (zero_chain bs j) (zero_chain bs k) most
