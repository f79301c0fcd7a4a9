-- 02, R-4: a board's chain up to the head of its part: kinds 2 and 3, and then another, since a record that goes on has a feeder and so heads nothing. Assumes nothing.
use mathlib.Core.Bool.{true, false}
use mathlib.Core.List.{List, [], ◌∷◌, ◌++◌}
use mathlib.Core.Logic.{◌⊎◌, inl, inr}
use mathlib.Core.Path.{◌≡◌, refl, sym, ◌∙◌, ap, subst}
use Prim.Native.Nat.{ℕ, zero, suc, ◌≤◌}
use native.Mathlib.Omega.{arith}
use lib.ListN.{length}
use Rattle.lemmas.proofs.Bools.{not_both}
use Rattle.paper.specs.Kind.{Term, Zero, starts, goes_on, none}
use Rattle.paper.specs.Chain.{Boards, board, feeder_of, chain, zero_of, tie, part_head, earth_by, earth_of, is_none, unearthed}
use Rattle.follows.proofs.Lists.{On, on_none, on_cases}
use Rattle.follows.proofs.Paths.{climbing}
use Rattle.follows.proofs.Chain.{chain_board}
use Rattle.follows.proofs.Parts.{Tied, heads, joins, which, part_tree, head_tied, head_top, head_between, head_untied}
use Rattle.follows.proofs.Joined.{goes_on_tied, tied_goes_on}
use Rattle.follows.proofs.KindTable.{GoesOn, kind_by_on, kinds_of, kind_by_word, no_source}
use Rattle.follows.proofs.Sound.{Sound}

-- ---- the way from board k to record h of its chain, through records of kinds 2 and 3
pub record Way (bs : Boards) (k h : ℕ) : Type 0 where
  pub below : List ℕ
  pub above : List ℕ
  pub way : chain bs k ≡ below ++ (h ∷ above)
  pub through : (i : ℕ) → On i below → On (board bs i).kind (2 ∷ 3 ∷ [])

module _ (bs : Boards) where
  way_none : (q : ℕ) → Way bs (suc q) (suc q)
  way_none q = record { below = []; above = chain bs (feeder_of bs (suc q)); way = chain_board bs q; through = λ i o. absurd (on_none i o) }

  way_on : (q h : ℕ) → On (board bs (suc q)).kind (2 ∷ 3 ∷ []) → Way bs (feeder_of bs (suc q)) h → Way bs (suc q) h
  way_on q h k w = record { below = suc q ∷ w.below; above = w.above; way = chain_board bs q ∙ ap (λ l. suc q ∷ l) w.way; through = λ i o. at i (on_cases i (suc q) w.below o) }
    where
      at : (i : ℕ) → (i ≡ suc q) ⊎ On i w.below → On (board bs i).kind (2 ∷ 3 ∷ [])
      at i (inl e) = rw e k
      at i (inr o) = w.through i o

  pub way_to_head : (k : ℕ) → 1 ≤ k → Way bs k (part_head bs k)
  way_to_head = climbing (part_tree bs) (λ k. 1 ≤ k → Way bs k (part_head bs k)) (λ l. absurd (omega arith)) go
    where
      go : (q : ℕ) → (1 ≤ tie bs (suc q) → Way bs (tie bs (suc q)) (part_head bs (tie bs (suc q)))) → 1 ≤ suc q → Way bs (suc q) (part_head bs (suc q))
      go q ih l = at (which bs (suc q))
        where
          at : Tied bs (suc q) → Way bs (suc q) (part_head bs (suc q))
          at (heads e) = subst (Way bs (suc q)) (sym (head_top bs q e)) (way_none q)
          at (joins m e) =
              subst (Way bs (suc q)) (sym (head_tied bs q m))
              (way_on q (part_head bs (tie bs (suc q))) (kind_by_on (board bs (suc q)).kind (tied_goes_on bs (suc q) m)) (subst (λ f. Way bs f (part_head bs (tie bs (suc q)))) e (ih m)))

-- ---- in sound boards the head of a part starts zero sequence or blocks it
pub data Head (bs : Boards) (k : ℕ) : Type 0 where
  head_starts : {t : Term} → zero_of bs (part_head bs k) ≡ starts t → On (board bs (part_head bs k)).kind (0 ∷ 4 ∷ []) → Head bs k
  head_blocks : zero_of bs (part_head bs k) ≡ none → On (board bs (part_head bs k)).kind (1 ∷ 5 ∷ []) → Head bs k

module _ (bs : Boards) (s : Sound bs) where
  -- what goes on is no source, so it has a feeder
  goes_on_fed : (r : ℕ) → 1 ≤ r → r ≤ length bs → {t : Term} → zero_of bs r ≡ goes_on t → 1 ≤ feeder_of bs r
  goes_on_fed zero l m e = absurd (omega arith)
  goes_on_fed (suc zero) l m e = absurd (no_source (board bs 1).kind ((s 1 l m).own.kind_first refl) e)
  goes_on_fed (suc (suc p)) l m e = (s (suc (suc p)) l m).fed (omega arith)

  pub head_is : (k : ℕ) → 1 ≤ k → k ≤ length bs → Head bs k
  head_is k l m = go (zero_of bs h) refl
    where
      h : ℕ
      h = part_head bs k

      from : 1 ≤ h
      from = (head_between bs k l).0

      to : h ≤ length bs
      to = let b = head_between bs k l in omega arith

      of_kind : {z : Zero} → zero_of bs h ≡ z → On (board bs h).kind (kinds_of z)
      of_kind = kind_by_word (board bs h).kind (s h from to).own.kind_known

      go : (z : Zero) → zero_of bs h ≡ z → Head bs k
      go (starts t) e = head_starts e (of_kind e)
      go (goes_on t) e =
          let f = goes_on_fed h from to e in
          absurd (omega (arith, head_untied bs k l, goes_on_tied bs h (subst GoesOn (sym e) tt), f))
      go none e = head_blocks e (of_kind e)

  -- ---- the board has an earth return where the head starts one, and none where it blocks
  earth_by_lem : (k : ℕ) → 1 ≤ k → {z : Zero} → zero_of bs (part_head bs k) ≡ z → unearthed bs k ≡ is_none (earth_by z)
  unfolding earth_of
  earth_by_lem zero l e = absurd (omega arith)
  earth_by_lem (suc q) l e = ap (λ z. is_none (earth_by z)) e

  pub earthed_kind : (k : ℕ) → 1 ≤ k → k ≤ length bs → unearthed bs k ≡ false → On (board bs (part_head bs k)).kind (0 ∷ 4 ∷ [])
  unfolding earth_by is_none
  earthed_kind k l m u = go (head_is k l m)
    where
      go : Head bs k → On (board bs (part_head bs k)).kind (0 ∷ 4 ∷ [])
      go (head_starts e o) = o
      go (head_blocks e o) = absurd (not_both (earth_by_lem k l e) u)

  pub unearthed_kind : (k : ℕ) → 1 ≤ k → k ≤ length bs → unearthed bs k ≡ true → On (board bs (part_head bs k)).kind (1 ∷ 5 ∷ [])
  unfolding earth_by is_none
  unearthed_kind k l m u = go (head_is k l m)
    where
      go : Head bs k → On (board bs (part_head bs k)).kind (1 ∷ 5 ∷ [])
      go (head_starts e o) = absurd (not_both u (earth_by_lem k l e))
      go (head_blocks e o) = o
