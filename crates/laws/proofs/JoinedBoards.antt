-- Joined boards: they have an earth return, or have none, together, and one turn; and what boards share in zero sequence, by the lists of their parts. Assumes nothing.
use mathlib.Core.Bool.{Bool, true, false}
use mathlib.Core.List.{[], ◌∷◌}
use mathlib.Core.Logic.{◌⊎◌, inl, inr}
use mathlib.Core.Path.{◌≡◌, refl, sym, ◌∙◌, ap, ap₂, subst}
use Prim.Native.Nat.{ℕ, zero, suc, ◌≤◌}
use native.Mathlib.Omega.{arith}
use lib.ListN.{length}
use borrow.Author.Tests.{eqb-true, eqb-false}
use Rattle.lemmas.proofs.Bools.{untrue}
use Rattle.paper.specs.Bytes.{one_of}
use Rattle.paper.specs.Kind.{Term, Zero, starts, goes_on, none, kinds, kind_of}
use Rattle.paper.specs.Chain.{Boards, board, feeder_of, zero_of, tied, tie, part_chain, part_head, joined, is_none, unearthed, zero_chain, sumΩ, common, term0, shared0, turn_of}
use Rattle.follows.proofs.Lists.{On, on_none, on_cases}
use Rattle.follows.proofs.Paths.{climbing, common_apart}
use Rattle.follows.proofs.Chain.{feeder_earlier, turn_board}
use Rattle.follows.proofs.KindTable.{each_row, GoesOn, no_source}
use Rattle.follows.proofs.Parts.{tie_by, part_tree, head_tied, head_top, on_head, earth_same, zero_earthed, zero_unearthed, zero_in_part}
use Rattle.follows.proofs.Shared.{shared_apart}
use Rattle.follows.proofs.Sound.{Sound}

module _ (bs : Boards) where
  pub joined_head : (j k : ℕ) → joined bs j k ≡ true → part_head bs j ≡ part_head bs k
  unfolding joined
  joined_head j k = eqb-true (part_head bs j) (part_head bs k)

  pub apart_head : (j k : ℕ) → joined bs j k ≡ false → part_head bs j ≡ part_head bs k → ⊥
  unfolding joined
  apart_head j k = eqb-false (part_head bs j) (part_head bs k)

  -- ---- the earth return
  pub joined_earth : (j k : ℕ) {u : Bool} → joined bs j k ≡ true → unearthed bs j ≡ u → unearthed bs k ≡ u
  joined_earth j k c u = ap is_none (sym (earth_same bs j k (joined_head j k c))) ∙ u

  -- a board without one is on no zero chain
  pub off_zero : (r k : ℕ) → unearthed bs r ≡ true → one_of r (zero_chain bs k) ≡ false
  off_zero r k u =
      untrue (one_of r (zero_chain bs k))
      (λ o. on_none r (subst (On r) (zero_unearthed bs k (ap is_none (earth_same bs k r (on_head bs r k (zero_in_part bs k r o))) ∙ u)) o))

  -- where k has one, boards share with it what the lists of their parts do
  pub shared_part : (j k : ℕ) → unearthed bs k ≡ false → sumΩ (term0 bs) (common (part_chain bs j) (part_chain bs k)) ≡ shared0 bs j k
  unfolding shared0 part_head sumΩ
  shared_part j k u = go (joined bs j k) refl
    where
      go : (c : Bool) → joined bs j k ≡ c → sumΩ (term0 bs) (common (part_chain bs j) (part_chain bs k)) ≡ shared0 bs j k
      go true c =
          let v = ap is_none (earth_same bs j k (joined_head j k c)) ∙ u in
          ap₂ (λ l m. sumΩ (term0 bs) (common l m)) (sym (zero_earthed bs j v)) (sym (zero_earthed bs k u))
      go false c = let h = apart_head j k c in ap (sumΩ (term0 bs)) (common_apart (part_tree bs) j k h) ∙ sym (shared_apart bs k j h)

-- ---- what goes on turns nothing: its clock is 0
still_clock : (kind : ℕ) (t : Term) → (kind_of kind).zero_seq ≡ goes_on t → (c : ℕ) → On c (kind_of kind).clocks → c ≡ 0
unfolding kind_of kinds
still_clock =
    each_row (λ kind row. (t : Term) → row.zero_seq ≡ goes_on t → (c : ℕ) → On c row.clocks → c ≡ 0)
    (λ t e. absurd (subst GoesOn (sym e) tt), (λ t e. absurd (subst GoesOn (sym e) tt), (λ t e. zero_alone, (λ t e. zero_alone, (λ t e. absurd (subst GoesOn (sym e) tt), (λ t e. absurd (subst GoesOn (sym e) tt), tt))))))
    (λ kind l t e. absurd (subst GoesOn (sym e) tt))
  where
    zero_alone : (c : ℕ) → On c (0 ∷ []) → c ≡ 0
    zero_alone c o = go (on_cases c 0 [] o)
      where
        go : (c ≡ 0) ⊎ On c [] → c ≡ 0
        go (inl e) = e
        go (inr o) = absurd (on_none c o)

module _ (bs : Boards) (sound : Sound bs) where
  -- and it has a feeder
  pub goes_on_fed : (q : ℕ) (t : Term) → suc q ≤ length bs → zero_of bs (suc q) ≡ goes_on t → 1 ≤ feeder_of bs (suc q)
  goes_on_fed zero t l e = absurd (no_source (board bs 1).kind ((sound 1 (omega arith) l).own.kind_first refl) e)
  goes_on_fed (suc q) t l e = (sound (suc (suc q)) (omega arith) l).fed (omega arith)

  -- ---- the turn: the same from the head on
  head_turn : (r : ℕ) → 1 ≤ r → r ≤ length bs → turn_of bs r ≡ turn_of bs (part_head bs r)
  unfolding tied
  head_turn = climbing (part_tree bs) (λ r. 1 ≤ r → r ≤ length bs → turn_of bs r ≡ turn_of bs (part_head bs r)) (λ h. absurd (omega arith)) go
    where
      go : (q : ℕ) → (1 ≤ tie bs (suc q) → tie bs (suc q) ≤ length bs → turn_of bs (tie bs (suc q)) ≡ turn_of bs (part_head bs (tie bs (suc q)))) → 1 ≤ suc q → suc q ≤ length bs → turn_of bs (suc q) ≡ turn_of bs (part_head bs (suc q))
      go q ih h l = at (zero_of bs (suc q)) refl
        where
          own : tie bs (suc q) ≡ 0 → turn_of bs (suc q) ≡ turn_of bs (part_head bs (suc q))
          own e = ap (turn_of bs) (sym (head_top bs q e))

          at : (z : Zero) → zero_of bs (suc q) ≡ z → turn_of bs (suc q) ≡ turn_of bs (part_head bs (suc q))
          at (starts t) e = own (tie_by bs (suc q) e)
          at (goes_on t) e =
              let up = tie_by bs (suc q) e in
              let f = goes_on_fed q t l e in
              let c = still_clock (board bs (suc q)).kind t e (board bs (suc q)).clock (sound (suc q) h l).own.clock_listed in
              let m : 1 ≤ tie bs (suc q) = omega (arith, up, f) in
              let s : turn_of bs (suc q) ≡ turn_of bs (feeder_of bs (suc q)) = omega (arith, turn_board bs q, c) in
              s ∙ ap (turn_of bs) (sym up) ∙ ih m (omega (arith, up, feeder_earlier bs q)) ∙ ap (turn_of bs) (sym (head_tied bs q m))
          at none e = own (tie_by bs (suc q) e)

  pub joined_turn : (j k : ℕ) → 1 ≤ j → j ≤ length bs → 1 ≤ k → k ≤ length bs → joined bs j k ≡ true → turn_of bs j ≡ turn_of bs k
  joined_turn j k j1 jn k1 kn c = head_turn j j1 jn ∙ ap (turn_of bs) (joined_head bs j k c) ∙ sym (head_turn k k1 kn)
