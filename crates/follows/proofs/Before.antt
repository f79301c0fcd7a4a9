-- A board's chain, its part and its sums look at no later board: the reader judges record r with the boards before it and itself, the answers use all boards. Assumes nothing.
use mathlib.Core.Bool.{Bool, true, false}
use mathlib.Core.List.{List, [], ◌∷◌, ◌++◌}
use mathlib.Core.Path.{◌≡◌, refl, sym, ◌∙◌, ap, ap₂}
use Prim.Native.Nat.{ℕ, zero, suc, ◌+◌, ◌-◌, ◌≤◌}
use native.Mathlib.Omega.{arith}
use lib.ListN.{length, get_or-append}
use lib.Seq.{take-append-le}
use Rattle.paper.specs.declared.Board.{Board}
use Rattle.paper.specs.Kind.{ohms, ◌+Ω◌, Zero, starts, goes_on, none, kind_of, zero_term, is_start}
use Rattle.paper.specs.Chain.{Boards, no_board, board, look_from, place_of, feeder_of, chain, zero_of, tied, tie, part_chain, last_of, part_head, earth_by, earth_of, is_none, unearthed, sumΩ, term0, Z1, Z2, Z0, turn_of}
use Rattle.follows.proofs.Lists.{sum_same}
use Rattle.follows.proofs.Paths.{between}
use Rattle.follows.proofs.Chain.{feeder_earlier, along, chain_none, chain_board, Z1_none, Z1_board, Z2_none, Z2_board, turn_none, turn_board}
use Rattle.follows.proofs.Parts.{tie_by, part_tree, head_between, sum_earthed, sum_unearthed}

-- what a record's part has of its feeder's
abbrev onward : Zero → List ℕ → List ℕ
onward (starts t) l = []
onward (goes_on t) l = l
onward none l = []

part_board : (bs : Boards) (q : ℕ) → part_chain bs (suc q) ≡ suc q ∷ onward (zero_of bs (suc q)) (part_chain bs (feeder_of bs (suc q)))
unfolding tied
part_board bs q = (part_tree bs).goes q ∙ ap (λ l. suc q ∷ l) (go (zero_of bs (suc q)) refl)
  where
    go : (z : Zero) → zero_of bs (suc q) ≡ z → part_chain bs (tie bs (suc q)) ≡ onward z (part_chain bs (feeder_of bs (suc q)))
    go (starts t) e = ap (part_chain bs) (tie_by bs (suc q) e) ∙ (part_tree bs).ends
    go (goes_on t) e = ap (part_chain bs) (tie_by bs (suc q) e)
    go none e = ap (part_chain bs) (tie_by bs (suc q) e) ∙ (part_tree bs).ends

module _ (before rest : Boards) where
  pub board_before : (r : ℕ) → 1 ≤ r → r ≤ length before → board (before ++ rest) r ≡ board before r
  board_before r l h = get_or-append before rest no_board (r - 1) (omega arith)

  pub feeder_before : (r : ℕ) → r ≤ length before → feeder_of (before ++ rest) r ≡ feeder_of before r
  unfolding feeder_of look_from
  feeder_before zero h = refl
  feeder_before (suc q) h =
      ap₂ (λ b l. place_of b.feeder l) (board_before (suc q) (omega arith) h) (take-append-le (suc q - 1) before rest (omega arith))

  -- whatever a board has from its own record and from what its feeder has
  agrees : {X : Type 0} (g : Boards → ℕ → X) (nothing : X) (step : Board → ℕ → X → X) → ((bs : Boards) → g bs 0 ≡ nothing) →
      ((bs : Boards) (q : ℕ) → g bs (suc q) ≡ step (board bs (suc q)) (suc q) (g bs (feeder_of bs (suc q)))) →
      (r : ℕ) → r ≤ length before → g (before ++ rest) r ≡ g before r
  agrees g nothing step at_none at-board =
      along before (λ r. r ≤ length before → g (before ++ rest) r ≡ g before r) (λ h. at_none (before ++ rest) ∙ sym (at_none before)) go
    where
      go : (q : ℕ) → (feeder_of before (suc q) ≤ length before → g (before ++ rest) (feeder_of before (suc q)) ≡ g before (feeder_of before (suc q))) →
          suc q ≤ length before → g (before ++ rest) (suc q) ≡ g before (suc q)
      go q ih h =
          let e = feeder_earlier before q in
          at-board (before ++ rest) q
          ∙ ap₂ (λ b f. step b (suc q) (g (before ++ rest) f)) (board_before (suc q) (omega arith) h) (feeder_before (suc q) h)
          ∙ ap (step (board before (suc q)) (suc q)) (ih (omega arith))
          ∙ sym (at-board before q)

  pub chain_before : (r : ℕ) → r ≤ length before → chain (before ++ rest) r ≡ chain before r
  chain_before = agrees chain [] (λ b r l. r ∷ l) chain_none chain_board

  -- a part's list is the record, and its feeder's where it goes on
  pub part_before : (r : ℕ) → r ≤ length before → part_chain (before ++ rest) r ≡ part_chain before r
  part_before = agrees part_chain [] (λ b r l. r ∷ onward (kind_of b.kind).zero_seq l) (λ bs. (part_tree bs).ends) part_board

  pub head_before : (r : ℕ) → r ≤ length before → part_head (before ++ rest) r ≡ part_head before r
  unfolding part_head
  head_before r h = ap last_of (part_before r h)

  -- a board that is the head of a board's part, or lies on its list, stands before it
  head_word : (r : ℕ) → 1 ≤ r → r ≤ length before → zero_of (before ++ rest) (part_head (before ++ rest) r) ≡ zero_of before (part_head before r)
  head_word r l h =
      let w = head_between before r l in
      ap (zero_of (before ++ rest)) (head_before r h) ∙ ap (λ b. (kind_of b.kind).zero_seq) (board_before (part_head before r) w.0 (omega arith))

  pub part_sum_before : (r : ℕ) → r ≤ length before → sumΩ (term0 (before ++ rest)) (part_chain (before ++ rest) r) ≡ sumΩ (term0 before) (part_chain before r)
  part_sum_before r h =
      ap (sumΩ (term0 (before ++ rest))) (part_before r h)
      ∙ sum_same (term0 (before ++ rest)) (term0 before) (part_chain before r)
      (λ i o. let w = between (part_tree before) r i o in ap (λ b. zero_term (kind_of b.kind).zero_seq b) (board_before i w.0 (omega arith)))

  pub turn_before : (r : ℕ) → r ≤ length before → turn_of (before ++ rest) r ≡ turn_of before r
  turn_before = agrees turn_of 0 (λ b r s. b.clock + s) turn_none turn_board

  pub Z1_before : (r : ℕ) → r ≤ length before → Z1 (before ++ rest) r ≡ Z1 before r
  Z1_before = agrees Z1 (ohms 0 0) (λ b r s. b.z1 +Ω s) Z1_none Z1_board

  pub Z2_before : (r : ℕ) → r ≤ length before → Z2 (before ++ rest) r ≡ Z2 before r
  Z2_before = agrees Z2 (ohms 0 0) (λ b r s. b.z2 +Ω s) Z2_none Z2_board

  -- 11's sum of zero sequence: where the head starts, from there
  pub start_before : (r : ℕ) → 1 ≤ r → r ≤ length before → is_start (zero_of (before ++ rest) (part_head (before ++ rest) r)) ≡ is_start (zero_of before (part_head before r))
  start_before r l h = ap is_start (head_word r l h)

  -- ---- while a network is read, the earth return and Z0 of a board look at no later one either: a head starts by itself
  pub earth_before : (r : ℕ) → r ≤ length before → earth_of (before ++ rest) r ≡ earth_of before r
  unfolding earth_of
  earth_before zero h = refl
  earth_before (suc q) h = ap earth_by (head_word (suc q) (omega arith) h)

  pub Z0_before : (r : ℕ) → r ≤ length before → Z0 (before ++ rest) r ≡ Z0 before r
  Z0_before r h = go (unearthed before r) refl
    where
      same : {u : Bool} → unearthed before r ≡ u → unearthed (before ++ rest) r ≡ u
      same e = ap is_none (earth_before r h) ∙ e

      go : (u : Bool) → unearthed before r ≡ u → Z0 (before ++ rest) r ≡ Z0 before r
      go true u = sum_unearthed (before ++ rest) r (same u) ∙ sym (sum_unearthed before r u)
      go false u = sum_earthed (before ++ rest) r (same u) ∙ part_sum_before r h ∙ sym (sum_earthed before r u)
