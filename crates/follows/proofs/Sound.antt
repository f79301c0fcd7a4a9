-- Sound boards: what a board's tests give of every board, in names. They stay sound as boards are read behind them. Assumes nothing.
use mathlib.Core.Bool.{Bool, true, false, not, ◌&&◌, ◌||◌}
use mathlib.Core.List.{[], ◌∷◌, ◌++◌}
use mathlib.Core.Path.{◌≡◌, refl, sym, ◌∙◌, ap}
use Prim.Native.Nat.{ℕ, zero, suc, ◌*◌, ◌≤◌, ◌<◌}
use native.Mathlib.Omega.{arith}
use lib.Dec.{leb, lit≤}
use lib.ListN.{length, length-append}
use borrow.Author.Tests.{leb-true, leb-false, eqb-false, not-false}
use Rattle.paper.specs.declared.Board.{Board}
use Rattle.paper.specs.Bytes.{same_bytes}
use Rattle.paper.specs.Label.{spaces, formed, same_label}
use Rattle.paper.specs.Kind.{Term, goes_on, kind_of, is_zero, part_over, is_start}
use Rattle.paper.specs.Chain.{Boards, board, place_of, feeder_of, chain, zero_of, part_chain, part_head, unearthed, sumΩ, term1, term2, term0, Z1, Z2, Z0, turn_of}
use Rattle.paper.specs.Refusal.{feeder_wrong, sum_wrong, board_tests}
use Rattle.lemmas.proofs.Bools.{neither, same_by}
use Rattle.paper.specs.Bounds.{AtMost}
use Rattle.follows.proofs.Impedance.{not_over}
use Rattle.follows.proofs.Lists.{On, on_here, on_there, sum_not_zero}
use Rattle.follows.proofs.Places.{same_label_lem, look_here, place_first, place_stays, place_behind}
use Rattle.follows.proofs.Chain.{feeder_earlier, along, chain_board, turn_none, turn_board}
use Rattle.follows.proofs.Next.{board_next, feeder_next}
use Rattle.follows.proofs.Parts.{start_earthed, sum_earthed, sum_unearthed}
use Rattle.follows.proofs.Before.{board_before, feeder_before, start_before, part_sum_before, Z1_before, Z2_before}
use Rattle.follows.proofs.KindTable.{no_source}
use Rattle.follows.proofs.Rows.{Clear}
use Rattle.follows.proofs.Fit.{Fit, fit}

-- ---- board r of a network
pub record SoundAt (bs : Boards) (r : ℕ) : Type 0 where
  -- what it keeps by itself
  pub own : Fit r (board bs r)
  -- labels differ: the first equal one is its own
  pub place : place_of (board bs r).label bs ≡ r
  -- record 1 has no feeder; any other is fed by an earlier record
  pub spaced : r ≡ 1 → same_bytes (board bs r).feeder spaces ≡ true
  pub unfed : r ≡ 1 → feeder_of bs r ≡ 0
  pub fed : 1 < r → 1 ≤ feeder_of bs r
  pub earlier : feeder_of bs r < r
  pub Z1_small : AtMost 4095 (Z1 bs r)
  pub Z2_small : AtMost 4095 (Z2 bs r)
  -- the sum from the head of its part on, where zero sequence starts there
  pub part_small : is_start (zero_of bs (part_head bs r)) ≡ true → AtMost 4095 (sumΩ (term0 bs) (part_chain bs r))

abbrev pub Sound : Boards → Type 0
Sound bs = (r : ℕ) → 1 ≤ r → r ≤ length bs → SoundAt bs r

pub sound_none : Sound []
sound_none r h k = absurd (omega arith)

-- ---- a board stays sound, whatever comes behind it
pub sound_stays : (before rest : Boards) (r : ℕ) → 1 ≤ r → r ≤ length before → SoundAt before r → SoundAt (before ++ rest) r
sound_stays before rest r h k s =
    record {
      own = rw b s.own;
      place = rw b (place_stays (board before r).label before rest (omega (arith, s.place)) ∙ s.place);
      spaced = rw b s.spaced;
      unfed = rw f s.unfed;
      fed = rw f s.fed;
      earlier = rw f s.earlier;
      Z1_small = rw (Z1_before before rest r k) s.Z1_small;
      Z2_small = rw (Z2_before before rest r k) s.Z2_small;
      part_small = rw (start_before before rest r h k, part_sum_before before rest r k) s.part_small;
    }
  where
    b : board (before ++ rest) r ≡ board before r
    b = board_before before rest r h k

    f : feeder_of (before ++ rest) r ≡ feeder_of before r
    f = feeder_before before rest r k

-- ---- a board that passes its tests is sound behind those before it
pub record Tested (before : Boards) (b : Board) : Type 0 where
  pub own : Fit (suc (length before)) b
  pub unused : place_of b.label before ≡ 0
  pub feeder : feeder_wrong before b ≡ false
  pub sums : sum_wrong (before ++ (b ∷ [])) (suc (length before)) ≡ false

pub tested : (before : Boards) (b : Board) → Clear (board_tests before b) → Tested before b
unfolding board_tests
tested before b c =
    let (c6, (c7, (c8, (c9, (c10, (_, (c11, _))))))) = c in
    record { own = fit (suc (length before)) b (not-false (formed b.label) c6) c9 c10; unused = same_by (place_of b.label before) 0 c7; feeder = c8; sums = c11 }

source_spaced : (before : Boards) (b : Board) → feeder_wrong before b ≡ false → suc (length before) ≡ 1 → same_bytes b.feeder spaces ≡ true
unfolding feeder_wrong
source_spaced [] b h e = not-false (same_bytes b.feeder spaces) h
source_spaced (x ∷ xs) b h e = absurd (omega arith)

others_fed : (before : Boards) (b : Board) → feeder_wrong before b ≡ false → 1 < suc (length before) → 1 ≤ place_of b.feeder before
unfolding feeder_wrong
others_fed [] b h l = absurd (omega arith)
others_fed (x ∷ xs) b h l = let n = eqb-false (place_of b.feeder (x ∷ xs)) 0 h in omega arith

pub sound_new : (before : Boards) (b : Board) → Tested before b → SoundAt (before ++ (b ∷ [])) (suc (length before))
unfolding sum_wrong
sound_new before b t =
    let bs : Boards = before ++ (b ∷ []) in
    let r : ℕ = suc (length before) in
    let e : feeder_of bs r ≤ length before = feeder_earlier bs (length before) in
    let (s1, s-part) = neither (part_over 4095 (Z1 bs r) || part_over 4095 (Z2 bs r)) (is_start (zero_of bs (part_head bs r)) && part_over 4095 (sumΩ (term0 bs) (part_chain bs r))) t.sums in
    let (s-Z1, s-Z2) = neither (part_over 4095 (Z1 bs r)) (part_over 4095 (Z2 bs r)) s1 in
    record {
      own = rw (board_next before b []) t.own;
      place = rw (board_next before b []) (place_behind b.label before (b ∷ []) t.unused ∙ look_here r b.label b [] (same_label_lem b.label));
      spaced = rw (board_next before b []) (source_spaced before b t.feeder);
      unfed = λ o. omega arith;
      fed = rw (feeder_next before b []) (others_fed before b t.feeder);
      earlier = omega arith;
      Z1_small = not_over 4095 (Z1 bs r) s-Z1;
      Z2_small = not_over 4095 (Z2 bs r) s-Z2;
      part_small = λ e. not_over 4095 (sumΩ (term0 bs) (part_chain bs r)) (rw e at s-part);
    }

-- 11 by the sums themselves
pub sum_wrong_is : (bs : Boards) (q : ℕ) → sum_wrong bs (suc q) ≡ (part_over 4095 (Z1 bs (suc q)) || part_over 4095 (Z2 bs (suc q)) || part_over 4095 (Z0 bs (suc q)))
unfolding sum_wrong part_over
sum_wrong_is bs q = ap (λ c. part_over 4095 (Z1 bs (suc q)) || part_over 4095 (Z2 bs (suc q)) || c) (ap (λ c. c && part_over 4095 (sumΩ (term0 bs) (part_chain bs (suc q)))) (start_earthed bs q) ∙ go (unearthed bs (suc q)) refl)
  where
    go : (u : Bool) → unearthed bs (suc q) ≡ u → (not u && part_over 4095 (sumΩ (term0 bs) (part_chain bs (suc q)))) ≡ part_over 4095 (Z0 bs (suc q))
    go true u = ap (part_over 4095) (sym (sum_unearthed bs (suc q) u))
    go false u = ap (part_over 4095) (sym (sum_earthed bs (suc q) u))

-- ---- what goes on is no source, so it has a feeder
pub going_on : (before : Boards) (b : Board) → Fit (suc (length before)) b → feeder_wrong before b ≡ false → {t : Term} → (kind_of b.kind).zero_seq ≡ goes_on t → 1 ≤ place_of b.feeder before
going_on [] b f w e = absurd (no_source b.kind (f.kind_first refl) e)
going_on (x ∷ xs) b f w e = others_fed (x ∷ xs) b w (omega arith)

pub sound_next : (before : Boards) (b : Board) → Sound before → Tested before b → Sound (before ++ (b ∷ []))
sound_next before b s t r h k = go (leb r (length before)) refl
  where
    go : (c : Bool) → leb r (length before) ≡ c → SoundAt (before ++ (b ∷ [])) r
    go true e = let l = leb-true r (length before) e in sound_stays before (b ∷ []) r h l (s r h l)
    go false e =
        let l = leb-false r (length before) e in
        let q : r ≡ suc (length before) = omega (arith, length-append before (b ∷ [])) in
        rw q (sound_new before b t)

-- ---- in sound boards
module _ (bs : Boards) (s : Sound bs) where
  -- no earlier board has r's label
  pub labels_differ : (r i : ℕ) → r ≤ length bs → 1 ≤ i → i < r → same_label (board bs r).label (board bs i).label ≡ false
  labels_differ r i k h l = let e = (s r (omega arith) k).place in place_first (board bs r).label bs i h (omega arith)

  -- an existing Z0 is the sum from the head on, so no part of it is over 4,095 either
  pub Z0_small : (r : ℕ) → 1 ≤ r → r ≤ length bs → AtMost 4095 (Z0 bs r)
  Z0_small zero h k = absurd (omega arith)
  Z0_small (suc q) h k = go (unearthed bs (suc q)) refl
    where
      go : (u : Bool) → unearthed bs (suc q) ≡ u → AtMost 4095 (Z0 bs (suc q))
      go true u = rw (sum_unearthed bs (suc q) u) (record { r_most = lit≤ tt; x_most = lit≤ tt })
      go false u = rw (sum_earthed bs (suc q) u) ((s (suc q) h k).part_small (start_earthed bs q ∙ ap not u))

  -- the source is on every chain
  pub source_on : (r : ℕ) → 1 ≤ r → r ≤ length bs → On 1 (chain bs r)
  source_on = along bs (λ r. 1 ≤ r → r ≤ length bs → On 1 (chain bs r)) (λ h. absurd (omega arith)) go
    where
      go : (q : ℕ) → (1 ≤ feeder_of bs (suc q) → feeder_of bs (suc q) ≤ length bs → On 1 (chain bs (feeder_of bs (suc q)))) → 1 ≤ suc q → suc q ≤ length bs → On 1 (chain bs (suc q))
      go zero ih h k = rw (chain_board bs 0) (on_here 1 (chain bs (feeder_of bs 1)))
      go (suc p) ih h k =
          let a = s (suc (suc p)) h k in
          let f = a.fed (omega arith) in
          let e = a.earlier in
          rw (chain_board bs (suc p)) (on_there 1 (suc (suc p)) (chain bs (feeder_of bs (suc (suc p)))) (ih f (omega arith)))

  -- so no Z1 and no Z2 is zero: the source's own are not, and parts only add
  pub Z1_not_zero : (r : ℕ) → 1 ≤ r → r ≤ length bs → is_zero (Z1 bs r) ≡ false
  unfolding Z1
  Z1_not_zero r h k = sum_not_zero (term1 bs) (chain bs r) 1 (source_on r h k) ((s 1 (omega arith) (omega arith)).own.z1_first refl)

  pub Z2_not_zero : (r : ℕ) → 1 ≤ r → r ≤ length bs → is_zero (Z2 bs r) ≡ false
  unfolding Z2
  Z2_not_zero r h k = sum_not_zero (term2 bs) (chain bs r) 1 (source_on r h k) ((s 1 (omega arith) (omega arith)).own.z2_first refl)

  -- a turn is at most 11 for each record
  pub turn_small : (r : ℕ) → r ≤ length bs → turn_of bs r ≤ 11 * r
  turn_small = along bs (λ r. r ≤ length bs → turn_of bs r ≤ 11 * r) (λ h. omega (arith, turn_none bs)) go
    where
      go : (q : ℕ) → (feeder_of bs (suc q) ≤ length bs → turn_of bs (feeder_of bs (suc q)) ≤ 11 * feeder_of bs (suc q)) → suc q ≤ length bs → turn_of bs (suc q) ≤ 11 * suc q
      go q ih k =
          let a = s (suc q) (omega arith) k in
          let e = feeder_earlier bs q in
          let i = ih (omega arith) in
          omega (arith, turn_board bs q)
