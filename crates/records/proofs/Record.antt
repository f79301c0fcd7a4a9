-- A record's rules in the reader's shape are the paper's. Assumes nothing.
use mathlib.Core.Bool.{Bool, true, false, not, cond, ◌||◌}
use mathlib.Core.List.{List, [], ◌∷◌, ◌++◌}
use mathlib.Core.Option.{Option, none, some}
use mathlib.Core.Path.{◌≡◌, refl, sym, ◌∙◌, ap}
use Prim.Native.Nat.{ℕ, zero, suc, ◌≤◌}
use native.Mathlib.Decide.{dec_le}
use native.Mathlib.Omega.{arith}
use lib.Dec.{leb, eqb}
use lib.ListN.{length}
use borrow.Author.Tests.{eq-eqb, ne_eqb, le-leb, lt-leb, not-false}
use Rattle.paper.specs.declared.Board.{Board}
use Rattle.paper.specs.declared.Part.{Part}
use Rattle.paper.specs.declared.Refusal.{Refusal}
use Rattle.paper.specs.Label.{formed}
use Rattle.paper.specs.Rule.{number_of as the_number, rule_of}
use Rattle.paper.specs.Rows.{Test, test, rows_at, first}
use Rattle.paper.specs.File.{mark_of, BD, board_of}
use Rattle.paper.specs.Chain.{Boards, place_of}
use Rattle.paper.specs.Refusal.{feeder_wrong, kind_wrong, impedance_wrong, z1_forgotten, sum_wrong, board_tests, record_rows, the_record}
use Rattle.lemmas.proofs.Bools.{same_by}
use Rattle.follows.proofs.Fit.{fit}
use Rattle.node.specs.Node.{OwnSmall}
use Rattle.records.specs.Rules.{fed_wrong, number_of, broken}
use Rattle.records.proofs.Behind.{own_place, used_place, place_earlier, place_not_earlier}

-- the first broken rule of a list, with a place and a part
abbrev refused_at : ℕ → Part → ℕ → Option Refusal
refused_at p s zero = none
refused_at p s (suc n) = some (record { part = s; place = p; number = suc n })

-- every number of a list is a refusal's, so not 0
abbrev Numbered : List Test → Type 0
Numbered [] = Unit {0}
Numbered (test zero b ∷ ts) = ⊥
Numbered (test (suc n) b ∷ ts) = Numbered ts

first_is : (p : ℕ) (s : Part) (ts : List Test) → Numbered ts → first (rows_at p s ts) ≡ refused_at p s (number_of ts)
unfolding first rows_at number_of
first_is p s [] h = refl
first_is p s (test zero b ∷ ts) h = absurd h
first_is p s (test (suc n) true ∷ ts) h = refl
first_is p s (test (suc n) false ∷ ts) h = first_is p s ts h

-- rules behind others: they decide where the others are kept
numbers_behind : (ts us : List Test) → number_of ts ≡ 0 → Numbered ts → number_of (ts ++ us) ≡ number_of us
unfolding number_of
numbers_behind [] us e h = refl
numbers_behind (test zero b ∷ ts) us e h = absurd h
numbers_behind (test (suc n) true ∷ ts) us e h = absurd (omega arith)
numbers_behind (test (suc n) false ∷ ts) us e h = numbers_behind ts us e h

numbers_before : (ts us : List Test) → (number_of ts ≡ 0 → ⊥) → number_of (ts ++ us) ≡ number_of ts
unfolding number_of
numbers_before [] us n = absurd (n refl)
numbers_before (test m true ∷ ts) us n = refl
numbers_before (test m false ∷ ts) us n = numbers_before ts us n

-- every number of a list is a rule's, so the one that it gives is
abbrev Named : List Test → Type 0
Named [] = Unit {0}
Named (test n b ∷ ts) = (the_number (rule_of n) ≡ n) × Named ts

the_first_named : (ts : List Test) → Named ts → 1 ≤ number_of ts → the_number (rule_of (number_of ts)) ≡ number_of ts
unfolding number_of
the_first_named [] h m = absurd (omega arith)
the_first_named (test n true ∷ ts) h m = h.0
the_first_named (test n false ∷ ts) h m = the_first_named ts h.1 m

pub broken_named : (r mark : ℕ) (b : Board) (own fed : ℕ) → 1 ≤ broken r mark b own fed → the_number (rule_of (broken r mark b own fed)) ≡ broken r mark b own fed
unfolding broken rule_of
broken_named r mark b own fed = the_first_named _ (refl, (refl, (refl, (refl, (refl, (refl, (refl, tt)))))))

module _ (before : Boards) (s : List ℕ) (rest : Boards) where
  abbrev b : Board
  b = board_of s

  abbrev r : ℕ
  r = suc (length before)

  abbrev all : Boards
  all = before ++ (b ∷ rest)

  -- 7
  pub own_test : eqb (place_of b.label all) r ≡ eqb (place_of b.label before) 0
  own_test = go (dec_le 1 (place_of b.label before))
    where
      go : Dec (1 ≤ place_of b.label before) → eqb (place_of b.label all) r ≡ eqb (place_of b.label before) 0
      go (yes p) = ne_eqb _ _ (used_place before b rest (λ e. omega arith)) ∙ sym (ne_eqb (place_of b.label before) 0 (λ e. omega arith))
      go (no f) = let e : place_of b.label before ≡ 0 = omega arith in eq-eqb _ _ (own_place before b rest e) ∙ sym (eq-eqb (place_of b.label before) 0 e)

-- 8: record 1 apart, the label's first place among all boards is an earlier one
pub fed_test : (before : Boards) (b : Board) (rest : Boards) → fed_wrong (suc (length before)) b (place_of b.feeder (before ++ (b ∷ rest))) ≡ feeder_wrong before b
unfolding fed_wrong feeder_wrong
fed_test [] b rest = refl
fed_test (x ∷ xs) b rest = rw (ne_eqb (suc (suc (length xs))) 1 (λ e. omega arith)) (go (dec_le 1 fed) (dec_le fed (suc (length xs))))
  where
    fed : ℕ
    fed = place_of b.feeder ((x ∷ xs) ++ (b ∷ rest))

    go : Dec (1 ≤ fed) → Dec (fed ≤ suc (length xs)) → (eqb fed 0 || leb (suc (suc (length xs))) fed) ≡ eqb (place_of b.feeder (x ∷ xs)) 0
    go (yes p) (yes q) =
        let e = place_earlier (x ∷ xs) b rest b.feeder p q in
        simp (ne_eqb fed 0 (λ z. omega arith), lt-leb (suc (suc (length xs))) fed (omega arith), ne_eqb (place_of b.feeder (x ∷ xs)) 0 (λ z. omega arith))
    go (yes p) (no q) =
        let e = place_not_earlier (x ∷ xs) b rest b.feeder (λ h k. q k) in
        simp (ne_eqb fed 0 (λ z. omega arith), le-leb (suc (suc (length xs))) fed (omega arith), eq-eqb (place_of b.feeder (x ∷ xs)) 0 e)
    go (no p) q =
        let e = place_not_earlier (x ∷ xs) b rest b.feeder (λ h k. p h) in
        simp (eq-eqb fed 0 (omega arith), eq-eqb (place_of b.feeder (x ∷ xs)) 0 e)

-- ---- a record is refused by the first of 5 to 10, then 21, or by 11
module _ (before : Boards) (s : List ℕ) (rest : Boards) where
  abbrev own : ℕ
  own = place_of (board_of s).label (before ++ (board_of s ∷ rest))

  abbrev fed : ℕ
  fed = place_of (board_of s).feeder (before ++ (board_of s ∷ rest))

  abbrev place : ℕ
  place = suc (length before)

  abbrev sums : Bool
  sums = sum_wrong (before ++ (board_of s ∷ [])) place

  own_tests : List Test
  own_tests =
      test 5 (not (eqb (mark_of s) BD)) ∷ test 6 (not (formed (board_of s).label)) ∷ test 7 (not (eqb own place)) ∷ test 8 (fed_wrong place (board_of s) fed)
      ∷ test 9 (kind_wrong place (board_of s))
      ∷ test 10 (impedance_wrong (board_of s))
      ∷ test 21 (z1_forgotten (board_of s))
      ∷ []

  record_is : first (record_rows before s) ≡ refused_at place (the_record place) (number_of (own_tests ++ (test 11 sums ∷ [])))
  unfolding record_rows board_tests own_tests
  record_is =
      (λ i. first (rows_at place (the_record place)
      (test 5 (not (eqb (mark_of s) BD)) ∷ test 6 (not (formed (board_of s).label)) ∷ test 7 (not (sym (own_test before s rest) i)) ∷ test 8 (sym (fed_test before (board_of s) rest) i)
      ∷ test 9 (kind_wrong place (board_of s))
      ∷ test 10 (impedance_wrong (board_of s))
      ∷ test 21 (z1_forgotten (board_of s))
      ∷ test 11 sums
      ∷ [])))
      ∙ first_is place (the_record place) (own_tests ++ (test 11 sums ∷ [])) tt

  pub record_broken : (n : ℕ) → 1 ≤ n → broken place (mark_of s) (board_of s) own fed ≡ n → first (record_rows before s) ≡ some (record { part = the_record place; place = place; number = n })
  unfolding broken own_tests
  record_broken zero h e = absurd (omega arith)
  record_broken (suc n) h e = record_is ∙ ap (refused_at place (the_record place)) (numbers_before own_tests (test 11 sums ∷ []) (λ z. omega (arith, e, z)) ∙ e)

  -- with 5 to 10 and 21 kept, the sums decide
  record_kept : broken place (mark_of s) (board_of s) own fed ≡ 0 → first (record_rows before s) ≡ refused_at place (the_record place) (cond sums 11 0)
  unfolding broken own_tests number_of
  record_kept e = record_is ∙ ap (refused_at place (the_record place)) (numbers_behind own_tests (test 11 sums ∷ []) e tt)

  pub record_over : broken place (mark_of s) (board_of s) own fed ≡ 0 → sums ≡ true → first (record_rows before s) ≡ some (record { part = the_record place; place = place; number = 11 })
  record_over e h = record_kept e ∙ ap (λ (c : Bool). refused_at place (the_record place) (cond c 11 0)) h

  pub record_passes : broken place (mark_of s) (board_of s) own fed ≡ 0 → sums ≡ false → first (record_rows before s) ≡ none
  record_passes e h = record_kept e ∙ ap (λ (c : Bool). refused_at place (the_record place) (cond c 11 0)) h

-- ---- what the rules kept give: each tested false (the mark and z1 are nobody's concern later)
kept : (n : ℕ) (c : Bool) (ts : List Test) → number_of (test (suc n) c ∷ ts) ≡ 0 → (c ≡ false) × (number_of ts ≡ 0)
unfolding number_of
kept n true ts e = absurd (omega arith)
kept n false ts e = (refl, e)

pub record Kept (r mark : ℕ) (b : Board) (own fed : ℕ) : Type 0 where
  pub label_kept : formed b.label ≡ true
  pub own_kept : own ≡ r
  pub fed_kept : fed_wrong r b fed ≡ false
  pub kind_kept : kind_wrong r b ≡ false
  pub impedance_kept : impedance_wrong b ≡ false

pub all_kept : (r mark : ℕ) (b : Board) (own fed : ℕ) → broken r mark b own fed ≡ 0 → Kept r mark b own fed
unfolding broken
all_kept r mark b own theirs e =
    let (_, e5) = kept 4 _ _ e in
    let (t6, e6) = kept 5 _ _ e5 in
    let (t7, e7) = kept 6 _ _ e6 in
    let (t8, e8) = kept 7 _ _ e7 in
    let (t9, e9) = kept 8 _ _ e8 in
    record { label_kept = not-false (formed b.label) t6; own_kept = same_by own r t7; fed_kept = t8; kind_kept = t9; impedance_kept = (kept 9 _ _ e9).0 }

-- so its sums fit their words
pub own_small : {r mark : ℕ} {b : Board} {own fed : ℕ} → Kept r mark b own fed → OwnSmall b
own_small {r} {b = b} k =
    let f = fit r b k.label_kept k.kind_kept k.impedance_kept in
    record { own1 = f.z1_small; own2 = f.z2_small; own0 = f.z0_small; own_n = f.zn_small; own_clock = f.clock_small }
