-- A page that holds the records of boards given: what the head, the judgement of the file and the room say of the paper's refusal. Assumes nothing.
use mathlib.Core.Bool.{Bool, true, false, not, ◌&&◌}
use mathlib.Core.List.{List, [], ◌++◌}
use mathlib.Core.Option.{Option, none, some}
use mathlib.Core.Path.{◌≡◌, refl, sym, ◌∙◌, ap}
use Prim.Native.Nat.{ℕ, min, ◌+◌, ◌*◌, ◌≤◌, ◌<◌, ◌^◌}
use native.Mathlib.Decide.{dec_le}
use native.Mathlib.Omega.{arith}
use lib.Dec.{leb}
use lib.ListN.{length, take, drop}
use lib.Seq.{take_all, take-append-add, length-take-le}
use borrow.Author.Tests.{lt-ltb, le-ltb, le-leb, lt-leb, not-false}
use Rattle.std.specs.Prelude.{Ok, Err}
use Rattle.lemmas.specs.Over.{over}
use Rattle.lemmas.proofs.Over.{over_front}
use Rattle.paper.specs.declared.Head.{Head}
use Rattle.paper.specs.declared.Refusal.{Refusal}
use Rattle.paper.specs.declared.Written.{Written}
use Rattle.paper.specs.Bytes.{within}
use Rattle.paper.specs.Label.{Label}
use Rattle.paper.specs.Rows.{first}
use Rattle.paper.specs.File.{head_of, file_size, records_of}
use Rattle.paper.specs.Chain.{Boards}
use Rattle.paper.specs.Refusal.{head_ranges, no_part, boards_rows, records_refusal}
use Rattle.paper.specs.Write.{room_rows, head_bytes, boards_bytes, head_for, file_of, write_rows, write_refusal, write_answer, write_verdict, fills, write_leaves}
use Rattle.follows.proofs.Rows.{◌then◌, first_then}
use Rattle.follows.proofs.Accepted.{head_ranges_lem}
use Rattle.records.specs.declared.Judged.{Judged}
use Rattle.records.specs.Judging.{judgement}
use Rattle.records.proofs.Said.{first_broken, all_kept as records-kept}
use Rattle.decimal.specs.Wrote.{Room, Wrote}
use Rattle.decimal.proofs.Writes.{wrote_length}
use Rattle.writer.specs.OnPage.{OnPage}
use Rattle.writer.specs.RoundTrip.{unshown}
use Rattle.writer.proofs.Bytes.{head_length}
use Rattle.writer.proofs.File.{front_head}
use Rattle.writer.proofs.Alike.{boards_refusal}

-- ---- the head: a count that it cannot say is as wrong as the one that it says instead
said_within : (n : ℕ) → within 1 256 (min 65535 n) ≡ within 1 256 n
unfolding within
said_within n = go (dec_le n 65535)
  where
    go : Dec (n ≤ 65535) → (leb 1 (min 65535 n) && leb (min 65535 n) 256) ≡ (leb 1 n && leb n 256)
    go (yes h) = let e : min 65535 n ≡ n = omega arith in ap (λ (m : ℕ). leb 1 m && leb m 256) e
    go (no h) = simp (lt-leb (min 65535 n) 256 (omega arith), lt-leb n 256 (omega arith), le-leb 1 (min 65535 n) (omega arith), le-leb 1 n (omega arith))

abbrev pub head_said : ℕ → ℕ → ℕ → Head
head_said volts unit n = record { volts = volts; unit = unit; boards = min 65535 n }

-- what the call answers by a refusal, of any boards that the page holds
abbrev because : ℕ → ℕ → Refusal
because number place = record { part = no_part; place = place; number = number }

abbrev Refuses : ℕ → ℕ → ℕ → ℕ → List ℕ → Refusal → Type 0
Refuses volts unit n room page r = (bs : Boards) → OnPage bs n page → write_refusal volts unit bs room ≡ some r

ranges_are : (volts unit : ℕ) {n : ℕ} {page : List ℕ} (bs : Boards) → OnPage bs n page → head_ranges (head_said volts unit n) ≡ head_ranges (head_for volts unit bs)
unfolding head_ranges
ranges_are volts unit {n} bs g = ap (λ (w : Bool). within 1 1000 volts && within 10 1000 unit && w) (said_within n ∙ ap (within 1 256) g.many)

-- 3
pub wrong_head : (volts unit n room : ℕ) {page : List ℕ} → not (head_ranges (head_said volts unit n)) ≡ true → Refuses volts unit n room page (because 3 0)
unfolding write_rows first
wrong_head volts unit n room w bs g = rw (ap not (sym (ranges_are volts unit bs g)) ∙ w) refl

-- ---- the head keeps the ranges
module _ (volts unit n : ℕ) (kept : not (head_ranges (head_said volts unit n)) ≡ false) where
  pub few : n ≤ 256
  few = let r = head_ranges_lem (head_said volts unit n) (not-false (head_ranges (head_said volts unit n)) kept) in omega (arith, r.boards_range.1)

  -- the file's length is a usize
  pub long_fits : 8 + 44 * n < 2 ^ 64
  long_fits = omega (arith, few)

  pub behind_fits : 44 * n < 2 ^ 64
  behind_fits = omega (arith, few)

-- ---- and stands on the page: later is the page with it
pub record HeadPut (volts unit n : ℕ) (page later : List ℕ) : Type 0 where
  pub kept : not (head_ranges (head_said volts unit n)) ≡ false
  pub volts_fit : volts ≤ 65535
  pub unit_fit : unit ≤ 65535
  pub long : length page ≡ 11272
  pub k : ℕ
  pub k_is : k ≡ min 65535 n
  pub end : ℕ
  pub wrote : Wrote 0 (head_bytes (record { volts = volts; unit = unit; boards = k })) page later end

-- there is room for it
pub head_fits : (h : Head) {page : List ℕ} → length page ≡ 11272 → Room 0 (head_bytes h) page
head_fits h l = record { fits = omega (arith, head_length h, l) }

module _ {volts unit n : ℕ} {page later : List ℕ} (h : HeadPut volts unit n page later) where
  abbrev head : Head
  head = record { volts = volts; unit = unit; boards = h.k }

  abbrev file : List ℕ
  file = take (8 + 44 * n) later

  at_most_256 : n ≤ 256
  at_most_256 = few volts unit n h.kept

  k_n : h.k ≡ n
  k_n = omega (arith, h.k_is, at_most_256)

  -- the file is lent as the front of the page
  pub len_fits : 8 + 44 * n ≤ length later
  len_fits = omega (arith, wrote_length (head_fits head h.long) h.wrote, h.long, at_most_256)

  pub file_long : 8 + 44 * n ≡ length file
  file_long = sym (length-take-le (8 + 44 * n) later len_fits)

  file_is : file ≡ head_bytes head ++ take (44 * n) (drop 8 page)
  file_is =
      ap (take (8 + 44 * n)) (h.wrote.stands ∙ over_front (head_bytes head) page) ∙ (λ i. take (sym (head_length head) i + 44 * n) (head_bytes head ++ drop (head_length head i) page))
      ∙ take-append-add (head_bytes head) (drop 8 page) (44 * n)

  -- what `judge` asks
  pub judged_as : (n ≡ (head_of file).boards) × (n ≤ 256) × (length file ≡ 8 + 44 * n)
  judged_as = (
    sym (ap (λ (s : List ℕ). (head_of s).boards) file_is ∙ ap (λ (d : Head). d.boards) (front_head head (take (44 * n) (drop 8 page)) h.volts_fit h.unit_fit (omega (arith, k_n, at_most_256))) ∙ k_n),
    at_most_256,
    sym file_long,
  )

  -- ---- of the boards that the page holds
  module _ (bs : Boards) (g : OnPage bs n page) where
    few_given : length bs ≤ 65535
    few_given = omega (arith, g.many, at_most_256)

    stand : take (44 * n) (drop 8 page) ≡ boards_bytes bs
    stand =
        let all : min 256 n ≡ n = omega (arith, at_most_256) in
        ap (λ (m : ℕ). take (44 * m) (drop 8 page)) (sym all) ∙ g.laid ∙ ap boards_bytes (take_all 256 bs (omega (arith, g.many, at_most_256)))

    pub is_file : file ≡ file_of volts unit bs
    unfolding file_of
    is_file = file_is ∙ (λ i. head_bytes (record { volts = volts; unit = unit; boards = (k_n ∙ g.many) i }) ++ stand i)

    behind_3 : (room : ℕ) → write_refusal volts unit bs room ≡ first (boards_rows [] bs ++ room_rows n room)
    unfolding write_rows first
    behind_3 room = rw (ap not (sym (ranges_are volts unit bs g)) ∙ h.kept) (λ i. first (boards_rows [] bs ++ room_rows (sym g.many i) room))

    by_file : (room : ℕ) {o : Option Refusal} → records_refusal [] (records_of file) ≡ o → write_refusal volts unit bs room ≡ unshown o then first (room_rows n room)
    by_file room e =
        behind_3 room ∙ first_then (boards_rows [] bs) (room_rows n room)
        ∙ ap (λ (o : Option Refusal). o then first (room_rows n room)) (boards_refusal volts unit bs g.typed h.volts_fit h.unit_fit few_given)
        ∙ ap (λ (s : List ℕ). unshown (records_refusal [] (records_of s)) then first (room_rows n room)) (sym is_file)
        ∙ ap (λ (o : Option Refusal). unshown o then first (room_rows n room)) e

  module _ (room : ℕ) (l : Label) {j : Judged} (j-is : j ≡ judgement file l) where
    -- a board's own
    pub wrong_board : {w : Refusal} → j.outcome ≡ Err w → Refuses volts unit n room page (because w.number w.place)
    unfolding unshown ◌then◌
    wrong_board is bs g = by_file bs g room (first_broken file l j-is is)

    only_room : j.outcome ≡ Ok tt → (bs : Boards) → OnPage bs n page → write_refusal volts unit bs room ≡ first (room_rows n room)
    unfolding unshown ◌then◌
    only_room z bs g = by_file bs g room (records-kept file l j-is z)

    -- 20
    pub no_room : j.outcome ≡ Ok tt → room < 8 + 44 * n → Refuses volts unit n room page (because 20 0)
    unfolding first
    no_room z s bs g = only_room z bs g ∙ rw (lt-ltb room (file_size n) s) refl

    pub all_kept : j.outcome ≡ Ok tt → 8 + 44 * n ≤ room → (bs : Boards) → OnPage bs n page → write_refusal volts unit bs room ≡ none
    unfolding first
    all_kept z s bs g = only_room z bs g ∙ rw (le-ltb room (file_size n) s) refl

-- ---- the answers
module _ (volts unit n : ℕ) (page out : List ℕ) where
  abbrev Says : Written → List ℕ → Type 0
  Says r later = ((bs : Boards) → OnPage bs n page → r ≡ write_verdict volts unit bs (length out)) × ((bs : Boards) → OnPage bs n page → later ≡ write_leaves volts unit bs out)

  pub refused : {r : Written} {number place : ℕ} → Refuses volts unit n (length out) page (because number place) → r ≡ record { part = no_part; len = 0; place = place; number = number } → Says r out
  unfolding write_verdict write_answer write_leaves fills
  refused f e = (
    λ bs g. e ∙ sym (ap (λ (o : Option Refusal). write_answer o (length bs)) (f bs g)),
    λ bs g. sym (ap (λ (o : Option Refusal). fills o (file_of volts unit bs) out) (f bs g)),
  )

  -- the file, copied out
  pub accepted : {r : Written} {own later : List ℕ} {end : ℕ} (h : HeadPut volts unit n page own) → ((bs : Boards) → OnPage bs n page → write_refusal volts unit bs (length out) ≡ none)
      → Wrote 0 (take (8 + 44 * n) own) out later end
      → r ≡ record { part = no_part; len = 8 + 44 * n; place = 0; number = 0 }
      → Says r later
  unfolding write_verdict write_answer write_leaves fills over
  accepted h f w e = (
    λ bs g.
        e ∙ (λ i. record { part = no_part; len = file_size (g.many i); place = 0; number = 0 }) ∙ sym (ap (λ (o : Option Refusal). write_answer o (length bs)) (f bs g)),
    λ bs g.
        w.stands ∙ ap (λ (s : List ℕ). s ++ drop (length s) out) (is_file h bs g)
        ∙ sym (ap (λ (o : Option Refusal). fills o (file_of volts unit bs) out) (f bs g)),
  )
