-- The part of every answer lies within the bytes that it names, so `shown` can be called on every answer, those about an earth return too. Assumes nothing.
use mathlib.Core.Bool.{true, false}
use mathlib.Core.List.{List, [], ◌∷◌, ◌++◌}
use mathlib.Core.Option.{Option, none, some}
use mathlib.Core.Path.{◌≡◌, refl}
use Prim.Native.Nat.{ℕ, suc, ◌+◌, ◌*◌, ◌≤◌}
use native.Mathlib.Omega.{arith}
use lib.ListN.{length, length-append}
use borrow.Author.Tests.{ltb-false}
use Rattle.lemmas.proofs.Bools.{same_by}
use Rattle.paper.specs.declared.Part.{Part}
use Rattle.paper.specs.declared.Refusal.{Refusal}
use Rattle.paper.specs.File.{head_of, board_of, fault_of, records_of, boards_of}
use Rattle.paper.specs.Chain.{Boards, place_of, part_head, Earth, no_earth, earth_at, earth_of}
use Rattle.paper.specs.Rows.{Test, test, Row, row, rows_at, first}
use Rattle.paper.specs.Refusal.{the_record, head_rows, record_rows, in_order, records_rows, records_refusal, network_rows, network_refusal, fault_rows, solve_rows, refusal}
use Rattle.paper.specs.Phase.{asked}
use Rattle.paper.specs.Answer.{accepted, refused, answer, verdict}
use Rattle.paper.specs.Return.{label_rows, earth_rows, earth_refusal, return_of, return_at, refused_or, earth_said}
use Rattle.follows.proofs.Rows.{clear}
use Rattle.follows.proofs.Numbered.{Of}
use Rattle.follows.proofs.Accepted.{accepted_network_lem, accepted_fault}
use Rattle.node.proofs.Records.{recs_length}
use Rattle.verdict.specs.Said.{part_said}
use Rattle.verdict.specs.Shown.{Within}

-- ---- what a refusal shows, of rows tried in their order
module _ (P : Part → Type 0) where
  abbrev Shows : Option Refusal → Type 0
  Shows = Of (λ r. P r.part)

  -- each row's part, where it tests true and the rows before it tested false
  abbrev InTurn : List Row → Type 0
  InTurn [] = Unit {0}
  InTurn (row n b p s ∷ rest) = (b ≡ true → P s) × (b ≡ false → InTurn rest)

  shows : (rows : List Row) → InTurn rows → Shows (first rows)
  unfolding first
  shows [] h = tt
  shows (row n true p s ∷ rest) h = h.0 refl
  shows (row n false p s ∷ rest) h = shows rest (h.1 refl)

  shows_at : (p : ℕ) (s : Part) (ts : List Test) → P s → Shows (first (rows_at p s ts))
  unfolding first rows_at
  shows_at p s [] h = tt
  shows_at p s (test n true ∷ ts) h = h
  shows_at p s (test n false ∷ ts) h = shows_at p s ts h

  shows_behind : (rows later : List Row) → Shows (first rows) → (first rows ≡ none → Shows (first later)) → Shows (first (rows ++ later))
  unfolding first
  shows_behind [] later h k = k refl
  shows_behind (row n true p s ∷ rows) later h k = h
  shows_behind (row n false p s ∷ rows) later h k = shows_behind rows later h k

  -- a record's rules show the record
  shows_records : (last : ℕ) → ((r : ℕ) → 1 ≤ r → r ≤ last → P (the_record r)) → (before : Boards) (recs : List (List ℕ)) → length before + length recs ≤ last → Shows (records_refusal before recs)
  unfolding in_order record_rows first
  shows_records last h before [] l = tt
  shows_records last h before (x ∷ recs) l =
      shows_behind (record_rows before x) (records_rows (before ++ (board_of x ∷ [])) recs) (shows_at (suc (length before)) (the_record (suc (length before))) _ (h (suc (length before)) (omega arith) (omega arith)))
      (λ e. shows_records last h (before ++ (board_of x ∷ [])) recs (simp length-append (omega arith)))

-- ---- of a network and a fault
module _ (net flt : List ℕ) where
  abbrev In : Part → Type 0
  In p = Within p net flt

  record_in : (n r : ℕ) → length net ≡ 8 + 44 * n → 1 ≤ r → r ≤ n → In (the_record r)
  record_in n r e h l = omega arith

  head_in : Shows In (first (head_rows net))
  unfolding head_rows
  head_in =
      shows In (head_rows net)
      ((λ _. omega arith), λ s. let l = ltb-false (length net) 8 s in ((λ _. l), λ _. ((λ _. l), λ _. ((λ _. l), λ _. tt))))

  records_in : first (head_rows net) ≡ none → Shows In (records_refusal [] (records_of net))
  unfolding head_rows
  records_in e =
      let c = clear (head_rows net) e in
      let size : length net ≡ 8 + 44 * (head_of net).boards = same_by (length net) (8 + 44 * (head_of net).boards) c.1.1.1.0 in
      shows_records In (head_of net).boards (λ r h l. record_in (head_of net).boards r size h l) [] (records_of net) (omega (arith, recs_length net))

  fault_in : (room : ℕ) → Shows In (first (fault_rows (boards_of net) flt room))
  unfolding fault_rows
  fault_in room =
      shows In (fault_rows (boards_of net) flt room) (
        (λ _. omega arith),
        λ s. let e = same_by (length flt) 20 s in
            let l : 20 ≤ length flt = omega arith in
            ((λ _. l), λ _. ((λ _. l), λ _. ((λ _. l), λ _. ((λ _. l), λ _. ((λ _. l), λ _. ((λ _. omega arith), λ _. tt)))))),
      )

  network_in : Shows In (network_refusal net)
  unfolding network_rows
  network_in = shows_behind In (head_rows net) (records_rows [] (records_of net)) head_in records_in

  refusal_in : (room : ℕ) → Shows In (refusal net flt room)
  unfolding solve_rows
  refusal_in room = shows_behind In (network_rows net) (fault_rows (boards_of net) flt room) network_in (λ _. fault_in room)

  accepted_in : (room : ℕ) → refusal net flt room ≡ none → In (accepted (asked net flt)).part
  unfolding accepted asked
  accepted_in room e =
      let q = accepted_fault net flt room e in
      let n = accepted_network_lem net q.network in
      record_in (head_of net).boards (place_of (fault_of flt).label (boards_of net)) n.size q.k_from (omega (arith, q.k_to, n.count))

-- "handed back as a part of the bytes it came in, network or fault"
pub within : (net flt : List ℕ) (room : ℕ) → Within (verdict net flt room).part net flt
unfolding verdict answer refused
within net flt room = go (refusal net flt room) refl (refusal_in net flt room)
  where
    go : (o : Option Refusal) → refusal net flt room ≡ o → Shows (In net flt) o → Within (answer o (asked net flt)).part net flt
    go none e h = accepted_in net flt room e
    go (some r) e h = h

-- the same of what is said about an earth return
pub within_said : (net l : List ℕ) → Within (part_said (earth_said net l).shown) net l
unfolding earth_said refused_or earth_rows return_at return_of label_rows
within_said net l =
    go (earth_refusal net l) (shows_behind (In net l) (network_rows net) (label_rows (boards_of net) l) (network_in net l) (λ _. shows (In net l) (label_rows (boards_of net) l) ((λ _. omega arith), λ _. tt)))
  where
    none_shown : (e : Earth) (h : ℕ) → Within (part_said (return_of e h).shown) net l
    none_shown no_earth h = omega arith
    none_shown (earth_at e) h = omega arith

    go : (o : Option Refusal) → Shows (In net l) o → Within (part_said (refused_or o (return_at (boards_of net) (place_of l (boards_of net)))).shown) net l
    go none h = none_shown (earth_of (boards_of net) (place_of l (boards_of net))) (part_head (boards_of net) (place_of l (boards_of net)))
    go (some r) h = h
