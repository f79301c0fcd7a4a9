-- What acceptance gives, in names: of a network, and of a fault and the room for its answer (12 to 19). Assumes nothing.
use mathlib.Core.Bool.{true, false, not, ◌&&◌}
use mathlib.Core.List.{List, [], ◌∷◌, ◌++◌, append-nil, append_assoc}
use mathlib.Core.Option.{none}
use mathlib.Core.Path.{◌≡◌, refl, ap}
use Prim.Native.Nat.{ℕ, zero, suc, ◌+◌, ◌*◌, ◌≤◌}
use native.Mathlib.Omega.{arith}
use lib.Dec.{leb, ltb, eqb}
use lib.ListN.{length, drop}
use borrow.Author.Tests.{leb-true, ltb-false, eqb-false, eq-eqb, not-false}
use Rattle.paper.specs.declared.Head.{Head}
use Rattle.paper.specs.declared.Fault.{Fault}
use Rattle.paper.specs.Bytes.{within}
use Rattle.paper.specs.File.{mark_of, HD, BD, FT, head_of, head_size, board_of, board_size, fault_of, records, records_of, decoded, boards_of}
use Rattle.paper.specs.Chain.{Boards, place_of}
use Rattle.paper.specs.Rows.{test, first}
use Rattle.paper.specs.Refusal.{the_record, head_ranges, head_rows, board_tests, record_rows, in_order, records_rows, records_refusal, network_rows, network_refusal, phase_wrong, answer_size, fault_rows, solve_rows, refusal}
use Rattle.lemmas.proofs.Bools.{both, neither, same_by}
use Rattle.paper.specs.Bounds.{AtMost}
use Rattle.follows.proofs.Impedance.{not_over}
use Rattle.follows.proofs.Places.{place_most}
use Rattle.follows.proofs.Rows.{Clear, clear, clear_at, both_none}
use Rattle.follows.proofs.Sound.{Sound, sound_none, tested, sound_next}

-- ---- the head
pub within_true : (a b n : ℕ) → within a b n ≡ true → (a ≤ n) × (n ≤ b)
unfolding within
within_true a b n h = let (l, m) = both (leb a n) (leb n b) h in (leb-true a n l, leb-true n b m)

pub record HeadRanges (h : Head) : Type 0 where
  pub volts_range : (1 ≤ h.volts) × (h.volts ≤ 1000)
  pub unit_range : (10 ≤ h.unit) × (h.unit ≤ 1000)
  pub boards_range : (1 ≤ h.boards) × (h.boards ≤ 256)

pub head_ranges_lem : (h : Head) → head_ranges h ≡ true → HeadRanges h
unfolding head_ranges
head_ranges_lem h t =
    let (t1, t-boards) = both (within 1 1000 h.volts && within 10 1000 h.unit) (within 1 256 h.boards) t in
    let (t-volts, t-unit) = both (within 1 1000 h.volts) (within 10 1000 h.unit) t1 in
    record { volts_range = within_true 1 1000 h.volts t-volts; unit_range = within_true 10 1000 h.unit t-unit; boards_range = within_true 1 256 h.boards t-boards }

-- ---- the records, each behind those before it
pub record_tested : (before : Boards) (s : List ℕ) → first (record_rows before s) ≡ none → (mark_of s ≡ BD) × Clear (board_tests before (board_of s))
unfolding record_rows
record_tested before s e =
    let c = clear_at (suc (length before)) (the_record (suc (length before))) (test 5 (not (eqb (mark_of s) BD)) ∷ board_tests before (board_of s)) e in
    (same_by (mark_of s) BD c.0, c.1)

pub records_sound : (before : Boards) (recs : List (List ℕ)) → Sound before → records_refusal before recs ≡ none → Sound (before ++ decoded recs)
unfolding in_order decoded
records_sound before [] s e = rw append-nil s
records_sound before (x ∷ recs) s e =
    let (e1, e2) = both_none (record_rows before x) (records_rows (before ++ (board_of x ∷ [])) recs) e in
    let next = sound_next before (board_of x) s (tested before (board_of x) (record_tested before x e1).1) in
    rw (← append_assoc before (board_of x ∷ []) (decoded recs)) (records_sound (before ++ (board_of x ∷ [])) recs next e2)

-- as many boards as the head says
decoded_length : (n : ℕ) (s : List ℕ) → length (decoded (records n s)) ≡ n
unfolding decoded records
decoded_length zero s = refl
decoded_length (suc n) s = ap suc (decoded_length n (drop board_size s))

pub boards_length : (net : List ℕ) → length (boards_of net) ≡ (head_of net).boards
unfolding boards_of records_of
boards_length net = decoded_length (head_of net).boards (drop head_size net)

-- ---- the network
pub record Network (net : List ℕ) : Type 0 where
  pub head_mark : mark_of net ≡ HD
  pub ranges : head_ranges (head_of net) ≡ true
  pub head_in : HeadRanges (head_of net)
  pub size : length net ≡ 8 + 44 * (head_of net).boards
  pub count : length (boards_of net) ≡ (head_of net).boards
  pub sound : Sound (boards_of net)

pub accepted_network_lem : (net : List ℕ) → network_refusal net ≡ none → Network net
unfolding network_rows head_rows boards_of
accepted_network_lem net e =
    let (e1, e2) = both_none (head_rows net) (records_rows [] (records_of net)) e in
    let (c1, (c2, (c3, (c4, _)))) = clear (head_rows net) e1 in
    let t : head_ranges (head_of net) ≡ true = not-false (head_ranges (head_of net)) c3 in
    record {
      head_mark = same_by (mark_of net) HD c2;
      ranges = t;
      head_in = head_ranges_lem (head_of net) t;
      size = same_by (length net) (8 + 44 * (head_of net).boards) c4;
      count = boards_length net;
      sound = records_sound [] (records_of net) sound_none e2;
    }

-- ---- the fault, and the room for the answer
pub record Question (net flt : List ℕ) (room : ℕ) : Type 0 where
  pub network : network_refusal net ≡ none
  pub fault_size_lem : length flt ≡ 20
  pub fault_mark : mark_of flt ≡ FT
  pub k_from : 1 ≤ place_of (fault_of flt).label (boards_of net)
  pub k_to : place_of (fault_of flt).label (boards_of net) ≤ length (boards_of net)
  pub kind_to : (fault_of flt).kind ≤ 3
  pub phase_to : (fault_of flt).phase ≤ 2
  pub phase_three : (fault_of flt).kind ≡ 0 → (fault_of flt).phase ≡ 0
  pub zf_small : AtMost 1365 (fault_of flt).zf
  pub room_enough : 13 + 24 * length (boards_of net) ≤ room

phase_right : (f : Fault) → phase_wrong f ≡ false → (f.phase ≤ 2) × (f.kind ≡ 0 → f.phase ≡ 0)
unfolding phase_wrong
phase_right f h =
    let (a, b) = neither (ltb 2 f.phase) (eqb f.kind 0 && not (eqb f.phase 0)) h in
    (ltb-false 2 f.phase a, λ e. same_by f.phase 0 (rw (eq-eqb f.kind 0 e) at b))

pub accepted_fault : (net flt : List ℕ) (room : ℕ) → refusal net flt room ≡ none → Question net flt room
unfolding solve_rows fault_rows
accepted_fault net flt room e =
    let bs : Boards = boards_of net in
    let f : Fault = fault_of flt in
    let k : ℕ = place_of f.label bs in
    let (e1, e2) = both_none (network_rows net) (fault_rows bs flt room) e in
    let (c12, (c13, (c14, (c15, (c16, (c17, (c19, _))))))) = clear (fault_rows bs flt room) e2 in
    let there = eqb-false k 0 c14 in
    let (p, p0) = phase_right f c16 in
    record {
      network = e1;
      fault_size_lem = same_by (length flt) 20 c12;
      fault_mark = same_by (mark_of flt) FT c13;
      k_from = omega arith;
      k_to = place_most f.label bs;
      kind_to = ltb-false 3 f.kind c15;
      phase_to = p;
      phase_three = p0;
      zf_small = not_over 1365 f.zf c17;
      room_enough = ltb-false room (answer_size (length bs)) c19;
    }
