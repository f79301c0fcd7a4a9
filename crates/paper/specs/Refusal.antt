-- 01, 'What the caller gets': the refusal table, 1 to 19, in its order (02, R-2: "18 is withdrawn, never reused"; R-6: 21 between 10 and 11). Assumes nothing.
use Rattle.std.specs.Prelude.{Bool, not, ◌&&◌, ◌||◌, List, [], ◌∷◌, ◌++◌, ℕ, suc, ◌+◌, ◌*◌, ltb, eqb, length}
use Rattle.std.proofs.Math.Option.{Option}
use Rattle.paper.specs.declared.Head.{Head}
use Rattle.paper.specs.declared.Board.{Board}
use Rattle.paper.specs.declared.Fault.{Fault}
use Rattle.paper.specs.declared.Lent.{Lent}
use Rattle.paper.specs.declared.Lent.TheVariants.{NetworkBytes, FaultBytes}
use Rattle.paper.specs.declared.Part.{Part}
use Rattle.paper.specs.Bytes.{same_bytes, one_of, within, part}
use Rattle.paper.specs.declared.Refusal.{Refusal}
use Rattle.paper.specs.Rows.{Test, test, Row, row, rows_at, first}
use Rattle.paper.specs.Label.{spaces, formed}
use Rattle.paper.specs.Kind.{is_zero, part_over, kind_of, known, stands_at, all_hold, is_start}
use Rattle.paper.specs.File.{mark_of, HD, BD, FT, head_of, head_size, board_of, board_size, fault_of, fault_size, file_size, start_of, records_of, boards_of}
use Rattle.paper.specs.Chain.{Boards, place_of, zero_of, part_chain, part_head, sumΩ, term0, Z1, Z2}

-- ---- the parts
abbrev pub all_of : Lent → List ℕ → Part
all_of w s = part w 0 (length s)

abbrev pub the_head : Part
the_head = part NetworkBytes 0 head_size

abbrev pub the_record : ℕ → Part
the_record r = part NetworkBytes (start_of r) board_size

abbrev pub the_fault : Part
the_fault = part FaultBytes 0 fault_size

-- ---- 1 to 4: the head
-- "volts u16 (prefault, phase to neutral, 1 to 1,000), unit u16 (microohms in one count, 10 to 1,000), N u16 (1 to 256)"
unfoldable pub head_ranges : Head → Bool
head_ranges h = within 1 1000 h.volts && within 10 1000 h.unit && within 1 256 h.boards

unfoldable pub head_rows : List ℕ → List Row
head_rows s =
    let h = head_of s in
    row 1 (ltb (length s) head_size) 0 (all_of NetworkBytes s)
    ∷ row 2 (not (eqb (mark_of s) HD)) 0 the_head
    ∷ row 3 (not (head_ranges h)) 0 the_head
    ∷ row 4 (not (eqb (length s) (file_size h.boards))) 0 the_head
    ∷ []

-- ---- 5 to 11 and 21: a record
-- "record 1: feeder not twelve spaces; others: feeder bytes equal no earlier label"
unfoldable pub feeder_wrong : Boards → Board → Bool
feeder_wrong [] b = not (same_bytes b.feeder spaces)
feeder_wrong (e ∷ es) b = eqb (place_of b.feeder (e ∷ es)) 0

-- "kind or clock, or kind in the wrong record"
unfoldable pub kind_wrong : ℕ → Board → Bool
kind_wrong r b = not (known b.kind) || not (one_of b.clock (kind_of b.kind).clocks) || not (stands_at (kind_of b.kind).stands r)

-- "impedance over 4,095 or against the kind's rule"
unfoldable pub impedance_wrong : Board → Bool
impedance_wrong b = part_over 4095 b.z1 || part_over 4095 b.z2 || part_over 4095 b.z0 || part_over 4095 b.zn || not (all_hold (kind_of b.kind).rules b)

-- 02, R-6: "Kinds 3, 4 and 5 with z1 zero"
unfoldable pub z1_forgotten : Board → Bool
z1_forgotten b = within 3 5 b.kind && is_zero b.z1

-- "a part of Z1, Z2 or an existing Z0 over 4,095" (a Z0 that exists starts at the head of the part, and is summed from there)
unfoldable pub sum_wrong : Boards → ℕ → Bool
sum_wrong bs r = part_over 4095 (Z1 bs r) || part_over 4095 (Z2 bs r) || (is_start (zero_of bs (part_head bs r)) && part_over 4095 (sumΩ (term0 bs) (part_chain bs r)))

-- 6 to 11 and 21 ("tested after 10 and before 11"), asked of a board that is to stand behind the boards before it: whoever reads, writes or adds one asks these
unfoldable pub board_tests : Boards → Board → List Test
board_tests before b =
    let r = suc (length before) in
    test 6 (not (formed b.label))
    ∷ test 7 (not (eqb (place_of b.label before) 0))
    ∷ test 8 (feeder_wrong before b)
    ∷ test 9 (kind_wrong r b)
    ∷ test 10 (impedance_wrong b)
    ∷ test 21 (z1_forgotten b)
    ∷ test 11 (sum_wrong (before ++ (b ∷ [])) r)
    ∷ []

-- of a record's bytes: 5 before them, with the record's place and part
unfoldable pub record_rows : Boards → List ℕ → List Row
record_rows before s = let r = suc (length before) in rows_at r (the_record r) (test 5 (not (eqb (mark_of s) BD)) ∷ board_tests before (board_of s))

-- "5 to 11 are all tried on one record before the next.": each behind the boards of those before it
unfoldable pub in_order : {A : Type 0} → (A → Board) → (Boards → A → List Row) → Boards → List A → List Row
in_order board rows before [] = []
in_order board rows before (a ∷ rest) = let later = in_order board rows (before ++ (board a ∷ [])) rest in rows before a ++ later

abbrev pub records_rows : Boards → List (List ℕ) → List Row
records_rows = in_order board_of record_rows

-- 02, R-1: of boards that are no bytes: the same tests, and "the part is the bytes tested, empty where there are none"
abbrev pub no_part : Part
no_part = part NetworkBytes 0 0

unfoldable pub board_rows : Boards → Board → List Row
board_rows before b = rows_at (suc (length before)) no_part (board_tests before b)

abbrev pub boards_rows : Boards → Boards → List Row
boards_rows = in_order (λ b. b) board_rows

unfoldable pub network_rows : List ℕ → List Row
network_rows net = head_rows net ++ records_rows [] (records_of net)

-- ---- 12 to 19: the fault, and the room for the answer
-- "phase over 2, or kind 0 with phase not 0"
unfoldable pub phase_wrong : Fault → Bool
phase_wrong f = ltb 2 f.phase || eqb f.kind 0 && not (eqb f.phase 0)

-- places of the answer for n boards
abbrev pub answer_size : ℕ → ℕ
answer_size n = 13 + 24 * n

unfoldable pub fault_rows : Boards → List ℕ → ℕ → List Row
fault_rows bs s room =
    let f = fault_of s in
    let k = place_of f.label bs in
    row 12 (not (eqb (length s) fault_size)) 0 (all_of FaultBytes s)
    ∷ row 13 (not (eqb (mark_of s) FT)) 0 the_fault
    ∷ row 14 (eqb k 0) 0 the_fault
    ∷ row 15 (ltb 3 f.kind) 0 the_fault
    ∷ row 16 (phase_wrong f) 0 the_fault
    ∷ row 17 (part_over 1365 f.zf) 0 the_fault
    ∷ row 19 (ltb room (answer_size (length bs))) 0 (part FaultBytes 0 0)
    ∷ []

-- ---- all of them in their order
unfoldable pub solve_rows : List ℕ → List ℕ → ℕ → List Row
solve_rows net flt room = network_rows net ++ fault_rows (boards_of net) flt room

-- by the first that tests true
abbrev pub records_refusal : Boards → List (List ℕ) → Option Refusal
records_refusal before recs = first (records_rows before recs)

abbrev pub network_refusal : List ℕ → Option Refusal
network_refusal net = first (network_rows net)

abbrev pub refusal : List ℕ → List ℕ → ℕ → Option Refusal
refusal net flt room = first (solve_rows net flt room)

unfoldable pub refusal_open : Unit {0}
unfolding head_ranges head_rows feeder_wrong kind_wrong impedance_wrong z1_forgotten sum_wrong board_tests record_rows in_order board_rows network_rows phase_wrong fault_rows solve_rows
refusal_open = tt
