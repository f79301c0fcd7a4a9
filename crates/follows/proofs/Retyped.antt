-- 02, R-3: a network and a fault typed in another case. Whatever the bytes, damaged ones too, the answer or the refusal and the buffer stay; so does what writing boards returns; bytes shown back differ in their case alone. Assumes nothing.
use mathlib.Core.Bool.{Bool, true, false, not, cond, ◌&&◌, ◌||◌}
use mathlib.Core.List.{List, [], ◌∷◌, ◌++◌, map}
use mathlib.Core.Option.{Option}
use mathlib.Core.Path.{◌≡◌, refl, sym, ◌∙◌, ap}
use Prim.Native.Nat.{ℕ, zero, suc, ◌+◌, ◌*◌, ◌-◌, ◌%◌, ◌≤◌, ◌<◌, min}
use native.Mathlib.Nat.{mod-eq_of_lt, add-mod_left}
use native.Mathlib.Omega.{arith}
use lib.Dec.{leb, ltb, eqb}
use lib.IntN.{ℤ}
use lib.ListN.{length, get_or, take, drop, length-map, length-take, length-drop, get_or-map, get_or-eq_default}
use lib.Seq.{get_or-take, get_or-drop, ext_get_or}
use borrow.Author.Tests.{ltb-true, ltb-false, le-leb}
use Rattle.paper.specs.declared.Ohms.{Ohms}
use Rattle.paper.specs.declared.Board.{Board}
use Rattle.paper.specs.declared.Refusal.{Refusal}
use Rattle.paper.specs.declared.Lent.TheVariants.{NetworkBytes, FaultBytes, LabelBytes}
use Rattle.paper.specs.Bytes.{u8_at, bytes_at, cut, within, part}
use Rattle.paper.specs.Label.{Label, capital, capitals}
use Rattle.paper.specs.Kind.{ohms, part_over}
use Rattle.paper.specs.File.{mark_of, HD, BD, FT, head_of, head_size, board_of, board_size, label_size, fault_of, fault_size, file_size, records, records_of, decoded, boards_of}
use Rattle.paper.specs.Chain.{Boards, place_of}
use Rattle.paper.specs.Rows.{Test, test, Row, row, rows_at, first}
use Rattle.paper.specs.Refusal.{the_head, the_record, the_fault, head_ranges, head_rows, board_tests, record_rows, in_order, records_rows, network_rows, phase_wrong, answer_size, fault_rows, solve_rows, refusal}
use Rattle.paper.specs.Phase.{Asked, asked}
use Rattle.paper.specs.Answer.{after, written, answer, verdict}
use Rattle.paper.specs.Write.{write_verdict}
use Rattle.paper.specs.Return.{label_rows, earth_rows, return_at, refused_or, earth_said}
use Rattle.paper.proofs.Typed.{ft, typed_open}
use Rattle.follows.proofs.Case.{capital_once}
use Rattle.follows.specs.Capitals.{board_in_capitals}
use Rattle.follows.proofs.Upper.{uppers, Alike, by_capitals, look_upper, count, earth_upper, tests_upper, order_upper, write_upper, upper_fault, upper_asked, answer_upper, after_upper}

-- ---- bytes typed in another case: where labels stand a byte may differ by its case, elsewhere none may
pub record Retyped (typed : ℕ → Bool) (s t : List ℕ) : Type 0 where
  pub same_length : length s ≡ length t
  pub by_case : (i : ℕ) → capital (u8_at s i) ≡ capital (u8_at t i)
  pub elsewhere : (i : ℕ) → typed i ≡ false → u8_at s i ≡ u8_at t i

-- where labels stand: in a record its label and its feeder, behind the mark (bytes 2 to 25)
unfoldable pub in_record : ℕ → Bool
in_record i = leb 2 i && ltb i (2 + 2 * label_size)

-- in a network's file those of every record, behind the head
unfoldable pub in_network : ℕ → Bool
in_network i = leb head_size i && in_record ((i - head_size) % board_size)

-- in a fault its label, behind the mark (bytes 2 to 13)
unfoldable pub in_fault : ℕ → Bool
in_fault i = leb 2 i && ltb i (2 + label_size)

-- ---- the same in one equation: each byte as it is read
abbrev read : Bool → ℕ → ℕ
read label x = cond label (capital x) x

record ReadAlike (typed : ℕ → Bool) (s t : List ℕ) : Type 0 where
  reads : (i : ℕ) → read (typed i) (u8_at s i) ≡ read (typed i) (u8_at t i)

alike : {typed : ℕ → Bool} {s t : List ℕ} → Retyped typed s t → ReadAlike typed s t
alike {typed} {s} {t} r = record { reads = λ i. go i (typed i) refl }
  where
    go : (i : ℕ) (c : Bool) → typed i ≡ c → read c (u8_at s i) ≡ read c (u8_at t i)
    go i true e = r.by_case i
    go i false e = r.elsewhere i e

capital_read : (c : Bool) (x y : ℕ) → read c x ≡ read c y → capital x ≡ capital y
capital_read true x y h = h
capital_read false x y h = ap capital h

-- the first n bytes, one by one
first_read : (f : ℕ → ℕ) (s t : List ℕ) (n i : ℕ) → (i < n → f (u8_at s i) ≡ f (u8_at t i)) → f (u8_at (take n s) i) ≡ f (u8_at (take n t) i)
first_read f s t n i h = go (ltb i n) refl
  where
    past : (l : List ℕ) → n ≤ i → u8_at (take n l) i ≡ 0
    past l m = get_or-eq_default (take n l) 0 (omega (arith, length-take n l))

    go : (c : Bool) → ltb i n ≡ c → f (u8_at (take n s) i) ≡ f (u8_at (take n t) i)
    go true e = let l = ltb-true i n e in ap f (get_or-take n s i 0 l) ∙ h l ∙ ap f (sym (get_or-take n t i 0 l))
    go false e = let m = ltb-false i n e in ap f (past s m ∙ sym (past t m))

-- ---- what is decoded from such bytes
module _ {typed : ℕ → Bool} {s t : List ℕ} (h : ReadAlike typed s t) where
  rest_reads : (n i : ℕ) → read (typed (n + i)) (u8_at (drop n s) i) ≡ read (typed (n + i)) (u8_at (drop n t) i)
  rest_reads n i = let f = read (typed (n + i)) in ap f (get_or-drop n s i 0) ∙ h.reads (n + i) ∙ ap f (sym (get_or-drop n t i 0))

  -- numbers stand where no label does: there a byte is read as it is
  abbrev u16 : ℕ → (j : 𝕀) → ℕ
  u16 i j = h.reads i j + 256 * h.reads (i + 1) j

  abbrev impedance : ℕ → (j : 𝕀) → Ohms
  impedance i j = ohms (u16 i j) (u16 (i + 2) j)

  label_alike : (n i : ℕ) → capitals (bytes_at n s i) ≡ capitals (bytes_at n t i)
  unfolding bytes_at
  label_alike zero i = refl
  label_alike (suc n) i = λ j. capital_read (typed i) (u8_at s i) (u8_at t i) (h.reads i) j ∷ label_alike n (i + 1) j

-- what is judged of a record: its mark, and its board in capitals
abbrev seen : List ℕ → ℕ × Board
seen s = (mark_of s, board_in_capitals (board_of s))

record_alike : {s t : List ℕ} → ReadAlike in_record s t → seen s ≡ seen t
unfolding board_of in_record
record_alike h = λ j. (
  u16 h 0 j,
  record {
    z1 = impedance h 28 j;
    z2 = impedance h 32 j;
    z0 = impedance h 36 j;
    zn = impedance h 40 j;
    label = label_alike h label_size 2 j;
    feeder = label_alike h label_size 14 j;
    kind = h.reads 26 j;
    clock = h.reads 27 j;
  },
)

records_alike : (n : ℕ) {s t : List ℕ} → ReadAlike (λ i. in_record (i % board_size)) s t → map seen (records n s) ≡ map seen (records n t)
unfolding records
records_alike zero h = refl
records_alike (suc n) {s} {t} h = λ j. record_alike one j ∷ records_alike n others j
  where
    one : ReadAlike in_record (take board_size s) (take board_size t)
    one = record { reads = λ i. first_read (read (in_record i)) s t board_size i (λ l. rw (mod-eq_of_lt l) at (h.reads i)) }

    others : ReadAlike (λ i. in_record (i % board_size)) (drop board_size s) (drop board_size t)
    others = record { reads = λ i. rw (add-mod_left board_size i) at (rest_reads h board_size i) }

boards_seen : (recs : List (List ℕ)) → uppers (decoded recs) ≡ map (λ r. r.1) (map seen recs)
unfolding decoded
boards_seen [] = refl
boards_seen (s ∷ recs) = ap (λ bs. board_in_capitals (board_of s) ∷ bs) (boards_seen recs)

-- a record's rows by what is seen of it: at a place, a mark and the board's tests
abbrev rows_seen : ℕ → ℕ → List Test → List Row
rows_seen p mark tests = rows_at p (the_record p) (test 5 (not (eqb mark BD)) ∷ tests)

abbrev seen_rows : Boards → ℕ × Board → List Row
seen_rows before r = rows_seen (suc (length before)) r.0 (board_tests before r.1)

records_seen : (recs : List (List ℕ)) → records_rows [] recs ≡ in_order (λ r. r.1) seen_rows [] (map seen recs)
unfolding record_rows
records_seen =
    order_upper board_of record_rows (λ r. r.1) seen_rows seen (λ s. refl) (λ before s i. rows_seen (suc (count before i)) (mark_of s) (tests_upper before (board_of s) i)) []

-- ---- a network
module _ {net net' : List ℕ} (typed : Retyped in_network net net') where
  abbrev network : ReadAlike in_network net net'
  network = alike typed

  head_alike : head_of net ≡ head_of net'
  unfolding head_of in_network
  head_alike = λ j. record { volts = u16 network 2 j; unit = u16 network 4 j; boards = u16 network 6 j }

  seen_alike : map seen (records_of net) ≡ map seen (records_of net')
  unfolding records_of in_network
  seen_alike = records_alike (head_of net).boards behind_head ∙ (λ j. map seen (records (head_alike j).boards (drop head_size net')))
    where
      behind_head : ReadAlike (λ i. in_record (i % board_size)) (drop head_size net) (drop head_size net')
      behind_head =
          record {
            reads = λ i.
                let e : head_size + i - head_size ≡ i = omega arith in
                rw (le-leb head_size (head_size + i) (omega arith), e) at (rest_reads network head_size i);
          }

  boards_alike : Alike (boards_of net) (boards_of net')
  unfolding boards_of
  boards_alike = by_capitals (map seen) (map (λ r. r.1)) boards_seen (records_of net) (records_of net') seen_alike

  head_rows_alike : head_rows net ≡ head_rows net'
  unfolding head_rows in_network
  head_rows_alike = λ j.
      let size = typed.same_length j in
      let h = head_alike j in
      row 1 (ltb size head_size) 0 (part NetworkBytes 0 size)
      ∷ row 2 (not (eqb (u16 network 0 j) HD)) 0 the_head
      ∷ row 3 (not (head_ranges h)) 0 the_head
      ∷ row 4 (not (eqb size (file_size h.boards))) 0 the_head
      ∷ []

  network_alike : network_rows net ≡ network_rows net'
  unfolding network_rows
  network_alike =
      let later = by_capitals (map seen) (in_order (λ r. r.1) seen_rows []) records_seen (records_of net) (records_of net') seen_alike in
      λ j. head_rows_alike j ++ later j

  -- ---- and a label (02, R-4)
  module _ (l l' : Label) (same : capitals l ≡ capitals l') where
    label_place : place_of l (boards_of net) ≡ place_of l' (boards_of net')
    label_place = look_upper 1 l (boards_of net) ∙ (λ j. place_of (same j) (boards_alike j)) ∙ sym (look_upper 1 l' (boards_of net'))

    label_rows_alike : label_rows (boards_of net) l ≡ label_rows (boards_of net') l'
    unfolding label_rows
    label_rows_alike =
        let size = sym (length-map l capital) ∙ ap length same ∙ length-map l' capital in
        λ j. row 14 (not (eqb (size j) label_size) || eqb (label_place j) 0) 0 (part LabelBytes 0 (size j)) ∷ []

    pub said_alike : earth_said net l ≡ earth_said net' l'
    unfolding earth_said earth_rows
    said_alike =
        let at = by_capitals uppers (λ us. return_at us (place_of l (boards_of net))) (λ bs. earth_upper bs (place_of l (boards_of net))) (boards_of net) (boards_of net') boards_alike in
        λ j. refused_or (first (network_alike j ++ label_rows_alike j)) ((at ∙ ap (return_at (boards_of net')) label_place) j)

  -- ---- and a fault
  module _ {flt flt' : List ℕ} (retyped : Retyped in_fault flt flt') where
    abbrev asking : ReadAlike in_fault flt flt'
    asking = alike retyped

    fault_alike : upper_fault (fault_of flt) ≡ upper_fault (fault_of flt')
    unfolding fault_of in_fault
    fault_alike = λ j. record { zf = impedance asking 16 j; label = label_alike asking label_size 2 j; kind = asking.reads 14 j; phase = asking.reads 15 j }

    place_alike : place_of (fault_of flt).label (boards_of net) ≡ place_of (fault_of flt').label (boards_of net')
    place_alike =
        look_upper 1 (fault_of flt).label (boards_of net) ∙ (λ j. place_of (fault_alike j).label (boards_alike j))
        ∙ sym (look_upper 1 (fault_of flt').label (boards_of net'))

    fault_rows_alike : (room : ℕ) → fault_rows (boards_of net) flt room ≡ fault_rows (boards_of net') flt' room
    unfolding fault_rows phase_wrong in_fault
    fault_rows_alike room =
        let many = by_capitals uppers length count (boards_of net) (boards_of net') boards_alike in
        λ j.
        let size = retyped.same_length j in
        let f = fault_alike j in
        row 12 (not (eqb size fault_size)) 0 (part FaultBytes 0 size)
        ∷ row 13 (not (eqb (u16 asking 0 j) FT)) 0 the_fault
        ∷ row 14 (eqb (place_alike j) 0) 0 the_fault
        ∷ row 15 (ltb 3 f.kind) 0 the_fault
        ∷ row 16 (phase_wrong f) 0 the_fault
        ∷ row 17 (part_over 1365 f.zf) 0 the_fault
        ∷ row 19 (ltb room (answer_size (many j))) 0 (part FaultBytes 0 0)
        ∷ []

    refusal_alike : (room : ℕ) → refusal net flt room ≡ refusal net' flt' room
    unfolding solve_rows
    refusal_alike room = λ j. first (network_alike j ++ fault_rows_alike room j)

    asked_alike : upper_asked (asked net flt) ≡ upper_asked (asked net' flt')
    unfolding asked
    asked_alike = λ j. record { head = head_alike j; boards = boards_alike j; fault = fault_alike j; k = place_alike j }

    -- what is told of a refusal and a question, the same of a question in capitals
    pub told_alike : {X : Type 0} (told : Option Refusal → Asked → X) → ((r : Option Refusal) (q : Asked) → told r q ≡ told r (upper_asked q))
        → (room : ℕ)
        → told (refusal net flt room) (asked net flt) ≡ told (refusal net' flt' room) (asked net' flt')
    told_alike told same room =
        same (refusal net flt room) (asked net flt) ∙ (λ j. told (refusal_alike room j) (asked_alike j)) ∙ sym (same (refusal net' flt' room) (asked net' flt'))

-- ---- the theorems: the same answer or refusal, the same buffer, and the same of writing
pub case_verdict : {net net' flt flt' : List ℕ} → Retyped in_network net net' → Retyped in_fault flt flt' → (room : ℕ) → verdict net flt room ≡ verdict net' flt' room
unfolding verdict
case_verdict n f room = told_alike n f answer (λ r q. answer_upper q r) room

pub case_written : {net net' flt flt' : List ℕ} → Retyped in_network net net' → Retyped in_fault flt flt' → (buffer : List ℤ) → written net flt buffer ≡ written net' flt' buffer
unfolding written
case_written n f buffer = told_alike n f (λ r q. after r q buffer) (λ r q. after_upper q r buffer) (length buffer)

pub case_write : (bs bs' : Boards) → Alike bs bs' → (volts unit room : ℕ) → write_verdict volts unit bs room ≡ write_verdict volts unit bs' room
case_write bs bs' a volts unit room = by_capitals uppers (λ us. write_verdict volts unit us room) (write_upper volts unit room) bs bs' a

-- 02, R-4: and of what is said about an earth return, of a label typed in another case too
pub case_earth : {net net' : List ℕ} (l l' : Label) → Retyped in_network net net' → capitals l ≡ capitals l' → earth_said net l ≡ earth_said net' l'
case_earth l l' n same = said_alike n l l' same

-- and of any part that is shown back, as typed, the same in capitals
pub case_shown : {typed : ℕ → Bool} {s t : List ℕ} → Retyped typed s t → (start len : ℕ) → capitals (cut s start len) ≡ capitals (cut t start len)
case_shown {s = s} {t} r start len =
    ext_get_or (capital 0) _ _ (size s ∙ (λ j. min len (r.same_length j - start)) ∙ sym (size t))
    (λ i l. at s i ∙ first_read capital (drop start s) (drop start t) len i (λ m. rest_reads by_case_alone start i) ∙ sym (at t i))
  where
    size : (l : List ℕ) → length (capitals (cut l start len)) ≡ min len (length l - start)
    size l = length-map (cut l start len) capital ∙ length-take len (drop start l) ∙ ap (min len) (length-drop start l)

    at : (l : List ℕ) (i : ℕ) → get_or (capitals (cut l start len)) i (capital 0) ≡ capital (u8_at (cut l start len) i)
    at l i = get_or-map capital (cut l start len) i 0

    by_case_alone : ReadAlike (λ i. true) s t
    by_case_alone = record { reads = r.by_case }

-- ---- the premise can be met: any bytes may be typed in capitals where labels stand
unfoldable pub in_capitals : (ℕ → Bool) → List ℕ → List ℕ
in_capitals typed [] = []
in_capitals typed (x ∷ s) = read (typed 0) x ∷ in_capitals (λ i. typed (suc i)) s

capitals_at : (typed : ℕ → Bool) (s : List ℕ) (i : ℕ) → u8_at (in_capitals typed s) i ≡ read (typed i) (u8_at s i)
unfolding in_capitals capital within
capitals_at typed [] i = go (typed i)
  where
    go : (c : Bool) → 0 ≡ read c 0
    go true = refl
    go false = refl
capitals_at typed (x ∷ s) zero = refl
capitals_at typed (x ∷ s) (suc i) = capitals_at (λ i. typed (suc i)) s i

capitals_length : (typed : ℕ → Bool) (s : List ℕ) → length s ≡ length (in_capitals typed s)
unfolding in_capitals
capitals_length typed [] = refl
capitals_length typed (x ∷ s) = ap suc (capitals_length (λ i. typed (suc i)) s)

pub retyped_capitals : (typed : ℕ → Bool) (s : List ℕ) → Retyped typed s (in_capitals typed s)
retyped_capitals typed s =
    record {
      same_length = capitals_length typed s;
      by_case = λ i. go (typed i) (u8_at s i) ∙ ap capital (sym (capitals_at typed s i));
      elsewhere = λ i e. sym (capitals_at typed s i ∙ ap (λ c. read c (u8_at s i)) e);
    }
  where
    go : (c : Bool) (x : ℕ) → capital x ≡ capital (read c x)
    go true x = sym (capital_once x)
    go false x = refl

hall_in_capitals : in_capitals in_fault (ft "Hall-west-1" 1 0 (ohms 0 5)) ≡ ft "HALL-WEST-1" 1 0 (ohms 0 5)
unfolding in_capitals in_fault capital within typed_open
hall_in_capitals = refl
