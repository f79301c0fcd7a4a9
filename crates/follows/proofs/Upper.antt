-- 02, R-3: boards with their labels and feeders in capitals. Every place, sum, test and number that the paper takes from boards is the same of them. Assumes nothing.
use mathlib.Core.Bool.{not, cond, ◌&&◌, ◌||◌}
use mathlib.Core.List.{List, [], ◌∷◌, ◌++◌, map, map-append}
use mathlib.Core.Option.{Option, none, some}
use mathlib.Core.Path.{◌≡◌, refl, sym, ◌∙◌, ap, fun_ext}
use Prim.Native.Nat.{ℕ, zero, suc, ◌-◌}
use lib.Dec.{eqb}
use lib.IntN.{ℤ}
use lib.ListN.{length, take, drop, length-map, get_or-map}
use Rattle.turn.specs.Number.{whole_n, ◌-N◌, ◌*N◌}
use Rattle.paper.specs.declared.Ohms.{Ohms}
use Rattle.paper.specs.declared.Board.{Board}
use Rattle.paper.specs.declared.Fault.{Fault}
use Rattle.paper.specs.declared.Refusal.{Refusal}
use Rattle.paper.specs.declared.Seq.{Seq}
use Rattle.paper.specs.Bytes.{one_of}
use Rattle.paper.specs.Label.{Label, capitals}
use Rattle.paper.specs.Kind.{Term, z0_alone, z0+3zn, Zero, starts, goes_on, Rule, z1≠0, z2≠0, z1=z2, z0=0, zn=0, kind_of, part_over, holds, all_hold, term, zero_term, is_start}
use Rattle.paper.specs.Chain.{Boards, no_board, board, look_from, place_of, feeder_of, climb, chain, zero_of, tied, tie, part_chain, last_of, part_head, joined, earth_by, earth_of, is_none, return_by, zero_chain, sumΩ, sumℕ, term0, Z1, Z2, Z0, turn_of, common, shared1, shared2, shared0}
use Rattle.paper.specs.Rows.{test, Row, row, rows_at, first}
use Rattle.paper.specs.Refusal.{the_record, no_part, head_ranges, feeder_wrong, kind_wrong, impedance_wrong, z1_forgotten, sum_wrong, board_tests, in_order, board_rows, boards_rows, answer_size}
use Rattle.paper.specs.Fault.{num_of, seq, short_of, D, currents, lift_of}
use Rattle.paper.specs.Phase.{Asked, only_if, voltage_of, the_short, the_d, the_i, lift, voltage, current, phases, fault_currents, board_voltages, record_currents}
use Rattle.paper.specs.Amps.{said, said_square, amps_over, amps_under, amps}
use Rattle.paper.specs.Answer.{flat, of_board, of_boards, numbers, after, accepted, answer}
use Rattle.paper.specs.Return.{return_of, return_at}
use Rattle.paper.specs.Write.{room_rows, write_rows, write_answer, write_verdict}
use Rattle.follows.specs.Capitals.{board_in_capitals}
use Rattle.follows.proofs.Case.{formed_capitals, spaces_capitals, same_upper}

abbrev pub uppers : Boards → Boards
uppers bs = map board_in_capitals bs

-- boards that differ in the case of their labels and feeders alone
abbrev pub Alike : Boards → Boards → Type 0
Alike bs bs' = uppers bs ≡ uppers bs'

-- what can be told in capitals is the same of all that are the same in capitals
pub by_capitals : {A B X : Type 0} (up : A → B) {g : A → X} (h : B → X) → ((a : A) → g a ≡ h (up a)) → (a a' : A) → up a ≡ up a' → g a ≡ g a'
by_capitals up h e a a' p = e a ∙ ap h p ∙ sym (e a')

-- ---- its place, its kind's rules and its terms
pub look_upper : (r : ℕ) (l : Label) (bs : Boards) → look_from r l bs ≡ look_from r (capitals l) (uppers bs)
unfolding look_from
look_upper r l [] = refl
look_upper r l (b ∷ bs) = λ i. cond (same_upper l b.label i) r (look_upper (suc r) l bs i)

holds_upper : (m : Rule) (b : Board) → holds m b ≡ holds m (board_in_capitals b)
unfolding holds
holds_upper z1≠0 b = refl
holds_upper z2≠0 b = refl
holds_upper z1=z2 b = refl
holds_upper z0=0 b = refl
holds_upper zn=0 b = refl

rules_upper : (ms : List Rule) (b : Board) → all_hold ms b ≡ all_hold ms (board_in_capitals b)
unfolding all_hold
rules_upper [] b = refl
rules_upper (m ∷ ms) b = λ i. holds_upper m b i && rules_upper ms b i

term_upper : (t : Term) (b : Board) → term t b ≡ term t (board_in_capitals b)
unfolding term
term_upper z0_alone b = refl
term_upper z0+3zn b = refl

zero_upper : (z : Zero) (b : Board) → zero_term z b ≡ zero_term z (board_in_capitals b)
unfolding zero_term
zero_upper (starts t) b = term_upper t b
zero_upper (goes_on t) b = term_upper t b
zero_upper Zero.none b = refl

take_map : {A B : Type 0} (f : A → B) (n : ℕ) (l : List A) → map f (take n l) ≡ take n (map f l)
take_map f zero l = refl
take_map f (suc n) [] = refl
take_map f (suc n) (x ∷ l) = ap (λ m. f x ∷ m) (take_map f n l)

-- ---- chains, parts and sums
module _ (bs : Boards) where
  abbrev us : Boards
  us = uppers bs

  pub count : length bs ≡ length us
  count = sym (length-map bs board_in_capitals)

  at : (r : ℕ) → board_in_capitals (board bs r) ≡ board us r
  at r = sym (get_or-map board_in_capitals bs (r - 1) no_board)

  feeders : feeder_of bs ≡ feeder_of us
  unfolding feeder_of
  feeders = fun_ext (λ r. look_upper 1 (board bs r).feeder (take (r - 1) bs) ∙ (λ i. place_of (at r i).feeder (take_map board_in_capitals (r - 1) bs i)))

  zeros : zero_of bs ≡ zero_of us
  zeros = λ i r. (kind_of (at r i).kind).zero_seq

  chains : chain bs ≡ chain us
  unfolding chain
  chains = λ i r. climb r (feeders i) r

  parts : part_chain bs ≡ part_chain us
  unfolding part_chain tie
  parts = λ i r. climb r (λ q. tied (zeros i q) (feeders i q)) r

  heads : part_head bs ≡ part_head us
  unfolding part_head
  heads = λ i r. last_of (parts i r)

  earths : earth_of bs ≡ earth_of us
  unfolding earth_of
  earths = fun_ext go
    where
      go : (r : ℕ) → earth_of bs r ≡ earth_of us r
      go zero = refl
      go (suc q) = λ i. earth_by (zeros i (heads i (suc q)))

  -- (02, R-4)
  pub earth_upper : (k : ℕ) → return_at bs k ≡ return_at us k
  unfolding return_at
  earth_upper k = λ i. return_of (earths i k) (heads i k)

  zero_chains : zero_chain bs ≡ zero_chain us
  unfolding zero_chain
  zero_chains = λ i r. return_by (earths i r) (parts i r)

  terms0 : term0 bs ≡ term0 us
  terms0 = fun_ext (λ q. zero_upper (zero_of bs q) (board bs q) ∙ (λ i. zero_term (kind_of (at q i).kind).zero_seq (at q i)))

  -- the sum of a field over some records
  abbrev sums : (Board → Ohms) → (i : 𝕀) → List ℕ → Ohms
  sums field i l = sumΩ (λ q. field (at q i)) l

  turns : turn_of bs ≡ turn_of us
  unfolding turn_of
  turns = λ i r. sumℕ (λ q. (at q i).clock) (chains i r)

  sum_upper : (r : ℕ) → sum_wrong bs r ≡ sum_wrong us r
  unfolding sum_wrong Z1 Z2
  sum_upper r = λ i.
      part_over 4095 (sums (λ b. b.z1) i (chains i r)) || part_over 4095 (sums (λ b. b.z2) i (chains i r))
      || (is_start (zeros i (heads i r)) && part_over 4095 (sumΩ (terms0 i) (parts i r)))

-- ---- the tests of a board behind others
behind : (before : Boards) (b : Board) → uppers (before ++ (b ∷ [])) ≡ uppers before ++ (board_in_capitals b ∷ [])
behind before b = map-append board_in_capitals before (b ∷ [])

feeder_upper : (before : Boards) (b : Board) → feeder_wrong before b ≡ feeder_wrong (uppers before) (board_in_capitals b)
unfolding feeder_wrong
feeder_upper [] b = λ i. not (spaces_capitals b.feeder i)
feeder_upper (e ∷ es) b = λ i. eqb (look_upper 1 b.feeder (e ∷ es) i) 0

impedance_upper : (b : Board) → impedance_wrong b ≡ impedance_wrong (board_in_capitals b)
unfolding impedance_wrong
impedance_upper b = λ i. part_over 4095 b.z1 || part_over 4095 b.z2 || part_over 4095 b.z0 || part_over 4095 b.zn || not (rules_upper (kind_of b.kind).rules b i)

pub tests_upper : (before : Boards) (b : Board) → board_tests before b ≡ board_tests (uppers before) (board_in_capitals b)
unfolding board_tests kind_wrong z1_forgotten
tests_upper before b =
    let sums = sum_upper (before ++ (b ∷ [])) (suc (length before)) ∙ (λ i. sum_wrong (behind before b i) (suc (count before i))) in
    λ i.
    test 6 (not (formed_capitals b.label i))
    ∷ test 7 (not (eqb (look_upper 1 b.label before i) 0))
    ∷ test 8 (feeder_upper before b i)
    ∷ test 9 (kind_wrong (suc (count before i)) b)
    ∷ test 10 (impedance_upper b i)
    ∷ test 21 (z1_forgotten b)
    ∷ test 11 (sums i)
    ∷ []

-- ---- records or boards in their order, and what they are in capitals
module _ {A B : Type 0} (board : A → Board) (rows : Boards → A → List Row) (board' : B → Board) (rows' : Boards → B → List Row) (up : A → B) where
  pub order_upper : ((a : A) → board_in_capitals (board a) ≡ board' (up a)) → ((before : Boards) (a : A) → rows before a ≡ rows' (uppers before) (up a))
      → (before : Boards) (all : List A)
      → in_order board rows before all ≡ in_order board' rows' (uppers before) (map up all)
  unfolding in_order
  order_upper same agreed before [] = refl
  order_upper same agreed before (a ∷ rest) =
      let next = behind before (board a) ∙ (λ i. uppers before ++ (same a i ∷ [])) in
      let later = order_upper same agreed (before ++ (board a ∷ [])) rest ∙ ap (λ bs. in_order board' rows' bs (map up rest)) next in
      λ i. agreed before a i ++ later i

boards_upper : (bs : Boards) → boards_rows [] bs ≡ boards_rows [] (uppers bs)
unfolding board_rows
boards_upper = order_upper (λ b. b) board_rows (λ b. b) board_rows board_in_capitals (λ b. refl) (λ before b i. rows_at (suc (count before i)) no_part (tests_upper before b i)) []

-- ---- 02, R-1: what writing returns does not depend on case
pub write_upper : (volts unit room : ℕ) (bs : Boards) → write_verdict volts unit bs room ≡ write_verdict volts unit (uppers bs) room
unfolding write_verdict write_rows
write_upper volts unit room bs = λ i.
    let n = count bs i in
    write_answer (first (row 3 (not (head_ranges (record { volts = volts; unit = unit; boards = n }))) 0 no_part ∷ (boards_upper bs i ++ room_rows n room))) n

-- ---- a question in capitals: its numbers and its answer
abbrev pub upper_fault : Fault → Fault
upper_fault f = record { zf = f.zf; label = capitals f.label; kind = f.kind; phase = f.phase }

abbrev pub upper_asked : Asked → Asked
upper_asked q = record { head = q.head; boards = uppers q.boards; fault = upper_fault q.fault; k = q.k }

module _ (q : Asked) where
  open q use {boards, fault, k}

  abbrev up : Asked
  up = upper_asked q

  -- the sums of a field over board k's chain, and over what it shares with board j's
  abbrev own : (Board → Ohms) → (i : 𝕀) → Ohms
  own field i = sums boards field i (chains boards i k)

  abbrev shared : (Board → Ohms) → ℕ → (i : 𝕀) → Ohms
  shared field j i = sums boards field i (common (chains boards i j) (chains boards i k))

  short_upper : the_short q ≡ the_short up
  unfolding the_short Z1 Z2 Z0
  short_upper = λ i.
      short_of (num_of (own (λ b. b.z1) i)) (num_of (own (λ b. b.z2) i)) (num_of (sumΩ (terms0 boards i) (zero_chains boards i k))) (num_of fault.zf)
      (is_none (earths boards i k)) fault.kind

  pub D_upper : the_d q ≡ the_d up
  unfolding the_d
  D_upper = ap D short_upper

  I_upper : the_i q ≡ the_i up
  unfolding the_i
  I_upper = ap currents short_upper

  lift_upper : lift q ≡ lift up
  unfolding lift Z1
  lift_upper = λ i. only_if (is_none (earths boards i k)) (lift_of fault.kind (whole_n (D_upper i) -N num_of (own (λ b. b.z1) i) *N (I_upper i).s1))

  voltage_upper : (j : ℕ) → voltage q j ≡ voltage up j
  unfolding voltage joined shared1 shared2 shared0
  voltage_upper j = λ i.
      voltage_of (D_upper i) (I_upper i) (shared (λ b. b.z1) j i) (shared (λ b. b.z2) j i)
      (sumΩ (terms0 boards i) (common (zero_chains boards i j) (zero_chains boards i k)))
      (only_if (eqb (heads boards i j) (heads boards i k)) (lift_upper i))

  current_upper : (j : ℕ) → current q j ≡ current up j
  unfolding current
  current_upper j = λ i.
      let on = one_of j (chains boards i k) in
      seq (only_if on (I_upper i).s1) (only_if on (I_upper i).s2) (only_if (one_of j (zero_chains boards i k)) (I_upper i).s0)

  -- three phases at board j
  abbrev three : ℕ → Seq → (i : 𝕀) → List (List ℤ)
  three j X i = phases fault.phase (turns boards i j) (turns boards i k) X

  pub voltages_upper : (j : ℕ) → board_voltages q j ≡ board_voltages up j
  unfolding board_voltages
  voltages_upper j = λ i. three j (voltage_upper j i) i

  pub currents_upper : (j : ℕ) → record_currents q j ≡ record_currents up j
  unfolding record_currents
  currents_upper j = λ i. three j (current_upper j i) i

  pub fault_upper : fault_currents q ≡ fault_currents up
  unfolding fault_currents
  fault_upper = λ i. phases fault.phase 0 0 (I_upper i)

  board_upper : (j : ℕ) → of_board q j ≡ of_board up j
  unfolding of_board
  board_upper j = λ i. flat (voltages_upper j i) ++ flat (currents_upper j i)

  all_upper : (r n : ℕ) → of_boards q r n ≡ of_boards up r n
  unfolding of_boards
  all_upper r zero = refl
  all_upper r (suc n) = λ i. board_upper r i ++ all_upper (suc r) n i

  numbers_upper : numbers q ≡ numbers up
  unfolding numbers
  numbers_upper =
      let all = all_upper 1 (length boards) ∙ ap (of_boards up 1) (count boards) in
      λ i. D_upper i ∷ (flat (fault_upper i) ++ all i)

  pub amps_upper : amps q ≡ amps up
  unfolding amps amps_over amps_under said_square said
  amps_upper = rw (I_upper, D_upper)

  pub answer_upper : (r : Option Refusal) → answer r q ≡ answer r up
  unfolding answer accepted
  answer_upper none = λ i. record { amps = amps_upper i; part = the_record k; place = k; n = count boards i; number = 0 }
  answer_upper (some r) = refl

  pub after_upper : (r : Option Refusal) (buffer : List ℤ) → after r q buffer ≡ after r up buffer
  unfolding after
  after_upper none buffer = λ i. numbers_upper i ++ drop (answer_size (count boards i)) buffer
  after_upper (some r) buffer = refl
