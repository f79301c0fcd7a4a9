-- 02, R-6: the statements of specs/ (`Forgotten`), proved of all three entry points. Assumes nothing.
--     1 got, got_file       no board is forgotten: answer and buffer are those by the table without the row 21
--     2 named, named_file   the first that is stands at place r: 21 there, or a rule that the table has before it
use mathlib.Core.Bool.{Bool, true, false, cond}
use mathlib.Core.List.{List, [], ◌∷◌, ◌++◌, map, map-id, append_assoc}
use mathlib.Core.Option.{Option, none, some}
use mathlib.Core.Path.{◌≡◌, refl, sym, ◌∙◌, ap, subst}
use Prim.Native.Nat.{ℕ, zero, suc, ◌+◌, ◌≤◌, ◌<◌}
use native.Mathlib.Numerals.{unary_clauses}
use native.Mathlib.Omega.{arith}
use lib.Dec.{T, lit≤}
use lib.ListN.{length, get_or, take, drop, length-append}
use Rattle.paper.specs.declared.Part.{Part}
use Rattle.paper.specs.declared.Board.{Board}
use Rattle.paper.specs.declared.Refusal.{Refusal}
use Rattle.paper.specs.Label.{Label}
use Rattle.paper.specs.Rows.{Row, row, rows_at, first}
use Rattle.paper.specs.File.{board_of, records_of, decoded, boards_of}
use Rattle.paper.specs.Chain.{Boards, no_board, board, place_of}
use Rattle.paper.specs.Refusal.{the_record, no_part, head_rows, z1_forgotten, board_tests, record_rows, in_order, records_rows, board_rows, boards_rows, network_rows, fault_rows, solve_rows, refusal}
use Rattle.paper.specs.Phase.{asked}
use Rattle.paper.specs.Answer.{after, written, answer, verdict, paper}
use Rattle.paper.specs.Return.{label_rows, earth_rows, return_at, refused_or, earth_said}
use Rattle.paper.specs.Write.{room_rows, file_of, write_rows, write_refusal, write_answer, write_verdict, fills, write_leaves}
use Rattle.paper.proofs.Typed.{ft, typed_open}
use Rattle.paper.proofs.Figures.{j, records}
use Rattle.paper.proofs.ForgottenFigures.{forgetful, overgrown}
use Rattle.follows.specs.Forgotten.{NoneForgotten, FirstForgotten, without, rows_before, up_to21, Got, GotFile, Named, NamedFile}
use Rattle.follows.proofs.Rows.{each_behind}
use Rattle.follows.proofs.Without.{Silent, Quiet, others, quiet_others, without_same, named_by, Found, found_behind, found_before}

-- ---- the place of the first forgotten board, the first of them having place r; 0 if there is none
unfoldable forgotten_from : ℕ → Boards → ℕ
forgotten_from r [] = 0
forgotten_from r (b ∷ bs) = let later = forgotten_from (suc r) bs in cond (z1_forgotten b) r later

-- it is at or behind the place that the count starts with
not_before : (k r : ℕ) (bs : Boards) → 1 ≤ r → r < k → r ≡ forgotten_from k bs → ⊥
unfolding forgotten_from
not_before k r [] h l e = omega arith
not_before k r (b ∷ bs) h l e = go (not_before (suc k) r bs h (omega arith)) (z1_forgotten b) e
  where
    go : (r ≡ forgotten_from (suc k) bs → ⊥) → (c : Bool) → r ≡ cond c k (forgotten_from (suc k) bs) → ⊥
    go later true e = omega arith
    go later false e = later e

none_from : (k : ℕ) (bs : Boards) → ((q : ℕ) → q < length bs → z1_forgotten (get_or bs q no_board) ≡ false) → forgotten_from k bs ≡ 0
unfolding forgotten_from
none_from k [] h = refl
none_from k (b ∷ bs) h = rw (h 0 (omega arith)) (none_from (suc k) bs (λ q l. h (suc q) (omega arith)))

first_from : (k : ℕ) (bs : Boards) (r : ℕ) → r < length bs → z1_forgotten (get_or bs r no_board) ≡ true → ((q : ℕ) → q < r → z1_forgotten (get_or bs q no_board) ≡ false) → forgotten_from k bs ≡ k + r
unfolding forgotten_from
first_from k [] r l t h = absurd (omega arith)
first_from k (b ∷ bs) zero l t h = rw t (omega arith)
first_from k (b ∷ bs) (suc r) l t h = rw (h 0 (omega arith)) (first_from (suc k) bs r (omega arith) t (λ q m. h (suc q) (omega arith)) ∙ omega arith)

abbrev first_place : Boards → ℕ
first_place = forgotten_from 1

none_place : (bs : Boards) → NoneForgotten bs → first_place bs ≡ 0
none_place bs h = none_from 1 bs (λ q l. simp unary_clauses at (h (suc q) (omega arith) (omega arith)))

first_place_lem : (bs : Boards) (r : ℕ) → FirstForgotten bs (suc r) → first_place bs ≡ suc r
first_place_lem bs r f = first_from 1 bs r (omega (arith, f.to)) (simp unary_clauses at f.forgotten) (λ q l. simp unary_clauses at (f.earlier (suc q) (omega arith) (omega arith))) ∙ omega arith

-- ---- boards in their order, whoever judges them: k rows are asked before 21, and others behind it
module _ {A : Type 0} (board : A → Board) (rows : Boards → A → List Row) (part : ℕ → Part) (k : ℕ) where
  abbrev with21 : Boards → A → Bool → List Row
  with21 before a broken = let r = suc (length before) in take k (rows before a) ++ (row 21 broken r (part r) ∷ drop (suc k) (rows before a))

  record Has21 (before : Boards) (a : A) : Type 0 where
    is : rows before a ≡ with21 before a (z1_forgotten (board a))
    before_others : T (others 21 (take k (rows before a)))
    behind_others : T (others 21 (drop (suc k) (rows before a)))

  in_order_lem : ((before : Boards) (a : A) → Has21 before a) → (before : Boards) (all : List A) → Found 21 part (forgotten_from (suc (length before)) (map board all)) (in_order board rows before all)
  unfolding in_order forgotten_from
  in_order_lem has before [] = tt
  in_order_lem has before (a ∷ rest) =
      let count : length (before ++ (board a ∷ [])) ≡ suc (length before) = omega (arith, length-append before (board a ∷ [])) in
      let found = subst (λ (m : ℕ). Found 21 part (forgotten_from (suc m) (map board rest)) later) count (in_order_lem has (before ++ (board a ∷ [])) rest) in
      subst (λ (l : List Row). Found 21 part (cond (z1_forgotten (board a)) r next) (l ++ later)) (sym (has before a).is) (go found (z1_forgotten (board a)))
    where
      r : ℕ
      r = suc (length before)

      next : ℕ
      next = forgotten_from (suc r) (map board rest)

      later : List Row
      later = in_order board rows (before ++ (board a ∷ [])) rest

      own : (q : ℕ) → Quiet 21 q (take k (rows before a))
      own q = quiet_others 21 q (take k (rows before a)) (has before a).before_others

      go : Found 21 part next later → (c : Bool) → Found 21 part (cond c r next) (with21 before a c ++ later)
      go found true = record { earlier = take k (rows before a); later = drop (suc k) (rows before a) ++ later; is = append_assoc (take k (rows before a)) _ later; quiet = own r }
      go found false =
          found_behind 21 part next (with21 before a false) later
          (each_behind (Silent 21 next) (take k (rows before a)) _ (own next)
          ((λ _. (refl, not_before (suc r) r (map board rest) (omega arith) (omega arith))), quiet_others 21 next (drop (suc k) (rows before a)) (has before a).behind_others))
          found

-- ---- the reader's records and the writer's boards
decoded_map : (recs : List (List ℕ)) → map board_of recs ≡ decoded recs
unfolding decoded
decoded_map [] = refl
decoded_map (s ∷ recs) = ap (λ (bs : Boards). board_of s ∷ bs) (decoded_map recs)

records_found : (recs : List (List ℕ)) → Found 21 the_record (first_place (decoded recs)) (records_rows [] recs)
unfolding record_rows rows_at board_tests
records_found recs =
    subst (λ (bs : Boards). Found 21 the_record (first_place bs) (records_rows [] recs)) (decoded_map recs)
    (in_order_lem board_of record_rows the_record 6 (λ before s. record { is = refl; before_others = tt; behind_others = tt }) [] recs)

boards_found : (bs : Boards) → Found 21 (λ r. no_part) (first_place bs) (boards_rows [] bs)
unfolding board_rows rows_at board_tests
boards_found bs =
    subst (λ (all : Boards). Found 21 (λ r. no_part) (first_place all) (boards_rows [] bs)) (map-id bs)
    (in_order_lem (λ b. b) board_rows (λ r. no_part) 5 (λ before b. record { is = refl; before_others = tt; behind_others = tt }) [] bs)

-- ---- the three tables
module _ (net : List ℕ) where
  abbrev r : ℕ
  r = first_place (boards_of net)

  network_found : Found 21 the_record r (network_rows net)
  unfolding network_rows head_rows boards_of
  network_found = found_behind 21 the_record r (head_rows net) _ (quiet_others 21 r (head_rows net) tt) (records_found (records_of net))

  solve_found : (flt : List ℕ) (room : ℕ) → Found 21 the_record r (solve_rows net flt room)
  unfolding solve_rows fault_rows
  solve_found flt room = found_before 21 the_record r (network_rows net) _ network_found (quiet_others 21 0 (fault_rows (boards_of net) flt room) tt)

  earth_found : (l : Label) → Found 21 the_record r (earth_rows net l)
  unfolding earth_rows label_rows
  earth_found l = found_before 21 the_record r (network_rows net) _ network_found (quiet_others 21 0 (label_rows (boards_of net) l) tt)

write_found : (volts unit : ℕ) (bs : Boards) (room : ℕ) → Found 21 (λ r. no_part) (first_place bs) (write_rows volts unit bs room)
unfolding write_rows
write_found volts unit bs room =
    found_behind 21 (λ r. no_part) (first_place bs) (row 3 _ 0 no_part ∷ []) _ (quiet_others 21 (first_place bs) (row 3 _ 0 no_part ∷ []) tt)
    (found_before 21 (λ r. no_part) (first_place bs) (boards_rows [] bs) _ (boards_found bs) (quiet_others 21 0 (room_rows (length bs) room) tt))

-- ---- 1
without_21 : (part : ℕ → Part) (q : ℕ) (rows : List Row) → Found 21 part q rows → q ≡ 0 → first rows ≡ first (without 21 rows)
without_21 part q rows f e = sym (without_same 21 0 rows (subst (λ (k : ℕ). Found 21 part k rows) e f))

pub got : (net : List ℕ) → NoneForgotten (boards_of net) → Got net
unfolding verdict written earth_said
got net h =
    record {
      got_verdict = λ flt room. ap (λ (o : Option Refusal). answer o (asked net flt)) (solved flt room);
      got_written = λ flt buffer. ap (λ (o : Option Refusal). after o (asked net flt) buffer) (solved flt (length buffer));
      got_earth = λ l.
          ap (λ (o : Option Refusal). refused_or o (return_at (boards_of net) (place_of l (boards_of net))))
          (without_21 the_record (first_place (boards_of net)) (earth_rows net l) (earth_found net l) (none_place (boards_of net) h));
    }
  where
    solved : (flt : List ℕ) (room : ℕ) → refusal net flt room ≡ first (without 21 (solve_rows net flt room))
    solved flt room = without_21 the_record (first_place (boards_of net)) (solve_rows net flt room) (solve_found net flt room) (none_place (boards_of net) h)

pub got_file : (volts unit : ℕ) (bs : Boards) → NoneForgotten bs → GotFile volts unit bs
unfolding write_verdict write_leaves
got_file volts unit bs h =
    record {
      got_write = λ room. ap (λ (o : Option Refusal). write_answer o (length bs)) (written_by room);
      got_leaves = λ out. ap (λ (o : Option Refusal). fills o (file_of volts unit bs) out) (written_by (length out));
    }
  where
    written_by : (room : ℕ) → write_refusal volts unit bs room ≡ first (without 21 (write_rows volts unit bs room))
    written_by room = without_21 (λ r. no_part) (first_place bs) (write_rows volts unit bs room) (write_found volts unit bs room) (none_place bs h)

-- ---- 2
up_to_21 : (part : ℕ → Part) (bs : Boards) (rows : List Row) → Found 21 part (first_place bs) rows → (r : ℕ) → FirstForgotten bs r → first rows ≡ first (up_to21 r (part r) rows)
up_to_21 part bs rows f zero first = absurd (omega (arith, first.from))
up_to_21 part bs rows f (suc r) first = named_by 21 (subst (λ (k : ℕ). Found 21 part k rows) (first_place_lem bs r first) f)

pub named : (net : List ℕ) (r : ℕ) → FirstForgotten (boards_of net) r → Named net r
named net r h =
    record {
      named_solve = λ flt room. up_to_21 the_record (boards_of net) (solve_rows net flt room) (solve_found net flt room) r h;
      named_earth = λ l. up_to_21 the_record (boards_of net) (earth_rows net l) (earth_found net l) r h;
    }

pub named_file : (volts unit : ℕ) (bs : Boards) (r : ℕ) → FirstForgotten bs r → NamedFile volts unit bs r
named_file volts unit bs r h room = up_to_21 (λ r. no_part) bs (write_rows volts unit bs room) (write_found volts unit bs room) r h

-- ---- the row matters: 01's network with a hall without z1 was answered, and is refused; where a sum passes 4,095 besides, it was 11 and is 21 (READINGS, A-60)
pub is_first : FirstForgotten (boards_of forgetful) 3
unfolding paper typed_open records
is_first = record { from = lit≤ tt; to = lit≤ tt; forgotten = refl; earlier = earlier }
  where
    earlier : (q : ℕ) → 1 ≤ q → q < 3 → z1_forgotten (board (boards_of forgetful) q) ≡ false
    earlier zero h l = absurd (omega arith)
    earlier (suc zero) h l = refl
    earlier (suc (suc zero)) h l = refl
    earlier (suc (suc (suc q))) h l = absurd (omega arith)

pub was_answered : first (without 21 (solve_rows forgetful (ft "HALL" 1 0 (j 0)) 85)) ≡ none
unfolding paper without typed_open records
was_answered = refl

pub was_eleven : first (without 21 (solve_rows overgrown [] 0)) ≡ some (record { part = the_record 3; place = 3; number = 11 })
unfolding paper without typed_open records
was_eleven = refl

-- before it stand the head's four rows, eight of each earlier record, and six of its own; without 21, seven of an earlier one
pub stand_before : (length (rows_before 21 3 (solve_rows overgrown [] 0)) ≡ 4 + 8 + 8 + 6) × (length (up_to21 3 (the_record 3) (solve_rows overgrown [] 0)) ≡ 4 + 7 + 7 + 6 + 1)
unfolding paper without rows_before typed_open records
stand_before = (refl, refl)
