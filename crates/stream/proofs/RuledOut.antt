-- What each contract of this crate rules out: a call that it allows, and an answer that it does not. Assumes nothing.
use mathlib.Core.List.{List, [], ◌∷◌, ◌++◌}
use mathlib.Core.Path.{refl}
use Prim.Native.Nat.{ℕ, ◌-◌}
use native.Mathlib.Omega.{arith}
use lib.IntN.{ℤ, pos}
use lib.ListN.{length, get_or, replicate}
use base.Fml.{Lft}
use Rattle.std.specs.Prelude.{Result, Ok, Err}
use denote.Ref.{Bor}
use Rattle.lemmas.proofs.RuledOut.{◌↛◌, RuledOut, ever, ends, by, by_equation, list, wholes, lent, lent_out}
use Rattle.lemmas.specs.Table.{tab}
use Rattle.lemmas.specs.Little.{little}
use Rattle.decimal.specs.Word.{word_of}
use Rattle.decimal.proofs.Told.{pen, leaves, by_room}
use Rattle.paper.specs.declared.Lent.TheVariants.{FaultBytes, LabelBytes}
use Rattle.paper.specs.declared.Board.{Board}
use Rattle.paper.specs.declared.Answer.{Answer}
use Rattle.paper.specs.declared.Written.{Written}
use Rattle.paper.specs.declared.EarthReturn.{EarthReturn}
use Rattle.paper.specs.declared.Refusal.{Refusal}
use Rattle.paper.specs.declared.EarthReturn.TheVariants.{From, Stopped}
use Rattle.paper.specs.Return.{said}
use Rattle.paper.specs.Bytes.{part, bytes_open}
use Rattle.paper.specs.File.{board_of, records, decoded, file_open}
use Rattle.node.specs.Tables.{empty_board}
use Rattle.stream.specs.declared.case.Case.{Case}
use Rattle.stream.specs.Case.{case_of, marks, byte_marks}
use Rattle.stream.specs.Layout.{three_of, whose_of, part_of, found_of, head_of, elements_of, bytes_of, written_of}
use Rattle.stream.specs.Said.{shown_of, said_of}
use Rattle.stream.proofs.solved.put_answer.Reads as put-answer
use Rattle.stream.proofs.written.put_written.Reads as put_written_call
use Rattle.stream.proofs.said.put_said.Reads as put-said
use Rattle.stream.proofs.case.case_of.Reads as case-of
use Rattle.stream.proofs.case.boards_of.Reads as boards-of
use Rattle.stream.proofs.case.mark.Reads as mark
use Rattle.stream.proofs.case.mark_bytes.Reads as mark-bytes

-- small numbers, each of four bytes
abbrev fours : List ℕ → List ℕ
fours [] = []
fours (n ∷ ns) = n ∷ 0 ∷ 0 ∷ 0 ∷ fours ns

abbrev case : ℕ → ℕ → ℕ → ℕ → Case
case e r m n = record { entry = e; room = r; first = m; second = n }

abbrev answer : Answer
answer = record { amps = 4; part = part FaultBytes 5 4; place = 2; n = 3; number = 1 }

-- the four bytes that it shows
abbrev shown : Bor (List ℕ)
shown = lent (fours (9 ∷ []))

abbrev numbers : ℕ → ℕ → List ℤ
numbers m n = pos m ∷ pos n ∷ []

-- of a file of one byte in an output of two
abbrev written : Written
written = record { part = part FaultBytes 5 4; len = 1; place = 2; number = 9 }

abbrev output : Bor (List ℕ)
output = lent (7 ∷ 8 ∷ [])

-- 14 for a label of four bytes
abbrev unknown : Result EarthReturn Refusal
unknown = Err (record { part = part LabelBytes 0 4; place = 0; number = 14 })

-- two boards, and tables told apart by what their first two say of kind and clock
abbrev bytes : ℕ → ℕ → List ℕ
bytes i n = tab (λ k. k) i n

abbrev two_boards : List ℕ
two_boards = bytes 0 44 ++ bytes 100 44

abbrev table : List Board → List Board
table bs = bs ++ replicate (372 - length bs) empty_board

abbrev kinds : List Board → ℕ
kinds t = let a = get_or t 0 empty_board in let b = get_or t 1 empty_board in list (a.kind ∷ a.clock ∷ b.kind ∷ b.clock ∷ [])

module _ (κ : Lft) where
  pub case_of_not : RuledOut (case-of.Pre (κ, tt)) (ever (case-of.Post (κ, tt))) (
      (lent (fours (1 ∷ 2 ∷ 3 ∷ 4 ∷ [])), tt) ↛ case 2 1 3 4  -- room_before_the_entry
      ∷ (lent (fours (1 ∷ 2 ∷ 3 ∷ 4 ∷ [])), tt) ↛ case 1 3 3 4  -- room_for_the_first
      ∷ (lent (fours (1 ∷ 2 ∷ 3 ∷ 4 ∷ [])), tt) ↛ case 1 2 3 3  -- second_as_long_as_the_first
      ∷ (lent (fours (1 ∷ 2 ∷ 3 ∷ 4 ∷ [])), tt) ↛ case 0x10000 0x20000 0x30000 0x40000  -- case_big_endian
      ∷ [])
  case_of_not = by_equation (λ a. case_of a.0.now) (λ c. list (c.entry ∷ c.room ∷ c.first ∷ c.second ∷ [])) (λ a z e s. s) (refl, (refl, (refl, (refl, tt)))) tt

  pub boards_of_not : RuledOut (boards-of.Pre (κ, tt)) (ever (boards-of.Post (κ, tt))) (
      (lent two_boards, (2, tt)) ↛ table (board_of (bytes 0 44) ∷ board_of (bytes 0 44) ∷ [])  -- first_board_twice
      ∷ (lent two_boards, (2, tt)) ↛ table (board_of (bytes 0 44) ∷ [])  -- last_board_left_out
      ∷ (lent two_boards, (2, tt)) ↛ table (board_of (bytes 2 44) ∷ board_of (bytes 102 44) ∷ [])  -- marks_left_out
      ∷ [])
  unfolding file_open bytes_open
  boards_of_not =
      by_equation (λ a. decoded (records a.1.0 a.0.now) ++ replicate (372 - a.1.0) empty_board) kinds (λ a z e s. s)
      ((refl, omega arith), ((refl, omega arith), ((refl, omega arith), tt))) tt

  pub mark_not : RuledOut (mark.Pre (κ, tt)) (ends (mark.Post (κ, tt))) (
      (lent_out (numbers 7 7), tt) ↛ (tt, (lent_out (numbers 0 1000003), tt))  -- marks_from_0
      ∷ (lent_out (numbers 7 7), tt) ↛ (tt, (lent_out (numbers 2000006 3000009), tt))  -- first_element_unmarked
      ∷ [])
  unfolding marks
  mark_not = by (λ z. wholes z.1.0.now) (λ a. wholes (marks (length a.0.now))) (λ a z s i. wholes (s i)) (omega arith, (omega arith, tt)) tt

  pub mark_bytes_not : RuledOut (mark-bytes.Pre (κ, tt)) (ends (mark-bytes.Post (κ, tt))) (
      (lent_out (9 ∷ 9 ∷ []), tt) ↛ (tt, (lent_out (10 ∷ 17 ∷ []), tt))  -- byte_marks_from_1
      ∷ (lent_out (9 ∷ 9 ∷ []), tt) ↛ (tt, (lent_out (3 ∷ 9 ∷ []), tt))  -- last_byte_unmarked
      ∷ (lent_out (9 ∷ 9 ∷ []), tt) ↛ (tt, (lent_out (3 ∷ 3 ∷ []), tt))  -- all_bytes_alike
      ∷ [])
  unfolding byte_marks
  mark_bytes_not = by (λ z. list z.1.0.now) (λ a. list (byte_marks (length a.0.now))) (λ a z s i. list (s i)) (tt, (tt, (tt, tt))) tt

module _ (κ κ₀ κ' : Lft) where
  pub put_written_not : RuledOut (put_written_call.Pre (κ, (κ₀, (κ', tt)))) (leaves (put_written_call.Post (κ, (κ₀, (κ', tt))))) (
      (pen 30 0, (written, (output, tt))) ↛ (30, fours (2 ∷ 9 ∷ 1 ∷ 2 ∷ 5 ∷ 4 ∷ 2 ∷ []) ++ (7 ∷ 8 ∷ []))  -- place_for_number_written
      ∷ (pen 30 0, (written, (output, tt))) ↛ (30, fours (9 ∷ 2 ∷ 2 ∷ 2 ∷ 5 ∷ 4 ∷ 2 ∷ []) ++ (7 ∷ 8 ∷ []))  -- room_for_the_file
      ∷ (pen 30 0, (written, (output, tt))) ↛ (29, fours (9 ∷ 2 ∷ 1 ∷ 2 ∷ 5 ∷ 4 ∷ 1 ∷ []) ++ (7 ∷ 46 ∷ []))  -- file_alone
      ∷ (pen 30 0, (written, (output, tt))) ↛ (26, fours (9 ∷ 2 ∷ 1 ∷ 2 ∷ 5 ∷ 4 ∷ []) ++ (7 ∷ 8 ∷ replicate 4 46))  -- room_left_out
      ∷ [])
  unfolding written_of part_of whose_of three_of little
  put_written_not = by_room (λ b. written_of b.0 b.1.0.now) tt tt

  pub put_said_not : RuledOut (put-said.Pre (κ, (κ₀, (κ', tt)))) (leaves (put-said.Post (κ, (κ₀, (κ', tt))))) (
      (pen 24 0, (Ok (From 3), (lent [], tt))) ↛ (24, fours (0 ∷ 3 ∷ 0 ∷ 0 ∷ 0 ∷ 0 ∷ []))  -- from_is_stopped
      ∷ (pen 24 0, (Ok (Stopped 3), (lent [], tt))) ↛ (24, fours (0 ∷ 3 ∷ 1 ∷ 0 ∷ 0 ∷ 0 ∷ []))  -- stopped_is_from
      ∷ (pen 24 0, (Ok (Stopped 3), (lent [], tt))) ↛ (24, fours (0 ∷ 3 ∷ 0 ∷ 1 ∷ 0 ∷ 0 ∷ []))  -- nothing_of_the_network
      ∷ (pen 28 0, (unknown, (shown, tt))) ↛ (28, fours (14 ∷ 0 ∷ 0 ∷ 2 ∷ 0 ∷ 4 ∷ 9 ∷ []))  -- label_shown_as_a_fault
      ∷ (pen 28 0, (unknown, (shown, tt))) ↛ (28, fours (14 ∷ 0 ∷ 1 ∷ 3 ∷ 0 ∷ 4 ∷ 9 ∷ []))  -- refused_with_a_return
      ∷ (pen 28 0, (unknown, (shown, tt))) ↛ (24, fours (14 ∷ 0 ∷ 0 ∷ 3 ∷ 0 ∷ 4 ∷ []) ++ replicate 4 46)  -- label_left_out
      ∷ [])
  unfolding said said_of shown_of part_of whose_of three_of little
  put_said_not = by_room (λ b. said_of (said b.0) b.1.0.now) tt tt

module _ (κ κ₀ κ' κ'' : Lft) where
  pub put_answer_not : RuledOut (put-answer.Pre (κ, (κ₀, (κ', (κ'', tt))))) (leaves (put-answer.Post (κ, (κ₀, (κ', (κ'', tt)))))) (
      (pen 56 0, (answer, (shown, (lent (numbers 7 8), tt)))) ↛ (56, fours (2 ∷ 2 ∷ 3 ∷ 4 ∷ 0 ∷ 2 ∷ 5 ∷ 4 ∷ 9 ∷ 2 ∷ 7 ∷ 0 ∷ 8 ∷ 0 ∷ []))  -- place_for_number
      ∷ (pen 56 0, (answer, (shown, (lent (numbers 7 8), tt)))) ↛ (56, fours (1 ∷ 2 ∷ 3 ∷ 4 ∷ 0 ∷ 1 ∷ 5 ∷ 4 ∷ 9 ∷ 2 ∷ 7 ∷ 0 ∷ 8 ∷ 0 ∷ []))  -- always_the_network
      ∷ (pen 56 0, (answer, (shown, (lent (numbers 7 8), tt)))) ↛ (52, fours (1 ∷ 2 ∷ 3 ∷ 4 ∷ 0 ∷ 2 ∷ 5 ∷ 4 ∷ 2 ∷ 7 ∷ 0 ∷ 8 ∷ 0 ∷ []) ++ replicate 4 46)  -- part_left_out
      ∷ (pen 56 0, (answer, (shown, (lent (numbers 7 8), tt)))) ↛ (56, fours (1 ∷ 2 ∷ 3 ∷ 4 ∷ 0 ∷ 2 ∷ 5 ∷ 4 ∷ 2 ∷ 7 ∷ 0 ∷ 8 ∷ 0 ∷ 9 ∷ []))  -- part_behind_the_elements
      ∷ (pen 56 0, (answer, (shown, (lent (numbers 7 8), tt)))) ↛ (48, fours (1 ∷ 2 ∷ 3 ∷ 4 ∷ 0 ∷ 2 ∷ 5 ∷ 4 ∷ 9 ∷ 2 ∷ 8 ∷ 0 ∷ []) ++ replicate 8 46)  -- elements_on_top
      ∷ [])
  unfolding bytes_of head_of found_of part_of whose_of three_of elements_of little word_of
  put_answer_not = by_room (λ b. bytes_of b.0 b.1.0.now b.1.1.0.now) tt tt
