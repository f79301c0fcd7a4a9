-- What each contract of this crate rules out: a call that it allows, and an answer that it does not. The rows of `put_boards` are said of `write`, which writes its boards. Assumes nothing.
use mathlib.Core.Bool.{false, true≢false}
use mathlib.Core.List.{List, [], ◌∷◌, ◌++◌}
use mathlib.Core.Path.{◌≡◌, refl, sym, ◌∙◌}
use Prim.Native.Nat.{ℕ, min}
use lib.Dec.{T, eqb, leb, leb→le}
use lib.ListN.{length, take, replicate}
use borrow.Author.Tests.{eq-eqb}
use base.Fml.{Lft}
use denote.Bor.{Bor}
use denote.MutBor.{MutBor}
use Rattle.lemmas.proofs.RuledOut.{◌↛◌, RuledOut, ever, ends, by, by_equation, list, lent, lent_out}
use Rattle.paper.specs.declared.Board.{Board}
use Rattle.paper.specs.declared.Head.{Head}
use Rattle.paper.specs.declared.Written.{Written}
use Rattle.paper.specs.Bounds.{AtMost}
use Rattle.paper.specs.Kind.{ohms}
use Rattle.paper.specs.Refusal.{no_part}
use Rattle.paper.specs.Answer.{paper}
use Rattle.paper.specs.Write.{head_bytes, board_bytes, write_verdict, write_leaves, write_open}
use Rattle.decimal.proofs.Told.{pen, leaves, by_room}
use Rattle.paper.proofs.Typed.{head, bd, board, typed_open}
use Rattle.writer.specs.OnPage.{OnPage}
use Rattle.writer.proofs.lay.at_most_256.Reads as at_most_256
use Rattle.writer.proofs.lay.put_board.Reads as put-board
use Rattle.writer.proofs.lay.put_head.Reads as put-head
use Rattle.writer.proofs.page.write_page.Reads as write-page
use Rattle.writer.proofs.write.Reads as write

-- ---- a source, 372 times; its file; a buffer of n dots
abbrev gen : Board
gen = board "GEN" "" 0 0 (ohms 0 20) (ohms 0 20) (ohms 0 5) (ohms 0 6)

abbrev boards : List Board
boards = replicate 372 gen

abbrev bd_gen : List ℕ
bd_gen = bd "GEN" "" 0 0 (ohms 0 20) (ohms 0 20) (ohms 0 5) (ohms 0 6)

abbrev file : ℕ → ℕ → List ℕ
file volts unit = head volts unit 1 ++ bd_gen

abbrev dots : ℕ → List ℕ
dots n = replicate n 46

-- a source and what it feeds, of 372; their file, the records in the order given
abbrev booth : Board
booth = board "BOOTH-WEST-1" "GEN" 2 0 (ohms 30 10) (ohms 30 10) (ohms 90 30) (ohms 0 0)

abbrev two : List Board
two = gen ∷ booth ∷ replicate 370 gen

abbrev bd_booth : List ℕ
bd_booth = bd "BOOTH-WEST-1" "GEN" 2 0 (ohms 30 10) (ohms 30 10) (ohms 90 30) (ohms 0 0)

abbrev file_two : List ℕ → List ℕ → List ℕ
file_two a b = head 230 1000 2 ++ (a ++ b)

-- 02, R-6: a source and a transformer without z1
abbrev without_z1 : List Board
without_z1 = gen ∷ board "HALL" "GEN" 4 11 (ohms 0 0) (ohms 0 0) (ohms 0 20) (ohms 0 0) ∷ replicate 370 gen

abbrev bd_without : List ℕ
bd_without = bd "HALL" "GEN" 4 11 (ohms 0 0) (ohms 0 0) (ohms 0 20) (ohms 0 0)

-- ---- a call with n boards and a buffer, and its answer
abbrev Call : Type 0
Call = ℕ × (ℕ × (Bor (List Board) × (MutBor (List ℕ) × Unit {0})))

abbrev given : ℕ → List ℕ → Call
given n out = (230, (1000, (lent (take n boards), (lent_out out, tt))))

abbrev given_two : List Board → List ℕ → Call
given_two bs out = (230, (1000, (lent (take 2 bs), (lent_out out, tt))))

abbrev said : ℕ → ℕ → ℕ → Written
said number place len = record { part = no_part; len = len; place = place; number = number }

abbrev answer : ℕ → Written → List ℕ → Written × Call
answer n w later = (w, given n later)

abbrev told : Written → List ℕ → ℕ
told w later = list (w.number ∷ w.place ∷ w.len ∷ later)

abbrev right : Call → ℕ
right a = let bs = a.1.1.0.now in let out = a.1.1.1.0.now in told (write_verdict a.0 a.1.0 bs (length out)) (write_leaves a.0 a.1.0 bs out)

pub at_most_256_not : RuledOut (at_most_256.Pre tt) (ever (at_most_256.Post tt)) (
    (256, tt) ↛ 255  -- page_of_255
    ∷ (257, tt) ↛ 257  -- page_of_257
    ∷ [])
at_most_256_not = by_equation (λ a. min 256 a.0) (λ n. n) (λ a z e s. s) (tt, (tt, tt)) tt

-- a board and a head laid down, with their fields in another order
abbrev hall : Board
hall = board "HALL" "GEN" 3 0 (ohms 1 2) (ohms 1 2) (ohms 3 4) (ohms 5 6)

abbrev said_head : Head
said_head = record { volts = 230; unit = 1000; boards = 3 }

-- the same board, typed in small letters
abbrev small : Board
small = board "hall" "gen" 3 0 (ohms 1 2) (ohms 1 2) (ohms 3 4) (ohms 5 6)

module _ (κ κ₀ : Lft) where
  pub put_board_not : RuledOut (put-board.Pre (κ, (κ₀, tt))) (leaves (put-board.Post (κ, (κ₀, tt)))) (
      (pen 44 0, (hall, tt)) ↛ (44, bd "GEN" "HALL" 3 0 (ohms 1 2) (ohms 1 2) (ohms 3 4) (ohms 5 6))  -- feeder_for_label
      ∷ (pen 44 0, (hall, tt)) ↛ (44, bd "HALL" "GEN" 3 0 (ohms 1 2) (ohms 1 2) (ohms 5 6) (ohms 3 4))  -- zn_for_z0
      ∷ (pen 44 0, (hall, tt)) ↛ (44, bd "HALL" "GEN" 0 3 (ohms 1 2) (ohms 1 2) (ohms 3 4) (ohms 5 6))  -- clock_for_kind
      ∷ (pen 44 0, (small, tt)) ↛ (44, bd "HALL" "gen" 3 0 (ohms 1 2) (ohms 1 2) (ohms 3 4) (ohms 5 6))  -- label_in_capitals
      ∷ (pen 44 0, (small, tt)) ↛ (44, bd "hall" "GEN" 3 0 (ohms 1 2) (ohms 1 2) (ohms 3 4) (ohms 5 6))  -- feeder_in_capitals
      ∷ [])
  unfolding write_open typed_open
  put_board_not = by_room (λ b. board_bytes b.0) tt tt

  pub put_head_not : RuledOut (put-head.Pre (κ, (κ₀, tt))) (leaves (put-head.Post (κ, (κ₀, tt)))) (
      (pen 8 0, (said_head, tt)) ↛ (8, head 1000 230 3)  -- unit_for_volts
      ∷ (pen 8 0, (said_head, tt)) ↛ (8, head 230 3 1000)  -- boards_for_unit
      ∷ (pen 9 0, (said_head, tt)) ↛ (8, head 230 1000 3 ++ (0 ∷ []))  -- byte_behind_the_head_cleared
      ∷ [])
  unfolding write_open typed_open
  put_head_not = by_room (λ b. head_bytes b.0) tt tt

module _ (κ κ' : Lft) where
  pub write_not : RuledOut (write.Pre (κ, (κ', tt))) (ends (write.Post (κ, (κ', tt)))) (
      given 1 (dots 52) ↛ answer 1 (said 0 0 0) (file 230 1000)  -- length_not_said
      ∷ given 1 (dots 52) ↛ answer 1 (said 0 0 52) (file 1000 230)  -- volts_and_unit_exchanged
      ∷ given 1 (dots 53) ↛ answer 1 (said 0 0 52) (file 230 1000 ++ (0 ∷ []))  -- byte_behind_cleared
      ∷ given 1 (dots 51) ↛ answer 1 (said 20 0 0) (take 51 (file 230 1000))  -- written_on_refusal
      ∷ given 1 (dots 51) ↛ answer 1 (said 20 1 0) (dots 51)  -- twenty_at_the_record
      ∷ given 1 (dots 52) ↛ answer 1 (said 20 0 0) (dots 52)  -- no_room_in_what_fits
      ∷ given 0 (dots 7) ↛ answer 0 (said 20 0 0) (dots 7)  -- twenty_before_three
      ∷ given_two two (dots 96) ↛ answer 2 (said 0 0 96) (file_two bd_booth bd_gen)  -- boards_exchanged
      ∷ given_two two (dots 96) ↛ answer 2 (said 0 0 96) (file_two bd_gen bd_gen)  -- first_board_twice
      ∷ given_two two (dots 96) ↛ answer 2 (said 0 0 96) (file_two bd_gen (replicate 44 0))  -- second_board_not_laid
      ∷ given 2 (dots 96) ↛ answer 2 (said 7 1 0) (dots 96)  -- used_label_at_the_first
      ∷ given 2 (dots 0) ↛ answer 2 (said 20 0 0) (dots 0)  -- twenty_before_seven
      ∷ given 257 (dots 0) ↛ answer 257 (said 7 2 0) (dots 0)  -- n_257_judged
      ∷ given_two without_z1 (dots 96) ↛ answer 2 (said 0 0 96) (file_two bd_gen bd_without)  -- forgotten_written
      ∷ given_two without_z1 (dots 96) ↛ answer 2 (said 21 0 0) (dots 96)  -- twenty_one_without_its_place
      ∷ given_two without_z1 (dots 0) ↛ answer 2 (said 20 0 0) (dots 0)  -- twenty_before_twenty_one
      ∷ [])
  unfolding paper write_open typed_open
  write_not =
      by (λ z. told z.0 z.1.1.1.1.0.now) right (λ a z s i. told (s.0 i) (s.1 i))
      (tt, (tt, (tt, (tt, (tt, (tt, (tt, (tt, (tt, (tt, (tt, (tt, (tt, (tt, (tt, (tt, tt)))))))))))))))) tt

-- ---- a page with one board's record. Its contract is said of any boards that the page holds, so each row is denied by what it says of that one
abbrev page : List ℕ
page = replicate 8 0 ++ (bd_gen ++ replicate 11220 0)

abbrev OnIt : Type 0
OnIt = ℕ × (ℕ × (ℕ × (MutBor (List ℕ) × (MutBor (List ℕ) × Unit {0}))))

abbrev judged : List ℕ → OnIt
judged out = (230, (1000, (1, (lent_out page, (lent_out out, tt)))))

abbrev answers : Written → List ℕ → Written × OnIt
answers w later = (w, judged later)

word : (r x : ℕ) → T (leb r 65535) → T (leb x 65535) → AtMost 65535 (ohms r x)
word r x a b = record { r_most = leb→le r 65535 a; x_most = leb→le x 65535 b }

one : OnPage (gen ∷ []) 1 page
unfolding write_open typed_open
one = record {
  many = refl;
  typed = (record { label_12 = refl; feeder_12 = refl; z1_word = word 0 20 tt tt; z2_word = word 0 20 tt tt; z0_word = word 0 5 tt tt; zn_word = word 0 6 tt tt }, tt);
  laid = refl;
}

-- two numbers of which a test says that they differ
differ : (m n : ℕ) → eqb m n ≡ false → m ≡ n → ⊥
differ m n f e = true≢false (sym (eq-eqb m n e) ∙ f)

module _ (κ κ' : Lft) where
  pub write_page_not : RuledOut (write-page.Pre (κ, (κ', tt))) (ends (write-page.Post (κ, (κ', tt)))) (
      judged (dots 52) ↛ answers (said 0 0 52) (file 1000 230)  -- page_volts_and_unit_exchanged
      ∷ judged (dots 52) ↛ answers (said 0 0 52) (take 52 page)  -- page_without_its_head
      ∷ judged (dots 51) ↛ answers (said 20 0 0) (take 51 (file 230 1000))  -- page_written_on_refusal
      ∷ [])
  unfolding paper write_open typed_open
  write_page_not = record {
    asked = (refl, (refl, (refl, tt)));
    denied = (
      λ s. differ _ _ refl (λ i. told (s.0 (gen ∷ []) one i) (s.1 (gen ∷ []) one i)),
      (λ s. differ _ _ refl (λ i. told (s.0 (gen ∷ []) one i) (s.1 (gen ∷ []) one i)), (λ s. differ _ _ refl (λ i. told (s.0 (gen ∷ []) one i) (s.1 (gen ∷ []) one i)), tt)),
    );
  }
