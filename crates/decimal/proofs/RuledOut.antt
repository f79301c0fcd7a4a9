-- What each contract of this crate rules out: a call that it allows, and an answer that it does not. Assumes nothing.
use mathlib.Core.List.{List, [], ◌∷◌, Mem}
use Prim.Native.Nat.{ℕ}
use lib.IntN.{ℤ, pos, negsuc, nat_abs}
use base.Fml.{Lft}
use denote.Ref.{Bor}
use Rattle.std.proofs.Common.{Fits-lit}
use Rattle.lemmas.proofs.RuledOut.{◌↛◌, RuledOut, ever, by_equation, lent}
use Rattle.decimal.specs.Decimal.{decimal, signed, row, decimal_open}
use Rattle.lemmas.specs.Little.{little}
use Rattle.decimal.specs.Word.{word_of}
use Rattle.decimal.proofs.Told.{bytes, pen, leaves, room, by_text, by_room}
use Rattle.decimal.proofs.Pen.byte.Reads as byte
use Rattle.decimal.proofs.Pen.bytes.Reads as pen-bytes
use Rattle.decimal.proofs.Pen.decimal.Reads as pen-decimal
use Rattle.decimal.proofs.magnitude.Reads as magnitude
use Rattle.decimal.proofs.Pen.number.Reads as number
use Rattle.decimal.proofs.Pen.field.Reads as field
use Rattle.decimal.proofs.Pen.pair.Reads as pair
use Rattle.decimal.proofs.Pen.row.Reads as pen-row
use Rattle.decimal.proofs.Pen.little.Reads as pen-little
use Rattle.decimal.proofs.little.word.Reads as word

abbrev numbers : Bor (List ℤ)
numbers = lent (pos 3 ∷ pos 4 ∷ [])

pub magnitude_not : RuledOut (magnitude.Pre tt) (ever (magnitude.Post tt)) (
    (negsuc 4, tt) ↛ 4  -- magnitude_one_less
    ∷ (negsuc 4, tt) ↛ 6  -- magnitude_one_more
    ∷ [])
magnitude_not = by_equation (λ a. nat_abs a.0) (λ n. n) (λ a z e s. s) (tt, (tt, tt)) tt

pub word_not : RuledOut (word.Pre tt) (ever (word.Post tt)) (
    (negsuc 0, tt) ↛ 1  -- sign_lost
    ∷ (negsuc 0, tt) ↛ 0xfffffffffffffffe  -- one_too_low
    ∷ [])
unfolding word_of
word_not = by_equation (λ a. word_of a.0) (λ n. n) (λ a z e s. s) (tt, (tt, tt)) tt

module _ (κ κ' : Lft) where
  pub byte_not : RuledOut (byte.Pre (κ, (κ', tt))) (leaves (byte.Post (κ, (κ', tt)))) (
      (pen 3 1, (65, tt)) ↛ (2, bytes "A..")  -- text_at_the_front
      ∷ (pen 3 1, (65, tt)) ↛ (1, bytes ".A.")  -- next_is_the_same
      ∷ (pen 3 1, (65, tt)) ↛ (3, bytes ".A.")  -- byte_and_a_gap
      ∷ [])
  byte_not = by_room (λ b. b.0 ∷ []) tt tt

  pub decimal_not : RuledOut (pen-decimal.Pre (κ, (κ', tt))) (leaves (pen-decimal.Post (κ, (κ', tt)))) (
      (pen 3 0, (12, tt)) ↛ (2, bytes "21.")  -- digits_in_reverse
      ∷ (pen 3 0, (12, tt)) ↛ (0, bytes "12.")  -- next_is_the_same
      ∷ [])
  unfolding decimal_open
  decimal_not = by_room (λ b. decimal b.0) tt tt

  pub number_not : RuledOut (number.Pre (κ, (κ', tt))) (leaves (number.Post (κ, (κ', tt)))) (
      (pen 4 0, (negsuc 4, tt)) ↛ (2, bytes " 5..")  -- minus_lost
      ∷ (pen 4 0, (pos 12, tt)) ↛ (3, bytes " 21.")  -- digits_in_reverse
      ∷ [])
  unfolding decimal_open
  number_not = by_room (λ b. 0x20 ∷ signed b.0) tt tt

  pub field_not : RuledOut (field.Pre (κ, (κ', tt))) (leaves (field.Post (κ, (κ', tt)))) (
      (pen 4 1, (5, tt)) ↛ (3, bytes ".05.")  -- field_after_a_0
      ∷ (pen 4 1, (5, tt)) ↛ (2, bytes ".5..")  -- field_over_its_space
      ∷ [])
  unfolding decimal_open
  field_not = by_room (λ b. 0x20 ∷ decimal b.0) tt tt

  pub pair_not : RuledOut (pair.Pre (κ, (κ', tt))) (leaves (pair.Post (κ, (κ', tt)))) (
      (pen 6 0, (1, (2, tt))) ↛ (5, bytes " 1 1\n.")  -- pair_first_twice
      ∷ (pen 6 0, (1, (2, tt))) ↛ (5, bytes " 1 2 .")  -- pair_without_end
      ∷ [])
  unfolding decimal_open
  pair_not = by_room (λ b. row (pos b.0 ∷ pos b.1.0 ∷ [])) tt tt

  -- a generic function asks that what its arguments hold lives; a number holds nothing, here and in the call
  none_lives : (a : ℕ) → Mem a [] → Mem a []
  none_lives a m = m

  pub little_two_not : RuledOut (pen-little.Pre 2 (Fits-lit tt) (κ, (κ', ([], tt)))) (leaves (pen-little.Post 2 (Fits-lit tt) (κ, (κ', ([], tt))))) (
      (pen 2 0, (0x4241, tt)) ↛ (2, bytes "BA")  -- high_byte_first
      ∷ (pen 2 0, (0x4241, tt)) ↛ (2, bytes "AA")  -- low_byte_twice
      ∷ [])
  unfolding little
  little_two_not = by_text (λ b. little 2 b.0) ((none_lives, room tt), ((none_lives, room tt), tt)) tt

  pub little_four_not : RuledOut (pen-little.Pre 4 (Fits-lit tt) (κ, (κ', ([], tt)))) (leaves (pen-little.Post 4 (Fits-lit tt) (κ, (κ', ([], tt))))) (
      (pen 4 0, (0x44434241, tt)) ↛ (4, bytes "ACCD")  -- second_byte_lost
      ∷ (pen 4 0, (0x44434241, tt)) ↛ (4, bytes "ABCC")  -- third_byte_twice
      ∷ [])
  unfolding little
  little_four_not = by_text (λ b. little 4 b.0) ((none_lives, room tt), ((none_lives, room tt), tt)) tt

  pub little_eight_not : RuledOut (pen-little.Pre 8 (Fits-lit tt) (κ, (κ', ([], tt)))) (leaves (pen-little.Post 8 (Fits-lit tt) (κ, (κ', ([], tt))))) (
      (pen 8 0, (0x4847464544434241, tt)) ↛ (8, bytes "ABCDABCD")  -- low_half_twice
      ∷ (pen 8 0, (0x4847464544434241, tt)) ↛ (8, bytes "EFGHEFGH")  -- high_half_first
      ∷ [])
  unfolding little
  little_eight_not = by_text (λ b. little 8 b.0) ((none_lives, room tt), ((none_lives, room tt), tt)) tt

module _ (κ κ' κ₂ : Lft) where
  pub bytes_not : RuledOut (pen-bytes.Pre (κ, (κ', (κ₂, tt)))) (leaves (pen-bytes.Post (κ, (κ', (κ₂, tt))))) (
      (pen 4 1, (lent (bytes "AB"), tt)) ↛ (3, bytes "AB..")  -- text_at_the_front
      ∷ (pen 4 1, (lent (bytes "AB"), tt)) ↛ (1, bytes ".AB.")  -- next_is_the_same
      ∷ [])
  bytes_not = by_room (λ b. b.0.now) tt tt

  pub row_not : RuledOut (pen-row.Pre (κ, (κ', (κ₂, tt)))) (leaves (pen-row.Post (κ, (κ', (κ₂, tt))))) (
      (pen 6 0, (65, (numbers, tt))) ↛ (3, bytes " 4\n...")  -- numbers_on_top
      ∷ (pen 6 0, (65, (numbers, tt))) ↛ (6, bytes "A 3 4 ")  -- row_without_end
      ∷ [])
  unfolding decimal_open
  row_not = by_room (λ b. b.0 ∷ row b.1.0.now) tt tt
