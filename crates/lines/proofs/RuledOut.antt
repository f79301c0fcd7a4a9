-- What each contract of this crate rules out: a call that it allows, and an answer that it does not. Assumes nothing.
use mathlib.Core.List.{List, [], ◌∷◌, ◌++◌}
use mathlib.Core.Path.{refl}
use Prim.Native.Nat.{ℕ}
use Prim.Native.String.{String}
use native.Mathlib.Omega.{arith}
use lib.IntN.{ℤ, pos}
use lib.ListN.{length, drop, replicate}
use base.Fml.{Lft}
use Rattle.std.specs.Prelude.{Ok, Err}
use denote.Ref.{Bor}
use Rattle.lemmas.proofs.RuledOut.{◌↛◌, RuledOut, ever, by_equation, lent}
use Rattle.decimal.specs.Decimal.{decimal_open}
use Rattle.decimal.proofs.Told.{bytes, pen, leaves, room, by_text, by_room}
use Rattle.paper.specs.declared.EarthReturn.TheVariants.{From, Stopped}
use Rattle.paper.specs.declared.Lent.TheVariants.{LabelBytes}
use Rattle.paper.specs.Bytes.{part, bytes_open}
use Rattle.paper.specs.Label.{label_open}
use Rattle.paper.specs.File.{boards_of, file_open}
use Rattle.paper.specs.Return.{said}
use Rattle.lines.specs.Name.{unspaced}
use Rattle.lines.specs.Lines.{fault_line, refused_text, three_lines, fours, lines_open}
use Rattle.lines.specs.Boards.{boards_lying, boards_open}
use Rattle.lines.specs.Earth.{earth_text, earth_open}
use Rattle.lines.proofs.name.letters.Reads as letters
use Rattle.lines.proofs.name.put_label.Reads as put-label
use Rattle.lines.proofs.put_refusal.Reads as put-refusal
use Rattle.lines.proofs.put_fault.Reads as put-fault
use Rattle.lines.proofs.put_phases.Reads as put-phases
use Rattle.lines.proofs.earthed.put_earth.Reads as put-earth
use Rattle.lines.proofs.boards.put_boards.Reads as put-boards

-- ---- a label, and a board's record by it; networks of one board and of two
abbrev label : String → List ℕ
label s = bytes s ++ replicate 11 32

abbrev board : String → List ℕ
board s = bytes "BD" ++ (label s ++ replicate 30 46)

abbrev one : Bor (List ℕ)
one = lent (bytes "HDvvuu\u{1}\0" ++ board "A")

abbrev small : Bor (List ℕ)
small = lent (bytes "HDvvuu\u{1}\0" ++ board "a")

abbrev two : Bor (List ℕ)
two = lent (bytes "HDvvuu\u{2}\0" ++ (board "A" ++ board "B"))

-- ---- some 0, then some 1; and three lines of 0
abbrev numbers : ℕ → ℕ → Bor (List ℤ)
numbers m n = lent (replicate m (pos 0) ++ replicate n (pos 1))

abbrev three : String → List ℕ
three what = bytes what ++ (bytes "a 0 0 0 0\n" ++ (bytes what ++ (bytes "b 0 0 0 0\n" ++ (bytes what ++ bytes "c 0 0 0 0\n"))))

-- ---- the contracts
pub letters_not : RuledOut (letters.Pre tt) (ever (letters.Post tt)) (
    (label "A", tt) ↛ 12  -- label_spaces_printed
    ∷ (bytes "ABCDEFGHIJKL", tt) ↛ 11  -- labels_of_eleven
    ∷ [])
unfolding unspaced label_open
letters_not = by_equation (λ a. length (unspaced a.0)) (λ n. n) (λ a z e s. s) (tt, (tt, tt)) tt

module _ (κ κ' : Lft) where
  pub put_label_not : RuledOut (put-label.Pre (κ, (κ', tt))) (leaves (put-label.Post (κ, (κ', tt)))) (
      (pen 12 0, (label "A", tt)) ↛ (12, label "A")  -- label_with_its_spaces
      ∷ (pen 3 0, (label "A", tt)) ↛ (2, bytes ".A.")  -- label_of_its_length
      ∷ (pen 3 0, (label "a", tt)) ↛ (1, bytes "A..")  -- label_in_capitals
      ∷ [])
  unfolding unspaced label_open
  put_label_not = by_room (λ b. unspaced b.0) tt tt

  pub put_refusal_not : RuledOut (put-refusal.Pre (κ, (κ', tt))) (leaves (put-refusal.Post (κ, (κ', tt)))) (
      (pen 12 0, (7, (2, tt))) ↛ (12, bytes "REFUSED 2 7\n")  -- place_before_number
      ∷ (pen 12 0, (7, (2, tt))) ↛ (12, bytes "refused 7 2\n")  -- refused_in_small
      ∷ [])
  unfolding lines_open decimal_open bytes_open
  put_refusal_not = by_room (λ b. refused_text b.0 b.1.0) tt tt

  pub put_fault_not : RuledOut (put-fault.Pre (κ, (κ', tt))) (leaves (put-fault.Post (κ, (κ', tt)))) (
      (pen 14 0, (label "A", (3, (1, (9, tt))))) ↛ (14, bytes "FAULT A 1 1 9\n")  -- kind_is_the_phase
      ∷ (pen 14 0, (label "A", (3, (1, (9, tt))))) ↛ (14, bytes "FAULT A 3 9 1\n")  -- amps_before_phase
      ∷ (pen 14 0, (label "a", (3, (1, (9, tt))))) ↛ (14, bytes "FAULT A 3 1 9\n")  -- fault_in_capitals
      ∷ [])
  unfolding lines_open label_open decimal_open bytes_open
  put_fault_not = by_room (λ b. fault_line b.0 b.1.0 b.1.1.0 b.1.1.1.0) tt tt

  pub put_earth_not : RuledOut (put-earth.Pre (κ, (κ', tt))) (leaves (put-earth.Post (κ, (κ', tt)))) (
      (pen 27 0, (Ok (From 3), tt)) ↛ (26, bytes "none, stopped at record 3\n.")  -- from_is_stopped
      ∷ (pen 27 0, (Ok (Stopped 3), tt)) ↛ (27, bytes "earth return from record 3\n")  -- stopped_is_from
      ∷ (pen 27 0, (Ok (From 3), tt)) ↛ (27, bytes "earth return from record 4\n")  -- record_behind
      ∷ (pen 26 0, (Ok (Stopped 3), tt)) ↛ (25, bytes "none, stopped at record 3.")  -- line_not_ended
      ∷ (pen 26 0, (Err (record { part = part LabelBytes 0 11; place = 0; number = 14 }), tt)) ↛ (26, bytes "none, stopped at record 0\n")  -- refused_is_stopped
      ∷ [])
  unfolding said earth_open lines_open decimal_open bytes_open
  put_earth_not = by_room (λ b. earth_text (said b.0)) tt tt

module _ (κ κ' κ₁ κ₂ κ₃ : Lft) where
  pub put_phases_not : RuledOut (put-phases.Pre (κ, (κ', (κ₁, (κ₂, (κ₃, tt)))))) (leaves (put-phases.Post (κ, (κ', (κ₁, (κ₂, (κ₃, tt))))))) (
      (pen 36 0, (lent [], (lent (bytes "I "), (numbers 12 0, tt)))) ↛ (36, bytes "I a 0 0 0 0\nI c 0 0 0 0\nI c 0 0 0 0\n")  -- b_is_c
      ∷ (pen 36 0, (lent [], (lent (bytes "I "), (numbers 8 4, tt)))) ↛ (36, three "I ")  -- c_is_b
      ∷ [])
  unfolding lines_open decimal_open
  put_phases_not =
      by_text (λ b. three_lines (b.0.now ++ b.1.0.now) (fours b.1.1.0.now))
      ((omega arith, room tt), ((omega arith, room tt), tt)) tt

module _ (κ κ' κ₁ κ₂ : Lft) where
  pub put_boards_not : RuledOut (put-boards.Pre (κ, (κ', (κ₁, (κ₂, tt))))) (leaves (put-boards.Post (κ, (κ', (κ₁, (κ₂, tt)))))) (
      (pen 84 0, (one, (1, (numbers 37 0, tt)))) ↛ (0, replicate 84 46)  -- boards_from_second
      ∷ (pen 84 0, (one, (1, (numbers 37 0, tt)))) ↛ (84, three "A V " ++ three "A V ")  -- voltages_twice
      ∷ (pen 84 0, (one, (1, (numbers 36 1, tt)))) ↛ (84, three "A V " ++ three "A I ")  -- boards_from_currents
      ∷ (pen 84 0, (one, (1, (numbers 25 12, tt)))) ↛ (84, three "A V " ++ three "A I ")  -- currents_are_voltages
      ∷ (pen 132 0, (one, (1, (numbers 37 0, tt)))) ↛ (132, three "vvuu\u{1}\0BDA V " ++ three "vvuu\u{1}\0BDA I ")  -- boards_from_0
      ∷ (pen 168 0, (two, (2, (numbers 37 24, tt)))) ↛ (168, three "A V " ++ (three "A I " ++ (three "B V " ++ three "B I ")))  -- board_1_again
      ∷ (pen 84 0, (small, (1, (numbers 37 0, tt)))) ↛ (84, three "A V " ++ three "A I ")  -- boards_in_capitals
      ∷ [])
  unfolding boards_open lines_open label_open decimal_open file_open bytes_open
  put_boards_not =
      by_text (λ b. boards_lying (boards_of b.0.now) (drop 13 b.1.1.0.now))
      ((refl, (refl, (omega arith, room tt))), ((refl, (refl, (omega arith, room tt))), ((refl, (refl, (omega arith, room tt))), ((refl, (refl, (omega arith, room tt))), ((refl, (refl, (omega arith, room tt))), ((refl, (refl, (omega arith, room tt))), ((refl, (refl, (omega arith, room tt))), tt))))))) tt
