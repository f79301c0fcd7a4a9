-- "The writer refuses .. exactly the boards whose file the reader would refuse": one equation between the two refusals, with the reader's number and place. Assumes nothing.
use mathlib.Core.Bool.{Bool, true, false, not}
use mathlib.Core.List.{List, [], ◌∷◌, ◌++◌, append_assoc}
use mathlib.Core.Option.{Option, none, some}
use mathlib.Core.Path.{◌≡◌, refl, sym, ◌∙◌, ap, ap₂}
use Prim.Native.Nat.{ℕ, suc, ◌≤◌}
use native.Mathlib.Omega.{arith}
use lib.Dec.{ltb, eqb}
use lib.ListN.{length}
use borrow.Author.Tests.{le-ltb, eq-eqb}
use Rattle.paper.specs.declared.Head.{Head}
use Rattle.paper.specs.declared.Lent.TheVariants.{NetworkBytes}
use Rattle.paper.specs.declared.Refusal.{Refusal}
use Rattle.paper.specs.Rows.{Test, test, Row, row, rows_at, first}
use Rattle.paper.specs.File.{mark_of, HD, head_of, file_size, records_of}
use Rattle.paper.specs.Chain.{Boards}
use Rattle.paper.specs.Refusal.{all_of, the_head, head_ranges, head_rows, no_part, board_tests, board_rows, in_order, boards_rows, records_rows, records_refusal, network_rows}
use Rattle.paper.specs.Write.{room_rows, head_for, file_of, write_rows, write_refusal}
use Rattle.follows.proofs.Rows.{some_none, ◌then◌, first_then}
use Rattle.writer.specs.RoundTrip.{AllTyped, unshown}
use Rattle.writer.proofs.File.{file_long, file_mark, file_head, file_records}
use Rattle.writer.proofs.Shown.{shown, all_shown}

-- ---- boards are refused without bytes
unshown_then : (o p : Option Refusal) → unshown (o then p) ≡ unshown o then unshown p
unfolding unshown ◌then◌
unshown_then none p = refl
unshown_then (some r) p = refl

unshown_shown : (o : Option Refusal) → unshown (shown o) ≡ unshown o
unfolding unshown shown
unshown_shown none = refl
unshown_shown (some r) = refl

pub unshown_none : (o : Option Refusal) → unshown o ≡ none → o ≡ none
unfolding unshown
unshown_none none e = refl
unshown_none (some r) e = absurd (some_none e)

bare_first : (r : ℕ) (ts : List Test) → unshown (first (rows_at r no_part ts)) ≡ first (rows_at r no_part ts)
unfolding unshown first rows_at
bare_first r [] = refl
bare_first r (test n true ∷ ts) = refl
bare_first r (test n false ∷ ts) = bare_first r ts

bare : (before bs : Boards) → unshown (first (boards_rows before bs)) ≡ first (boards_rows before bs)
unfolding in_order board_rows unshown first
bare before [] = refl
bare before (b ∷ bs) =
    let rows = board_rows before b in
    let later = boards_rows (before ++ (b ∷ [])) bs in
    ap unshown (first_then rows later) ∙ unshown_then (first rows) (first later)
    ∙ ap₂ ◌then◌ (bare_first (suc (length before)) (board_tests before b)) (bare (before ++ (b ∷ [])) bs)
    ∙ sym (first_then rows later)

-- ---- the file's refusal
module _ (volts unit : ℕ) (bs : Boards) (ts : AllTyped bs) (v : volts ≤ 65535) (u : unit ≤ 65535) (n : length bs ≤ 65535) where
  abbrev file : List ℕ
  file = file_of volts unit bs

  abbrev wrong : Bool
  wrong = not (head_ranges (head_for volts unit bs))

  head_refusal : first (head_rows file) ≡ first (row 3 wrong 0 the_head ∷ [])
  unfolding head_rows first
  head_refusal =
      let e1 : ltb (length file) 8 ≡ false = le-ltb (length file) 8 (omega (arith, file_long volts unit bs ts)) in
      let e2 : eqb (mark_of file) HD ≡ true = eq-eqb (mark_of file) HD (file_mark volts unit bs ts) in
      let e3 : not (head_ranges (head_of file)) ≡ wrong = ap (λ (h : Head). not (head_ranges h)) (file_head volts unit bs ts v u n) in
      let e4 : eqb (length file) (file_size (head_of file).boards) ≡ true = eq-eqb _ _ (file_long volts unit bs ts ∙ ap (λ (h : Head). file_size h.boards) (sym (file_head volts unit bs ts v u n))) in
      (λ i. first (row 1 (e1 i) 0 (all_of NetworkBytes file) ∷ row 2 (not (e2 i)) 0 the_head ∷ row 3 (e3 i) 0 the_head ∷ row 4 (not (e4 i)) 0 the_head ∷ []))

  records_refusal_lem : records_refusal [] (records_of file) ≡ shown (first (boards_rows [] bs))
  records_refusal_lem = ap (records_refusal []) (file_records volts unit bs ts v u n) ∙ all_shown [] bs ts

  -- so whoever judges the file judges the boards
  pub boards_refusal : first (boards_rows [] bs) ≡ unshown (records_refusal [] (records_of file))
  boards_refusal = sym (ap unshown records_refusal_lem ∙ unshown_shown (first (boards_rows [] bs)) ∙ bare [] bs)

  -- the reader's rows, and 20 behind them
  pub refused_alike : (room : ℕ) → write_refusal volts unit bs room ≡ unshown (first (network_rows file ++ room_rows (length bs) room))
  unfolding write_rows network_rows unshown first
  refused_alike room =
      first_then (row 3 wrong 0 no_part ∷ []) (boards_rows [] bs ++ later) ∙ ap₂ ◌then◌ (head_bare wrong) (first_then (boards_rows [] bs) later ∙ ap₂ ◌then◌ boards_refusal (room_bare (ltb room (file_size (length bs)))))
      ∙ ap₂ ◌then◌ (ap unshown (sym head_refusal)) (sym (unshown_then (records_refusal [] (records_of file)) (first later)) ∙ ap unshown (sym (first_then (records_rows [] (records_of file)) later)))
      ∙ sym (unshown_then (first (head_rows file)) (first (records_rows [] (records_of file) ++ later)))
      ∙ ap unshown (sym (first_then (head_rows file) (records_rows [] (records_of file) ++ later)) ∙ ap first (sym (append_assoc (head_rows file) (records_rows [] (records_of file)) later)))
    where
      later : List Row
      later = room_rows (length bs) room

      head_bare : (w : Bool) → first (row 3 w 0 no_part ∷ []) ≡ unshown (first (row 3 w 0 the_head ∷ []))
      head_bare true = refl
      head_bare false = refl

      room_bare : (w : Bool) → first (row 20 w 0 no_part ∷ []) ≡ unshown (first (row 20 w 0 no_part ∷ []))
      room_bare true = refl
      room_bare false = refl
