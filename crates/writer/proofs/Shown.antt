-- What refuses the records of boards is what refuses the boards, shown in their records: the mark of each is right, and the tests of a board are asked of both. Assumes nothing.
use mathlib.Core.Bool.{true, false}
use mathlib.Core.List.{List, [], ◌∷◌, ◌++◌}
use mathlib.Core.Option.{Option, none, some}
use mathlib.Core.Path.{◌≡◌, refl, sym, ◌∙◌, ap, ap₂}
use Prim.Native.Nat.{ℕ, suc}
use lib.ListN.{length}
use borrow.Author.Tests.{eq-eqb}
use Rattle.paper.specs.declared.Board.{Board}
use Rattle.paper.specs.declared.Refusal.{Refusal}
use Rattle.paper.specs.Rows.{Test, test, rows_at, first}
use Rattle.paper.specs.File.{mark_of, BD, board_of}
use Rattle.paper.specs.Chain.{Boards}
use Rattle.paper.specs.Refusal.{the_record, no_part, board_tests, record_rows, in_order, records_refusal, board_rows, boards_rows}
use Rattle.follows.proofs.Rows.{◌then◌, first_then}
use Rattle.paper.specs.Write.{board_bytes}
use Rattle.writer.specs.RoundTrip.{AllTyped, Typed}
use Rattle.writer.proofs.Bytes.{board_mark, board_back}
use Rattle.writer.proofs.File.{laid}

-- a board's refusal, shown in its record
unfoldable pub shown : Option Refusal → Option Refusal
shown none = none
shown (some r) = some (record { part = the_record r.place; place = r.place; number = r.number })

shown_then : (o p : Option Refusal) → shown o then shown p ≡ shown (o then p)
unfolding shown ◌then◌
shown_then none p = refl
shown_then (some r) p = refl

first_shown : (r : ℕ) (ts : List Test) → first (rows_at r (the_record r) ts) ≡ shown (first (rows_at r no_part ts))
unfolding shown first rows_at
first_shown r [] = refl
first_shown r (test n true ∷ ts) = refl
first_shown r (test n false ∷ ts) = first_shown r ts

-- one, behind the boards before it
one_shown : (before : Boards) (b : Board) → Typed b → first (record_rows before (board_bytes b)) ≡ shown (first (board_rows before b))
unfolding record_rows board_rows first rows_at
one_shown before b t =
    rw (eq-eqb (mark_of (board_bytes b)) BD (board_mark b t)) (first_shown (suc (length before)) (board_tests before (board_of (board_bytes b))))
    ∙ ap (λ (d : Board). shown (first (rows_at (suc (length before)) no_part (board_tests before d)))) (board_back b t)

pub all_shown : (before bs : Boards) → AllTyped bs → records_refusal before (laid bs) ≡ shown (first (boards_rows before bs))
unfolding in_order laid shown first
all_shown before [] t = refl
all_shown before (b ∷ bs) (t, ts) =
    first_then (record_rows before (board_bytes b)) _
    ∙ ap₂ ◌then◌ (one_shown before b t) (ap (λ (d : Board). records_refusal (before ++ (d ∷ [])) (laid bs)) (board_back b t) ∙ all_shown (before ++ (b ∷ [])) bs ts)
    ∙ shown_then (first (board_rows before b)) (first (boards_rows (before ++ (b ∷ [])) bs))
    ∙ ap shown (sym (first_then (board_rows before b) (boards_rows (before ++ (b ∷ [])) bs)))
