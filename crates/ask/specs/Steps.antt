-- The rules of a fault but 14, as the code takes them: of its bytes before they are read, and of the fault at its board. That with 14 between them they are the paper's is a theorem (ask/proofs/, `Outcomes`). Assumes nothing.
use Rattle.std.specs.Prelude.{not, List, [], ◌∷◌, ℕ, ◌+◌, ◌*◌, ltb, eqb, length, Result}
use Rattle.paper.specs.declared.Fault.{Fault}
use Rattle.paper.specs.declared.Lent.TheVariants.{FaultBytes}
use Rattle.paper.specs.declared.Refusal.{Refusal}
use Rattle.paper.specs.Bytes.{u16_at, part}
use Rattle.paper.specs.Kind.{part_over}
use Rattle.paper.specs.File.{FT}
use Rattle.paper.specs.Rows.{Row, row, first}
use Rattle.paper.specs.Rule.{or_refused}
use Rattle.paper.specs.Refusal.{the_fault, phase_wrong}
use Rattle.ask.specs.declared.question.Question.{Question}
use Rattle.ask.specs.Question.{accepted_question}

-- 12 and 13
unfoldable pub unread_rows : List ℕ → List Row
unread_rows s = row 12 (not (eqb (length s) 20)) 0 (part FaultBytes 0 (length s)) ∷ row 13 (not (eqb (u16_at s 0) FT)) 0 the_fault ∷ []

-- 15 to 19, of a fault where there are n boards
unfoldable pub board_rows : Fault → ℕ → ℕ → List Row
board_rows f n room =
    row 15 (ltb 3 f.kind) 0 the_fault
    ∷ row 16 (phase_wrong f) 0 the_fault
    ∷ row 17 (part_over 1365 f.zf) 0 the_fault
    ∷ row 19 (ltb room (13 + 24 * n)) 0 (part FaultBytes 0 0)
    ∷ []

-- these, of a fault at board k
unfoldable pub asked_at : Fault → ℕ → ℕ → ℕ → Result Question Refusal
asked_at f k n room = or_refused (first (board_rows f n room)) (accepted_question f k)
