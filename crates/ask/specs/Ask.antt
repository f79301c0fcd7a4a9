-- What asking for a fault gives, of its bytes, the place of its board among n (0: none) and the room for the answer: what the code computes. That it is the paper's is a theorem (ask/proofs/, `Outcomes`).
-- Assumes nothing.
use Rattle.std.specs.Prelude.{List, ◌∷◌, ◌++◌, ℕ, eqb, Result}
use Rattle.paper.specs.declared.Refusal.{Refusal}
use Rattle.paper.specs.File.{fault_of}
use Rattle.paper.specs.Rows.{row, first}
use Rattle.paper.specs.Rule.{or_refused}
use Rattle.paper.specs.Refusal.{the_fault}
use Rattle.ask.specs.declared.question.Question.{Question}
use Rattle.ask.specs.Question.{accepted_question}
use Rattle.ask.specs.Steps.{unread_rows, board_rows}

-- the first of 12 to 19 that is broken, or the fault with the place of its board
unfoldable pub ask_of : List ℕ → ℕ → ℕ → ℕ → Result Question Refusal
ask_of s k n room = or_refused (first (unread_rows s ++ (row 14 (eqb k 0) 0 the_fault ∷ board_rows (fault_of s) n room))) (accepted_question (fault_of s) k)
