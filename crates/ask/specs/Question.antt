-- What asking for a fault gives where it is accepted. Assumes nothing.
use Rattle.std.specs.Prelude.{ℕ}
use Rattle.paper.specs.declared.Fault.{Fault}
use Rattle.ask.specs.declared.question.Question.{Question}

abbrev pub accepted_question : Fault → ℕ → Question
accepted_question f k = record { fault = f; k = k }
