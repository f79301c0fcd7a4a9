-- What a call returns of an answer, or of a refusal. Assumes nothing.
use Rattle.std.specs.Prelude.{Result, Ok, Err}
use Rattle.paper.specs.declared.Answer.{Answer}
use Rattle.paper.specs.declared.Refusal.{Refusal}
use Rattle.paper.specs.Answer.{refused}

abbrev pub told : Result Answer Refusal → Answer
told (Ok a) = a
told (Err w) = refused w
