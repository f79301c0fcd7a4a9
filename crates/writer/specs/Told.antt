-- What a call returns of a file's length, or of a refusal: no bytes were tested, so the part is empty. Assumes nothing.
use Rattle.std.specs.Prelude.{ℕ, Result, Ok, Err}
use Rattle.paper.specs.declared.Refusal.{Refusal}
use Rattle.paper.specs.declared.Written.{Written}
use Rattle.paper.specs.Refusal.{no_part}

abbrev pub told : Result ℕ Refusal → Written
told (Ok len) = record { part = no_part; len = len; place = 0; number = 0 }
told (Err why) = record { part = no_part; len = 0; place = why.place; number = why.number }
