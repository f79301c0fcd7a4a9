-- What judging the records says. Assumes nothing.
use Rattle.std.specs.Prelude.{List, [], ℕ}
use Rattle.paper.specs.Label.{Label}
use Rattle.paper.specs.File.{records_of, boards_of}
use Rattle.paper.specs.Chain.{place_of}
use Rattle.paper.specs.Refusal.{records_refusal}
use Rattle.paper.specs.Rule.{or_refused}
use Rattle.records.specs.declared.Judged.{Judged}

-- kept, or refused by the first rule that a record breaks; and where the board stands that is asked for
unfoldable pub judgement : List ℕ → Label → Judged
judgement net l = record { asked = place_of l (boards_of net); outcome = or_refused (records_refusal [] (records_of net)) tt }
