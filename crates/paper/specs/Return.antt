-- 02, R-4: 'Why is there no earth return?': what the answer's cases say, the refusals, and the answer. Assumes nothing.
use Rattle.std.specs.Prelude.{Bool, true, false, not, ◌||◌, List, [], ◌∷◌, ◌++◌, ℕ, eqb, length}
use Rattle.std.specs.Prelude.{Result, Ok, Err}
use Rattle.std.proofs.Math.Option.{Option, none, some}
use Rattle.paper.specs.declared.Part.{Part}
use Rattle.paper.specs.declared.Lent.TheVariants.{LabelBytes}
use Rattle.paper.specs.declared.Refusal.{Refusal}
use Rattle.paper.specs.declared.EarthReturn.{EarthReturn}
use Rattle.paper.specs.declared.EarthReturn.TheVariants.{From, Stopped}
use Rattle.paper.specs.Rows.{Row, row, first}
use Rattle.paper.specs.Label.{Label}
use Rattle.paper.specs.File.{label_size, boards_of}
use Rattle.paper.specs.Chain.{Boards, place_of, part_head, Earth, no_earth, earth_at, earth_of}
use Rattle.paper.specs.Refusal.{all_of, network_rows}

-- ---- the number and the values that an answer has: number 0 and a record, or the rule that is broken, its place and its part. An answer shows no bytes.
pub record Said : Type 0 where
  pub number : ℕ
  pub earthed : Bool
  pub place : ℕ
  pub shown : Option Part

-- "earth return from record r"
abbrev pub earth_return_from : ℕ → Said
earth_return_from r = record { number = 0; earthed = true; place = r; shown = none }

-- "none, stopped at record r"
abbrev pub none_stopped_at : ℕ → Said
none_stopped_at r = record { number = 0; earthed = false; place = r; shown = none }

abbrev pub refused_by : Refusal → Said
refused_by w = record { number = w.number; earthed = false; place = w.place; shown = some w.part }

-- what each case of the answer says, and a refusal: promises are stated by this
unfoldable pub said : Result EarthReturn Refusal → Said
said (Ok (From r)) = earth_return_from r
said (Ok (Stopped r)) = none_stopped_at r
said (Err w) = refused_by w

-- ---- "Refusals: 1 to 11 as before, then 14, also for a label not of twelve bytes." All of the network's own are meant. The part is the bytes tested: the label's, however many
unfoldable pub label_rows : Boards → Label → List Row
label_rows bs l = row 14 (not (eqb (length l) label_size) || eqb (place_of l bs) 0) 0 (all_of LabelBytes l) ∷ []

unfoldable pub earth_rows : List ℕ → Label → List Row
earth_rows net l = network_rows net ++ label_rows (boards_of net) l

abbrev pub earth_refusal : List ℕ → Label → Option Refusal
earth_refusal net l = first (earth_rows net l)

-- ---- "r being where the zero sequence starts", or "r being the nearest record on the chain, going from the board to the source, of kind 1 or 5": either is the head of the board's part
-- (theorems of `follows`, `UpToHead`)
unfoldable pub return_of : Earth → ℕ → Said
return_of (earth_at e) head = earth_return_from head
return_of no_earth head = none_stopped_at head

unfoldable pub return_at : Boards → ℕ → Said
return_at bs k = return_of (earth_of bs k) (part_head bs k)

unfoldable pub refused_or : Option Refusal → Said → Said
refused_or none answer = answer
refused_or (some w) answer = refused_by w

-- "A tool takes a network and a label and answers"
unfoldable pub earth_said : List ℕ → Label → Said
earth_said net l = let bs = boards_of net in refused_or (earth_refusal net l) (return_at bs (place_of l bs))

unfoldable pub return_open : Unit {0}
unfolding said label_rows earth_rows return_of return_at refused_or earth_said
return_open = tt
