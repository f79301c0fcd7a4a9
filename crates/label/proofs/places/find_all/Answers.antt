use Rattle.std.proofs.Common.{◌≡◌, ℕ, ◌+◌, ◌<◌, ◌≤◌, List, map, length, get_or, set, sym, ap, ◌∙◌, arith}
use lib.ListN.{length-map}
use lib.Seq.{take_all}
use Rattle.std.proofs.lemmas.List.{get_or-map}
use Rattle.paper.specs.Chain.{Boards, no_board}
use Rattle.node.specs.Tables.{table}
use Rattle.label.specs.declared.places.Place.{Place}
use Rattle.label.specs.Places.{spelt_at, no_place, place_with, places_with}
use Rattle.label.proofs.SpeltAt.{spelt_most}
use Rattle.label.proofs.Filled.{filled, filled_none, filled_next, filled_all}
use Rattle.label.proofs.places.find_all.Goals as goal

module _ (bs : Boards) where
  abbrev each : List Place
  each = map (place_with spelt_at bs) bs

  long : length each ≡ length bs
  long = length-map bs (place_with spelt_at bs)

  -- board j's places, and the next turn
  turn : (j : ℕ) {ps : List Place} {own fed : ℕ} → j < length bs → length bs ≤ 256 → ps ≡ filled no_place each j → own ≡ spelt_at (get_or bs j no_board).label bs → fed ≡ spelt_at (get_or bs j no_board).feeder bs
      → set ps j (record { own = own; fed = fed }) ≡ filled no_place each (j + 1)
  turn j {own = own} {fed = fed} h few p eo ef =
      ap (λ (x : List Place). set x j (record { own = own; fed = fed })) p
      ∙ filled_next no_place each j (omega (arith, long)) (omega (arith, long)) ((λ i. record { own = eo i; fed = ef i }) ∙ sym (get_or-map (place_with spelt_at bs) bs j no_board no_place h))

  done : (j : ℕ) {ps : List Place} → length bs ≤ j → length bs ≤ 256 → ps ≡ filled no_place each j → ps ≡ places_with spelt_at bs
  unfolding places_with
  done j h few p = p ∙ filled_all no_place each j (omega (arith, long)) ∙ ap (table no_place) (sym (take_all 256 each (omega (arith, long))))

pub loop-j-init : goal.loop-j-init
loop-j-init c = c.requires.1 ∙ filled_none no_place (each c.args.boards.now)

pub overflow_cast-own : goal.overflow_cast-own
overflow_cast-own c =
    let bs = c.args.boards.now in
    record { fits = omega (arith, c.find-own.ensures, spelt_most (get_or bs c.loop-j.j no_board).label bs) }

pub overflow_cast-fed : goal.overflow_cast-fed
overflow_cast-fed c =
    let bs = c.args.boards.now in
    record { fits = omega (arith, c.find-fed.ensures, spelt_most (get_or bs c.loop-j.j no_board).feeder bs) }

pub loop-j-preserved : goal.loop-j-preserved
loop-j-preserved c = turn c.args.boards.now c.loop-j.j (omega arith) c.requires.0 c.loop-j.invariant c.find-own.ensures c.find-fed.ensures

pub returns : goal.returns
returns c = done c.args.boards.now c.loop-j.j (omega arith) c.requires.0 c.loop-j.invariant
