-- Of the first j boards, both places are filled in.
use Rattle.std.proofs.Common.{◌≡◌, map}
use Rattle.label.specs.Places.{spelt_at, no_place, place_with}
use Rattle.label.proofs.Filled.{filled}
use Rattle.label.proofs.places.find_all.Given as goal

abbrev pub invariant-loop-j : goal.invariant-loop-j
invariant-loop-j l = l.places ≡ filled no_place (map (place_with spelt_at l.boards) l.boards) l.j
