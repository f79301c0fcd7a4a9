-- Where each board's own label, and its feeder's, first stand among the boards. Assumes nothing.
use Rattle.std.specs.Prelude.{ℕ, suc, cond, List, [], ◌∷◌, map, take}
use Rattle.paper.specs.declared.Board.{Board}
use Rattle.paper.specs.Bytes.{same_bytes}
use Rattle.paper.specs.Label.{Label}
use Rattle.paper.specs.Chain.{Boards, place_of}
use Rattle.node.specs.Tables.{table}
use Rattle.label.specs.declared.places.Place.{Place}
use Rattle.label.specs.declared.places.Found.{Found}

-- the first board whose label is these very bytes, or none (0): the paper's `look_from` and `place_of`, with `same_bytes` for `same_label`. (In capitals it is the same place: a theorem, `SpeltAt`)
unfoldable pub spelt_from : ℕ → Label → Boards → ℕ
spelt_from r l [] = 0
spelt_from r l (b ∷ bs) = let later = spelt_from (suc r) l bs in cond (same_bytes l b.label) r later

abbrev pub spelt_at : Label → Boards → ℕ
spelt_at l bs = spelt_from 1 l bs

-- ---- by whichever rule a label's place is found: a board's own and its feeder's among some boards, and those of each board, in a table of 256 (of more boards those of the first 256)
abbrev pub no_place : Place
no_place = record { own = 0; fed = 0 }

abbrev pub place_with : (Label → Boards → ℕ) → Boards → Board → Place
place_with place bs b = record { own = place b.label bs; fed = place b.feeder bs }

unfoldable pub places_with : (Label → Boards → ℕ) → Boards → List Place
places_with place bs = table no_place (take 256 (map (place_with place bs) bs))

-- as the paper looks for labels
unfoldable pub places_of : Boards → List Place
places_of bs = places_with place_of bs

-- the boards' places, and that of the label that is asked for
abbrev pub found_in : Boards → Label → Found
found_in bs l = record { places = places_of bs; asked = place_of l bs }

unfoldable pub places_open : Unit {0}
unfolding spelt_from table places_with places_of
places_open = tt
