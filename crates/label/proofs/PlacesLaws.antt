-- What `places_of` says of each board, and what a place among all boards says of those before a board. Assumes nothing.
use Rattle.std.proofs.Common.{map, ◌≡◌, ℕ, zero, suc, ◌<◌, ◌≤◌, List, cond, leb, ◌++◌, length, get_or, take, refl, ap, ◌∙◌, arith, le-leb}
use borrow.Author.Tests.{lt-leb}
use lib.ListN.{length-map}
use lib.Seq.{take_all}
use Rattle.std.proofs.lemmas.List.{get_or-map, length-take}
use Rattle.paper.specs.Label.{Label}
use Rattle.paper.specs.Chain.{Boards, no_board, look_from, place_of}
use Rattle.follows.proofs.Places.{Looked, missing, found, looked, place_most, place_stays, place_behind}
use Rattle.label.specs.declared.places.Place.{Place}
use Rattle.node.specs.Tables.{table}
use Rattle.node.proofs.Tables.{table_length, table_at}
use Rattle.label.specs.Places.{no_place, place_with, places_with, places_of}

module _ (bs : Boards) where
  abbrev each : List Place
  each = map (place_with place_of bs) bs

  -- as many places as a table has, however many boards there are
  pub places_long : length (places_of bs) ≡ 256
  unfolding places_of places_with
  places_long = table_length no_place (take 256 each) (omega (arith, length-take 256 each))

  pub places_at : (i : ℕ) → length bs ≤ 256 → i < length bs → get_or (places_of bs) i no_place ≡ place_with place_of bs (get_or bs i no_board)
  unfolding places_of places_with
  places_at i few h =
      let long : length each ≡ length bs = length-map bs (place_with place_of bs) in
      ap (λ (ps : List Place). get_or (table no_place ps) i no_place) (take_all 256 each (omega (arith, long)))
      ∙ table_at no_place each i no_place (omega (arith, long)) ∙ get_or-map (place_with place_of bs) bs i no_board no_place h

-- the place of a label among the boards before is its place among all, where that is one of theirs
pub place_before : (l : Label) (before rest : Boards) → place_of l before ≡ cond (leb (place_of l (before ++ rest)) (length before)) (place_of l (before ++ rest)) 0
place_before l before rest = go (place_of l before) refl
  where
    behind : Looked (suc (length before)) l rest → (p : ℕ) → p ≡ look_from (suc (length before)) l rest → 0 ≡ cond (leb p (length before)) p 0
    behind (missing m d) p e = rw (e ∙ m, le-leb 0 (length before) (omega arith)) refl
    behind (found i h m s d) p e = rw (lt-leb p (length before) (omega arith)) refl

    go : (p : ℕ) → place_of l before ≡ p → place_of l before ≡ cond (leb (place_of l (before ++ rest)) (length before)) (place_of l (before ++ rest)) 0
    go zero e = e ∙ behind (looked (suc (length before)) l rest) (place_of l (before ++ rest)) (place_behind l before rest e)
    go (suc p) e = rw (place_stays l before rest (omega arith), le-leb (place_of l before) (length before) (place_most l before)) refl
