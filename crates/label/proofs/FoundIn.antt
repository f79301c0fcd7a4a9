-- What a search among boards in capitals gives: the places as the paper has them. Assumes nothing.
use Rattle.std.proofs.Common.{List, ◌≡◌, ℕ, ◌^◌, ◌<◌, ◌≤◌, map, length, ap, ◌∙◌, arith}
use Rattle.paper.specs.Label.{Label, capitals}
use Rattle.paper.specs.Chain.{Boards, place_of}
use Rattle.follows.proofs.Places.{place_most}
use Rattle.label.specs.declared.places.Place.{Place}
use Rattle.follows.specs.Capitals.{board_in_capitals}
use Rattle.label.specs.Places.{spelt_at, places_with, found_in}
use Rattle.label.proofs.SpeltAt.{place_capitals, places_capitals}

module _ (bs : Boards) (l : Label) {ups : Boards} {wanted : Label} (e : ups ≡ map board_in_capitals bs) (f : wanted ≡ capitals l) where
  asked_is : {k : ℕ} → k ≡ spelt_at wanted ups → k ≡ place_of l bs
  asked_is g = g ∙ (λ i. spelt_at (f i) (e i)) ∙ place_capitals l bs

  pub asked_fits : {k : ℕ} → length bs ≤ 256 → k ≡ spelt_at wanted ups → k < 2 ^ 16
  asked_fits few g = omega (arith, asked_is g, place_most l bs)

  pub found_is : {p : List Place} {k : ℕ} → p ≡ places_with spelt_at ups → k ≡ spelt_at wanted ups → record { places = p; asked = k } ≡ found_in bs l
  found_is g h = λ i. record { places = (g ∙ ap (places_with spelt_at) e ∙ places_capitals bs) i; asked = asked_is h i }
