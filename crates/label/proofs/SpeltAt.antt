-- Looking for a label's very bytes: how far a place goes, and the place that is counted from 0. And in capitals: the places found so are the paper's. Assumes nothing.
use Rattle.std.proofs.Common.{◌≡◌, ℕ, suc, ◌+◌, ◌≤◌, Bool, true, false, cond, List, [], ◌∷◌, map, length, take, refl, ap, ◌∙◌, arith, Some, None, add-one, sym}
use Rattle.std.specs.List.{position, position_from}
use Rattle.std.proofs.lemmas.Option.{none-some}
use Rattle.std.proofs.lemmas.Iterator.Adapters.{position_from-zero}
use Rattle.paper.specs.declared.Board.{Board}
use Rattle.paper.specs.Bytes.{same_bytes}
use Rattle.paper.specs.Label.{Label, capitals, same_label}
use Rattle.paper.specs.Chain.{Boards, look_from, place_of}
use Rattle.follows.specs.Capitals.{board_in_capitals}
use Rattle.node.specs.Tables.{table}
use Rattle.label.specs.declared.places.Place.{Place}
use Rattle.label.specs.Places.{spelt_from, spelt_at, no_place, place_with, places_with, places_of}

-- ---- a place is none, or one of the boards'
within : (r : ℕ) (l : Label) (bs : Boards) → spelt_from (suc r) l bs ≤ r + length bs
unfolding spelt_from
within r l [] = omega arith
within r l (b ∷ bs) = go (same_bytes l b.label) (within (suc r) l bs)
  where
    go : (t : Bool) → spelt_from (suc (suc r)) l bs ≤ suc r + length bs → cond t (suc r) (spelt_from (suc (suc r)) l bs) ≤ r + suc (length bs)
    go true h = omega arith
    go false h = omega arith

pub spelt_most : (l : Label) (bs : Boards) → spelt_at l bs ≤ length bs
spelt_most l bs = omega (arith, within 0 l bs)

-- ---- the place that a search finds which counts from 0
module _ (l : Label) where
  abbrev has : Board → Bool
  has b = same_bytes l b.label

  from_found : (r : ℕ) (bs : Boards) {i : ℕ} → position_from has r bs ≡ Some i → spelt_from (suc r) l bs ≡ suc i
  unfolding spelt_from
  from_found r [] {i} e = absurd (none-some i e)
  from_found r (b ∷ bs) {i} e = go (has b) e (λ d. from_found (suc r) bs (rw add-one at d))
    where
      go : (t : Bool) → cond t (Some r) (position_from has (r + 1) bs) ≡ Some i → (position_from has (r + 1) bs ≡ Some i → spelt_from (suc (suc r)) l bs ≡ suc i)
          → cond t (suc r) (spelt_from (suc (suc r)) l bs) ≡ suc i
      go true d rest = ap suc cc
      go false d rest = rest d

  from_missing : (r : ℕ) (bs : Boards) → position_from has r bs ≡ None → spelt_from (suc r) l bs ≡ 0
  unfolding spelt_from
  from_missing r [] e = refl
  from_missing r (b ∷ bs) e = go (has b) e (λ d. from_missing (suc r) bs (rw add-one at d))
    where
      go : (t : Bool) → cond t (Some r) (position_from has (r + 1) bs) ≡ None → (position_from has (r + 1) bs ≡ None → spelt_from (suc (suc r)) l bs ≡ 0)
          → cond t (suc r) (spelt_from (suc (suc r)) l bs) ≡ 0
      go true d rest = absurd (none-some r (sym d))
      go false d rest = rest d

  pub spelt_found : (bs : Boards) {i : ℕ} → position has bs ≡ Some i → i + 1 ≡ spelt_at l bs
  spelt_found bs e = rw add-one (sym (from_found 0 bs (sym (position_from-zero has bs) ∙ e)))

  -- none has
  pub spelt_missing : (bs : Boards) → position has bs ≡ None → 0 ≡ spelt_at l bs
  spelt_missing bs e = sym (from_missing 0 bs (sym (position_from-zero has bs) ∙ e))

-- ---- in capitals
look_capitals : (r : ℕ) (l : Label) (bs : Boards) → spelt_from r (capitals l) (map board_in_capitals bs) ≡ look_from r l bs
unfolding spelt_from look_from same_label
look_capitals r l [] = refl
look_capitals r l (b ∷ bs) = λ i. cond (same_bytes (capitals l) (capitals b.label)) r (look_capitals (suc r) l bs i)

-- labels in capitals, looked for by their bytes, stand where the paper finds them
pub place_capitals : (l : Label) (bs : Boards) → spelt_at (capitals l) (map board_in_capitals bs) ≡ place_of l bs
place_capitals l bs = look_capitals 1 l bs

-- both places of each of some boards, among all of them
each_capitals : (all bs : Boards) → map (place_with spelt_at (map board_in_capitals all)) (map board_in_capitals bs) ≡ map (place_with place_of all) bs
each_capitals all [] = refl
each_capitals all (b ∷ bs) = λ i. record { own = place_capitals b.label all i; fed = place_capitals b.feeder all i } ∷ each_capitals all bs i

pub places_capitals : (bs : Boards) → places_with spelt_at (map board_in_capitals bs) ≡ places_of bs
unfolding places_of places_with
places_capitals bs = ap (λ (ps : List Place). table no_place (take 256 ps)) (each_capitals bs bs)
