-- 02, R-4: "It is proved that the answer is true": what the theorems say (proofs/Truth.antt). Assumes nothing.
use Rattle.std.specs.Prelude.{true, false, List, [], ◌∷◌, ◌++◌, ◌≡◌, ℕ, ◌≤◌}
use Rattle.std.proofs.Math.Option.{none}
use Rattle.paper.specs.Bytes.{cut, one_of}
use Rattle.paper.specs.Label.{Label}
use Rattle.paper.specs.File.{head_of, board_size, start_of, boards_of}
use Rattle.paper.specs.Chain.{Boards, board, place_of, chain, unearthed}
use Rattle.paper.specs.Refusal.{network_refusal}
use Rattle.paper.specs.Return.{earth_return_from, none_stopped_at, earth_said}

-- the board that a label names
abbrev pub named : List ℕ → Label → ℕ
named net l = place_of l (boards_of net)

-- the bytes of record r
abbrev pub record_at : List ℕ → ℕ → List ℕ
record_at net r = cut net (start_of r) board_size

abbrev pub OfKind : Boards → List ℕ → ℕ → Type 0
OfKind bs kinds r = one_of (board bs r).kind kinds ≡ true

-- ---- record r is on the chain of the board, it is of one of these kinds, and every record from the board up to it, r aside, is of kind 2 or 3
pub record Reached (bs : Boards) (k r : ℕ) (kinds : List ℕ) : Type 0 where
  pub below : List ℕ
  pub above : List ℕ
  pub way : chain bs k ≡ below ++ (r ∷ above)
  pub through : (i : ℕ) → one_of i below ≡ true → OfKind bs (2 ∷ 3 ∷ []) i
  pub of_kind : OfKind bs kinds r

-- "earth return from record r", r being where the zero sequence starts
abbrev pub FromTrue : Type 0
FromTrue = (net : List ℕ) (l : Label) (r : ℕ) → earth_said net l ≡ earth_return_from r → (unearthed (boards_of net) (named net l) ≡ false) × Reached (boards_of net) (named net l) r (0 ∷ 4 ∷ [])

-- "none, stopped at record r", r being the nearest record on the chain, going from the board to the source, of kind 1 or 5
abbrev pub StoppedTrue : Type 0
StoppedTrue = (net : List ℕ) (l : Label) (r : ℕ) → earth_said net l ≡ none_stopped_at r → (unearthed (boards_of net) (named net l) ≡ true) × Reached (boards_of net) (named net l) r (1 ∷ 5 ∷ [])

-- ---- "changing any record off that chain, so long as the file is still accepted": any number of them, their bytes at will, N as it was
pub record ChangedOff (net changed : List ℕ) (k : ℕ) : Type 0 where
  pub as_many : (head_of changed).boards ≡ (head_of net).boards
  pub chain_kept : (r : ℕ) → one_of r (chain (boards_of net) k) ≡ true → record_at changed r ≡ record_at net r
  pub accepted : network_refusal changed ≡ none

-- "leaves the board without earth return": the label still names that board, it has none, and the same record is to blame
pub record StillNone (changed : List ℕ) (l : Label) (k r : ℕ) : Type 0 where
  pub same_board : named changed l ≡ k
  pub no_return : unearthed (boards_of changed) k ≡ true
  pub same_record : earth_said changed l ≡ none_stopped_at r

abbrev pub StaysNone : Type 0
StaysNone = (net changed : List ℕ) (l : Label) (r : ℕ) → earth_said net l ≡ none_stopped_at r → ChangedOff net changed (named net l) → StillNone changed l (named net l) r

-- ---- and the statement says something: on the chain a change may give the board an earth return, all other records as they were
pub record Cured (net changed : List ℕ) (l : Label) : Type 0 where
  pub as_many : (head_of changed).boards ≡ (head_of net).boards
  pub rest_kept : (r : ℕ) → 1 ≤ r → r ≤ (head_of net).boards → one_of r (chain (boards_of net) (named net l)) ≡ false → record_at changed r ≡ record_at net r
  pub had_none : (r : ℕ) × (earth_said net l ≡ none_stopped_at r)
  pub has_one : (r : ℕ) × (earth_said changed l ≡ earth_return_from r)
