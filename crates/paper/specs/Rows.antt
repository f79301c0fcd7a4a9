-- 01, 'What the caller gets': what a row of the refusal table is, and the order in which the rows are tried. Assumes nothing.
use Rattle.std.specs.Prelude.{Bool, cond, List, [], ◌∷◌, ℕ}
use Rattle.std.proofs.Math.Option.{Option, none, some}
use Rattle.paper.specs.declared.Part.{Part}
use Rattle.paper.specs.declared.Refusal.{Refusal}

-- a rule: its number, and whether it is broken
pub data Test : Type 0 where
  test : ℕ → Bool → Test

-- a row of the table: "No.", "Tested in this order", "Place", "Part"
pub data Row : Type 0 where
  row : ℕ → Bool → ℕ → Part → Row

-- rules that share a place and a part
unfoldable pub rows_at : ℕ → Part → List Test → List Row
rows_at p s [] = []
rows_at p s (test n b ∷ ts) = row n b p s ∷ rows_at p s ts

-- "Tested in this order": the first row that tests true
unfoldable pub first : List Row → Option Refusal
first [] = none
first (row n b p s ∷ rest) = let later = first rest in cond b (some (record { part = s; place = p; number = n })) later

unfoldable pub rows_open : Unit {0}
unfolding rows_at first
rows_open = tt
