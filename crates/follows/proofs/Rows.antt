-- No row tested true: then each tested false; what holds of each row; and rows behind others. Assumes nothing.
use mathlib.Core.Bool.{true, false}
use mathlib.Core.List.{List, [], ◌∷◌, ◌++◌}
use mathlib.Core.Option.{Option, none, some}
use mathlib.Core.Path.{◌≡◌, refl, sym, ◌∙◌, ap, subst}
use Prim.Native.Nat.{ℕ}
use Rattle.paper.specs.declared.Part.{Part}
use Rattle.paper.specs.declared.Refusal.{Refusal}
use Rattle.paper.specs.Rows.{Test, test, Row, row, rows_at, first}

pub some_none : {r : Refusal} → some r ≡ none → ⊥
some_none e = subst Is e tt
  where
    Is : Option Refusal → Type 0
    Is none = ⊥
    Is (some r) = Unit {0}

-- each test of a list false, in its order
abbrev pub Clear : List Test → Type 0
Clear [] = Unit {0}
Clear (test n b ∷ ts) = (b ≡ false) × Clear ts

abbrev pub tests_of : List Row → List Test
tests_of [] = []
tests_of (row n b p s ∷ rest) = test n b ∷ tests_of rest

pub clear : (rows : List Row) → first rows ≡ none → Clear (tests_of rows)
unfolding first
clear [] e = tt
clear (row n true p s ∷ rest) e = absurd (some_none e)
clear (row n false p s ∷ rest) e = (refl, clear rest e)

tests_at : (p : ℕ) (s : Part) (ts : List Test) → tests_of (rows_at p s ts) ≡ ts
unfolding rows_at
tests_at p s [] = refl
tests_at p s (test n b ∷ ts) = ap (λ l. test n b ∷ l) (tests_at p s ts)

pub clear_at : (p : ℕ) (s : Part) (ts : List Test) → first (rows_at p s ts) ≡ none → Clear ts
clear_at p s ts e = subst Clear (tests_at p s ts) (clear (rows_at p s ts) e)

-- ---- what holds of each row
abbrev pub Each : (Row → Type 0) → List Row → Type 0
Each P [] = Unit {0}
Each P (r ∷ rows) = P r × Each P rows

pub each_behind : (P : Row → Type 0) (rows later : List Row) → Each P rows → Each P later → Each P (rows ++ later)
each_behind P [] later h k = k
each_behind P (r ∷ rows) later h k = (h.0, each_behind P rows later h.1 k)

-- ---- rows behind others: they are asked where none of these tests true
infixr 20 ◌then◌
unfoldable pub ◌then◌ : Option Refusal → Option Refusal → Option Refusal
none then later = later
some r then later = some r

pub first_then : (rows later : List Row) → first (rows ++ later) ≡ first rows then first later
unfolding first ◌then◌
first_then [] later = refl
first_then (row n true p s ∷ rows) later = refl
first_then (row n false p s ∷ rows) later = first_then rows later

module _ (rows later : List Row) where
  -- what the whole gives, by what the rows before give
  given : {o : Option Refusal} → first rows ≡ o → first (rows ++ later) ≡ o then first later
  given e = first_then rows later ∙ ap (λ o. o then first later) e

  pub behind : first rows ≡ none → first (rows ++ later) ≡ first later
  unfolding ◌then◌
  behind e = given e

  pub ahead : {r : Refusal} → first rows ≡ some r → first (rows ++ later) ≡ some r
  unfolding ◌then◌
  ahead e = given e

  pub both_none : first (rows ++ later) ≡ none → (first rows ≡ none) × (first later ≡ none)
  unfolding ◌then◌
  both_none e = go (first rows) (sym (first_then rows later) ∙ e)
    where
      go : (o : Option Refusal) → o then first later ≡ none → (o ≡ none) × (first later ≡ none)
      go none e = (refl, e)
      go (some r) e = absurd (some_none e)
