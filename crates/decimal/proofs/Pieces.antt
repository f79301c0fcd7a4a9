-- Numbers to a line's end, from the first of those that are left on. Assumes nothing.
use mathlib.Core.Path.{◌≡◌, refl, ap, ◌∙◌, sym}
use mathlib.Core.List.{List, [], ◌∷◌, ◌++◌}
use Prim.Native.Nat.{ℕ, suc, ◌+◌, ◌≤◌, ◌<◌}
use native.Mathlib.Numerals.{add-one}
use lib.IntN.{ℤ, pos}
use lib.ListN.{length, drop, get_or, drop_of_length-le}
use lib.Seq.{drop-cons}
use mir.Syntax.{w64}
use mir.Val.{SFits}
use mir.Facts.{to_z-of_z}
use Rattle.lemmas.proofs.Words.{kept}
use Rattle.decimal.specs.Decimal.{decimal, signed, row}

-- ---- numbers, i of them written
module _ (zs : List ℤ) where
  -- the next, as it is read
  pub next_number : (i : ℕ) → i < length zs → SFits w64 (get_or zs i (pos 0)) → row (drop i zs) ≡ (0x20 ∷ signed (kept (get_or zs i (pos 0)))) ++ row (drop (i + 1) zs)
  unfolding row
  next_number i h f =
      ap row (drop-cons zs i (pos 0) h) ∙ ap (λ (z : ℤ). 0x20 ∷ signed z ++ row (drop (suc i) zs)) (sym (to_z-of_z f))
      ∙ ap (λ (m : ℕ). 0x20 ∷ signed (kept (get_or zs i (pos 0))) ++ row (drop m zs)) (sym (add-one i))

  pub no_number : (i : ℕ) → length zs ≤ i → row (drop i zs) ≡ 0x0A ∷ []
  unfolding row
  no_number i h = ap row (drop_of_length-le zs h)

-- two without a sign, piece by piece
pub pair_pieces : (m n : ℕ) → row (pos m ∷ pos n ∷ []) ≡ (0x20 ∷ decimal m) ++ ((0x20 ∷ decimal n) ++ (0x0A ∷ []))
unfolding row signed
pair_pieces m n = refl
