-- 01, 'Files', and 02, R-3: labels. Assumes nothing.
use Rattle.std.specs.Prelude.{Bool, true, false, cond, ◌&&◌, List, [], ◌∷◌, map, ℕ, ◌-◌, eqb, replicate}
use Rattle.paper.specs.Bytes.{same_bytes, within}

abbrev pub Label : Type 0
Label = List ℕ

-- "twelve spaces"
unfoldable pub spaces : Label
spaces = replicate 12 0x20

-- "A label is 1 to 12 bytes from 0x21 to 0x7E, then spaces (0x20) to the end."
unfoldable pub blank : Label → Bool
blank [] = true
blank (x ∷ xs) = let rest = blank xs in eqb x 0x20 && rest

unfoldable pub visible_then_blank : Label → Bool
visible_then_blank [] = true
visible_then_blank (x ∷ xs) = let rest = visible_then_blank xs in cond (within 0x21 0x7E x) rest (blank (x ∷ xs))

unfoldable pub formed : Label → Bool
formed [] = false
formed (x ∷ xs) = within 0x21 0x7E x && visible_then_blank xs

-- "a to z are read as A to Z": a byte's capital
unfoldable pub capital : ℕ → ℕ
capital x = cond (within 0x61 0x7A x) (x - 0x20) x

abbrev pub capitals : Label → Label
capitals l = map capital l

-- "Labels are now equal when all twelve bytes agree after a to z are read as A to Z". The one definition of it
unfoldable pub same_label : Label → Label → Bool
same_label a b = same_bytes (capitals a) (capitals b)

unfoldable pub label_open : Unit {0}
unfolding spaces blank visible_then_blank formed capital same_label
label_open = tt
