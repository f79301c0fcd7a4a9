-- Assumes nothing.
use Rattle.std.specs.Prelude.{List, [], ◌∷◌, ℤ, pos, get_or}

-- the four numbers of an array of four
unfoldable pub four_of : List ℤ → List ℤ
four_of v = get_or v 0 (pos 0) ∷ get_or v 1 (pos 0) ∷ get_or v 2 (pos 0) ∷ get_or v 3 (pos 0) ∷ []
