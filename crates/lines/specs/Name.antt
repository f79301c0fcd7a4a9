-- 01, 'Figures worked through', its end: a label as the program prints it. Assumes nothing.
use Rattle.std.specs.Prelude.{cond, List, [], ◌∷◌, ℕ}
use Rattle.paper.specs.Label.{Label, blank}

-- "Labels are printed without their closing spaces"
unfoldable pub unspaced : Label → List ℕ
unspaced [] = []
unspaced (x ∷ xs) = let rest = unspaced xs in cond (blank (x ∷ xs)) [] (x ∷ rest)
