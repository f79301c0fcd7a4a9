-- 01, 'Figures worked through', its end: the lines of the boards. Assumes nothing.
use Rattle.std.specs.Prelude.{List, [], ◌∷◌, ◌++◌, ℕ, ℤ, drop}
use Rattle.lines.specs.Name.{unspaced}
use Rattle.lines.specs.Lines.{three_lines, fours}
use Rattle.paper.specs.Bytes.{text}
use Rattle.paper.specs.Label.{Label}
use Rattle.paper.specs.Chain.{Boards}

-- a board's: its voltages, then its record's currents
unfoldable pub board_lines : Label → List (List ℤ) → List (List ℤ) → List ℕ
board_lines l voltages currents = three_lines (unspaced l ++ text " V ") voltages ++ three_lines (unspaced l ++ text " I ") currents

-- ---- of numbers as they lie one behind the other in the answer buffer (crate text, `boards_lying_lem`: it is the paper's)
-- "The 24 numbers of board r ..: voltages a, b, c, then record currents a, b, c."
unfoldable pub board_lying : Label → List ℤ → List ℕ
board_lying l zs = board_lines l (fours zs) (fours (drop 12 zs))

unfoldable pub boards_lying : Boards → List ℤ → List ℕ
boards_lying [] zs = []
boards_lying (b ∷ bs) zs = board_lying b.label zs ++ boards_lying bs (drop 24 zs)

unfoldable pub boards_open : Unit {0}
unfolding board_lines board_lying boards_lying
boards_open = tt
