-- 01, 'Figures worked through', its end: the lines that the program prints, byte for byte. Assumes nothing.
use Rattle.std.specs.Prelude.{List, [], ◌∷◌, ◌++◌, ℕ, suc, ℤ, pos, take, drop}
use Rattle.decimal.specs.Decimal.{row}
use Rattle.paper.specs.Bytes.{text}
use Rattle.paper.specs.Label.{Label}
use Rattle.lines.specs.Name.{unspaced}

-- what stands in front, then numbers
unfoldable pub line : List ℕ → List ℤ → List ℕ
line front zs = front ++ row zs

-- "First line: label, kind, phase, amps."
unfoldable pub fault_line : Label → ℕ → ℕ → ℕ → List ℕ
fault_line l kind phase amps = line (text "FAULT " ++ unspaced l) (pos kind ∷ pos phase ∷ pos amps ∷ [])

-- "A refusal is one line: REFUSED, number, place."
unfoldable pub refused_text : ℕ → ℕ → List ℕ
refused_text number place = line (text "REFUSED") (pos number ∷ pos place ∷ [])

-- ---- three phases
-- "what, phase, four numbers", a line for each phase from a letter on
unfoldable pub phase_lines : List ℕ → ℕ → List (List ℤ) → List ℕ
phase_lines what letter [] = []
phase_lines what letter (zs ∷ more) = line (what ++ (letter ∷ [])) zs ++ phase_lines what (suc letter) more

-- from a on
unfoldable pub three_lines : List ℕ → List (List ℤ) → List ℕ
three_lines what phases = phase_lines what 0x61 phases

-- "three phases, each of four whole numbers", as they lie one behind the other in the answer buffer
unfoldable pub fours : List ℤ → List (List ℤ)
fours zs = take 4 zs ∷ take 4 (drop 4 zs) ∷ take 4 (drop 8 zs) ∷ []

unfoldable pub lines_open : Unit {0}
unfolding unspaced line fault_line refused_text phase_lines three_lines fours
lines_open = tt
