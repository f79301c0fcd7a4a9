-- Lines, piece by piece as they are written. Assumes nothing.
use mathlib.Core.Path.{◌≡◌, refl, ◌∙◌}
use mathlib.Core.List.{List, [], ◌∷◌, ◌++◌, append_assoc, append-nil}
use Prim.Native.Nat.{ℕ}
use lib.IntN.{ℤ, pos}
use lib.ListN.{take, drop}
use Rattle.decimal.specs.Decimal.{decimal, signed, row}
use Rattle.paper.specs.Bytes.{text}
use Rattle.lines.specs.Name.{unspaced}
use Rattle.lines.specs.Lines.{line, fault_line, refused_text, phase_lines, three_lines, fours}

-- ---- words as the code writes them
abbrev refused_word : List ℕ
refused_word = 0x52 ∷ 0x45 ∷ 0x46 ∷ 0x55 ∷ 0x53 ∷ 0x45 ∷ 0x44 ∷ []

abbrev fault_word : List ℕ
fault_word = 0x46 ∷ 0x41 ∷ 0x55 ∷ 0x4C ∷ 0x54 ∷ 0x20 ∷ []

pub refused_pieces : (number place : ℕ) → refused_text number place ≡ refused_word ++ row (pos number ∷ pos place ∷ [])
unfolding refused_text line text
refused_pieces number place = refl

pub fault_pieces : (l : List ℕ) (kind phase amps : ℕ)
    → fault_line l kind phase amps ≡ fault_word ++ (unspaced l ++ ((0x20 ∷ decimal kind) ++ row (pos phase ∷ pos amps ∷ [])))
unfolding fault_line line row signed text
fault_pieces l kind phase amps = append_assoc fault_word (unspaced l) (row (pos kind ∷ pos phase ∷ pos amps ∷ []))

-- ---- phases
pub phase_pieces : (whose what : List ℕ) (letter : ℕ) (zs : List ℤ) → line ((whose ++ what) ++ (letter ∷ [])) zs ≡ whose ++ (what ++ (letter ∷ row zs))
unfolding line
phase_pieces whose what letter zs = append_assoc (whose ++ what) (letter ∷ []) (row zs) ∙ append_assoc whose what (letter ∷ row zs)

pub three_pieces : (what : List ℕ) (zs : List ℤ)
    → three_lines what (fours zs) ≡ line (what ++ (0x61 ∷ [])) (take 4 zs) ++ (line (what ++ (0x62 ∷ [])) (take 4 (drop 4 zs)) ++ line (what ++ (0x63 ∷ [])) (take 4 (drop 8 zs)))
unfolding three_lines phase_lines fours
three_pieces what zs = rw (append-nil (line (what ++ (0x63 ∷ [])) (take 4 (drop 8 zs))))
