-- 01, 'Figures worked through', its end: what the program prints, byte for byte. Assumes nothing.
use Rattle.std.specs.Prelude.{List, [], ◌∷◌, ◌++◌, ℕ, suc, ◌+◌, ◌*◌, ℤ}
use Rattle.std.proofs.Math.Option.{Option, none, some}
use Rattle.decimal.specs.Decimal.{decimal_open}
use Rattle.lines.specs.Lines.{line, fault_line, refused_text, three_lines, lines_open}
use Rattle.lines.specs.Boards.{board_lines, boards_open}
use Rattle.paper.specs.declared.Fault.{Fault}
use Rattle.paper.specs.declared.Refusal.{Refusal}
use Rattle.paper.specs.Bytes.{text}
use Rattle.paper.specs.Chain.{Boards}
use Rattle.paper.specs.Refusal.{refusal, answer_size}
use Rattle.paper.specs.Phase.{Asked, asked, the_d, fault_currents, board_voltages, record_currents}
use Rattle.paper.specs.Amps.{amps}

-- "Then D; then what, phase, four numbers."
unfoldable pub current_lines : ℤ → List (List ℤ) → List ℕ
current_lines d currents = line (text "D") (d ∷ []) ++ three_lines (text "I ") currents

unfoldable pub top_lines : Fault → ℕ → ℤ → List (List ℤ) → List ℕ
top_lines f n d currents = fault_line f.label f.kind f.phase n ++ current_lines d currents

module _ (q : Asked) where
  open q use {boards, fault}

  -- "boards follow in file order": those from place r on
  unfoldable pub boards_lines : ℕ → Boards → List ℕ
  boards_lines r [] = []
  boards_lines r (b ∷ bs) = board_lines b.label (board_voltages q r) (record_currents q r) ++ boards_lines (suc r) bs

  unfoldable pub accepted_text : List ℕ
  accepted_text = top_lines fault (amps q) (the_d q) (fault_currents q) ++ boards_lines 1 boards

unfoldable pub text_of : Option Refusal → Asked → List ℕ
text_of none q = accepted_text q
text_of (some r) q = refused_text r.number r.place

-- the program has room for the numbers of 256 boards
abbrev pub room : ℕ
room = answer_size 256

unfoldable pub printed : List ℕ → List ℕ → List ℕ
printed net flt = text_of (refusal net flt room) (asked net flt)

-- no text is longer (proofs/, `printed_most`): six lines of 105 bytes at most for each of 256 boards, and the lines above them
abbrev pub text_most : ℕ
text_most = 385 + 630 * 256

unfoldable pub text_open : Unit {0}
unfolding decimal_open lines_open boards_open current_lines top_lines boards_lines accepted_text text_of printed
text_open = tt
