-- The lines above the boards, of numbers as they lie one behind the other in the answer buffer, for the functions that are lent them (proofs/, `top_lying_lem`:
-- it is the paper's). Assumes nothing.
use Rattle.std.specs.Prelude.{◌≡◌, List, ℕ, ℤ, pos, length, drop, get_or}
use Rattle.lines.specs.Lines.{fours}
use Rattle.paper.specs.declared.Fault.{Fault}
use Rattle.paper.specs.Answer.{written}
use Rattle.text.specs.Text.{current_lines, top_lines, room}

-- "D at place 0, then the fault currents of phases a, b, c"
unfoldable pub currents_lying : List ℤ → List ℕ
currents_lying zs = current_lines (get_or zs 0 (pos 0)) (fours (drop 1 zs))

unfoldable pub top_lying : Fault → ℕ → List ℤ → List ℕ
top_lying f n zs = top_lines f n (get_or zs 0 (pos 0)) (fours (drop 1 zs))

-- ---- the answer buffer after a call
-- the numbers are those that the paper says a call leaves in a buffer with room for 256 boards
pub record Answered (net flt : List ℕ) (zs : List ℤ) : Type 0 where
  pub old : List ℤ
  pub size : length old ≡ room
  pub is : zs ≡ written net flt old
