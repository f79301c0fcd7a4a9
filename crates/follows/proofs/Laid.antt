-- Where the numbers of an accepted call lie: D and the fault's currents before those of the boards, and 24 to a board. Assumes nothing.
use mathlib.Core.List.{List, ◌++◌}
use mathlib.Core.Path.{◌≡◌, refl, ◌∙◌}
use Prim.Native.Nat.{ℕ, zero, suc, ◌*◌}
use native.Mathlib.Omega.{arith}
use lib.IntN.{ℤ}
use lib.ListN.{length, drop, length-append}
use Rattle.paper.specs.Phase.{Asked, phases, fault_currents, board_voltages, record_currents}
use Rattle.paper.specs.Answer.{flat, of_board, of_boards, numbers}

module _ (q : Asked) where
  -- "The 24 numbers of board r start at place 13 + 24(r - 1)"
  pub behind_top : (rest : List ℤ) → drop 13 (numbers q ++ rest) ≡ of_boards q 1 (length q.boards) ++ rest
  unfolding numbers flat fault_currents phases
  behind_top rest = refl

  pub board_size_lem : (r : ℕ) → length (of_board q r) ≡ 24
  unfolding of_board flat board_voltages record_currents phases
  board_size_lem r = refl

  pub boards_size : (r n : ℕ) → length (of_boards q r n) ≡ 24 * n
  unfolding of_boards
  boards_size r zero = refl
  boards_size r (suc n) = length-append (of_board q r) (of_boards q (suc r) n) ∙ omega (arith, board_size_lem r, boards_size (suc r) n)
