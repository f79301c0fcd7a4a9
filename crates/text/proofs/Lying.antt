-- The numbers of an accepted call, as they lie in the buffer, give the paper's text. Assumes nothing.
use mathlib.Core.List.{List, [], ◌∷◌, ◌++◌, append_assoc}
use mathlib.Core.Path.{◌≡◌, refl, ap, ◌∙◌}
use Prim.Native.Nat.{ℕ, suc, ◌+◌, ◌*◌, ◌≤◌}
use native.Mathlib.Omega.{arith}
use lib.IntN.{ℤ}
use lib.ListN.{length, drop, length-append}
use Rattle.paper.specs.declared.Fault.{Fault}
use Rattle.paper.specs.Chain.{Boards}
use Rattle.paper.specs.Phase.{Asked, the_d, phases, fault_currents, board_voltages, record_currents}
use Rattle.paper.specs.Answer.{flat, of_board, of_boards, numbers}
use Rattle.follows.proofs.Laid.{boards_size}
use Rattle.lines.specs.Lines.{fours}
use Rattle.lines.specs.Boards.{board_lines, board_lying, boards_lying}
use Rattle.text.specs.Text.{top_lines, boards_lines}
use Rattle.text.specs.Lying.{top_lying}

module _ (q : Asked) (rest : List ℤ) where
  -- "D at place 0, then the fault currents"
  pub top_lying_lem : (f : Fault) (n : ℕ) → top_lying f n (numbers q ++ rest) ≡ top_lines f n (the_d q) (fault_currents q)
  unfolding top_lying fours numbers flat fault_currents phases
  top_lying_lem f n = refl

  board_lying_lem : (l : List ℕ) (r : ℕ) (more : List ℤ) → board_lying l (of_board q r ++ more) ≡ board_lines l (board_voltages q r) (record_currents q r)
  unfolding board_lying fours of_board flat board_voltages record_currents phases
  board_lying_lem l r more = refl

  behind_board : (r : ℕ) (more : List ℤ) → drop 24 (of_board q r ++ more) ≡ more
  unfolding of_board flat board_voltages record_currents phases
  behind_board r more = refl

  pub boards_lying_lem : (r : ℕ) (bs : Boards) → boards_lying bs (of_boards q r (length bs) ++ rest) ≡ boards_lines q r bs
  unfolding boards_lying of_boards boards_lines
  boards_lying_lem r [] = refl
  boards_lying_lem r (b ∷ bs) =
      let more = of_boards q (suc r) (length bs) ++ rest in
      ap (λ (zs : List ℤ). board_lying b.label zs ++ boards_lying bs (drop 24 zs)) (append_assoc (of_board q r) (of_boards q (suc r) (length bs)) rest)
      ∙ ap (λ (zs : List ℤ). board_lying b.label (of_board q r ++ more) ++ boards_lying bs zs) (behind_board r more)
      ∙ ap (λ (x : List ℕ). x ++ boards_lying bs more) (board_lying_lem b.label r more)
      ∙ ap (λ (x : List ℕ). board_lines b.label (board_voltages q r) (record_currents q r) ++ x) (boards_lying_lem (suc r) bs)

  pub numbers_size : 13 + 24 * length q.boards ≤ length (numbers q ++ rest)
  unfolding numbers flat fault_currents phases
  numbers_size = omega (arith, boards_size q 1 (length q.boards), length-append (of_boards q 1 (length q.boards)) rest)
