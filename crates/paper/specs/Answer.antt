-- 01, 'What the caller gets': the answer, and the buffer afterwards. Assumes nothing.
use Rattle.std.specs.Prelude.{List, [], ◌∷◌, ◌++◌, ℕ, zero, suc, ℤ, length, drop}
use Rattle.std.proofs.Math.Option.{Option, none, some}
use Rattle.turn.specs.Number.{◌+N◌, neg_n, ◌·N◌, times_t, ◌*N◌, power_n, conj_n, square_n}
use Rattle.paper.specs.declared.Answer.{Answer}
use Rattle.paper.specs.declared.Refusal.{Refusal}
use Rattle.paper.specs.Refusal.{refusal, the_record, answer_size}
use Rattle.paper.specs.Phase.{Asked, asked, the_d, fault_currents, board_voltages, record_currents}
use Rattle.paper.specs.Amps.{amps}
use Rattle.paper.specs.Bytes.{bytes_open}
use Rattle.paper.specs.Label.{label_open}
use Rattle.paper.specs.Kind.{kind_open}
use Rattle.paper.specs.File.{file_open}
use Rattle.paper.specs.Chain.{chain_open}
use Rattle.paper.specs.Rows.{rows_open}
use Rattle.paper.specs.Refusal.{refusal_open}
use Rattle.paper.specs.Fault.{fault_open}
use Rattle.paper.specs.Phase.{phase_open}
use Rattle.paper.specs.Amps.{amps_open}

-- ---- the buffer
-- the numbers of some phases, one behind the other
unfoldable pub flat : List (List ℤ) → List ℤ
flat [] = []
flat (x ∷ xs) = x ++ flat xs

module _ (q : Asked) where
  -- "The 24 numbers of board r ..: voltages a, b, c, then record currents a, b, c."
  unfoldable pub of_board : ℕ → List ℤ
  of_board r = flat (board_voltages q r) ++ flat (record_currents q r)

  -- those of n boards from r on
  unfoldable pub of_boards : ℕ → ℕ → List ℤ
  of_boards r zero = []
  of_boards r (suc n) = of_board r ++ of_boards (suc r) n

  -- "D at place 0, then the fault currents of phases a, b, c", then the boards, whose numbers so "start at place 13 + 24(r - 1)"
  unfoldable pub numbers : List ℤ
  numbers = the_d q ∷ (flat (fault_currents q) ++ of_boards 1 (length q.boards))

-- "What lies after place 12 + 24N keeps its old values." "Refused: .. nothing is written."
unfoldable pub after : Option Refusal → Asked → List ℤ → List ℤ
after none q buffer = numbers q ++ drop (answer_size (length q.boards)) buffer
after (some r) q buffer = buffer

unfoldable pub written : List ℕ → List ℕ → List ℤ → List ℤ
written net flt buffer = after (refusal net flt (length buffer)) (asked net flt) buffer

-- ---- the answer
-- "Accepted: number 0, the place of the faulted board's record, N, the amps." "Accepted: part is board k's record."
unfoldable pub accepted : Asked → Answer
accepted q = record { amps = amps q; part = the_record q.k; place = q.k; n = length q.boards; number = 0 }

-- "Refused: number, place, N = 0, amps = 0"
unfoldable pub refused : Refusal → Answer
refused r = record { amps = 0; part = r.part; place = r.place; n = 0; number = r.number }

unfoldable pub answer : Option Refusal → Asked → Answer
answer none q = accepted q
answer (some r) q = refused r

unfoldable pub verdict : List ℕ → List ℕ → ℕ → Answer
verdict net flt room = answer (refusal net flt room) (asked net flt)

unfoldable pub answer_open : Unit {0}
unfolding flat of_board of_boards numbers after written accepted refused answer verdict
answer_open = tt

-- all of the paper, and the number: what a computed theorem opens
unfoldable pub paper : Unit {0}
unfolding bytes_open label_open kind_open file_open chain_open rows_open refusal_open fault_open phase_open amps_open answer_open ◌+N◌ neg_n ◌·N◌ times_t ◌*N◌ power_n conj_n square_n
paper = tt
