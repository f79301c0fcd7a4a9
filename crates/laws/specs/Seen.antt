-- The values as the caller sees them: the numbers of the answer buffer, turned back to the fault's side and put together to sequences. Three phases give three times a sequence, so nothing is divided.
-- Assumes nothing.
use Rattle.std.specs.Prelude.{List, ℕ, ◌+◌, ◌*◌, ◌-◌, ◌%◌, ℤ, pos, get_or}
use Rattle.turn.specs.declared.Num.{Num}
use Rattle.turn.specs.Number.{◌+N◌, turn_n}
use Rattle.paper.specs.declared.Seq.{Seq}
use Rattle.paper.specs.Chain.{turn_of}
use Rattle.paper.specs.Fault.{seq}
use Rattle.paper.specs.Phase.{Asked}
use Rattle.laws.specs.Values.{Values}

-- "each of four whole numbers", from a place on
abbrev pub number_at : List ℤ → ℕ → Num
number_at xs a = record { x0 = get_or xs a (pos 0); x1 = get_or xs (a + 1) (pos 0); x2 = get_or xs (a + 2) (pos 0); x3 = get_or xs (a + 3) (pos 0) }

-- phase (p + i) mod 3 of the "phases a, b, c" that stand from a place on
abbrev pub phase_at : List ℤ → ℕ → ℕ → ℕ → Num
phase_at xs a p i = number_at xs (a + 4 * ((p + i) % 3))

-- three times each sequence: "phase (p+i) mod 3 shows t^(8p)·(X0 + t^(8i-d)·X1 + t^(4i+d)·X2)", taken back. t^(4p) takes t^(8p) back; t^d takes t^(-d) back, and t^(-d) takes t^d
unfoldable pub thrice : ℕ → ℕ → ℕ → (ℕ → Num) → Seq
thrice p sj sk X =
    seq (turn_n (4 * p + (sj + 11 * sk)) (X 0 +N turn_n 4 (X 1) +N turn_n 8 (X 2)))
    (turn_n (4 * p + (11 * sj + sk)) (X 0 +N turn_n 8 (X 1) +N turn_n 4 (X 2)))
    (turn_n (4 * p) (X 0 +N X 1 +N X 2))

-- "The 24 numbers of board r start at place 13 + 24(r - 1): voltages a, b, c, then record currents a, b, c."
abbrev pub place_of_board : ℕ → ℕ
place_of_board r = 13 + 24 * (r - 1)

-- "D at place 0"
abbrev pub D_seen : List ℤ → ℤ
D_seen xs = get_or xs 0 (pos 0)

module _ (q : Asked) (xs : List ℤ) where
  open q use {boards, fault, k}

  unfoldable pub seen : Values
  seen =
      record {
        W = λ r. thrice fault.phase (turn_of boards r) (turn_of boards k) (phase_at xs (place_of_board r) fault.phase);
        I = λ r. thrice fault.phase (turn_of boards r) (turn_of boards k) (phase_at xs (place_of_board r + 12) fault.phase);
        F = thrice fault.phase 0 0 (phase_at xs 1 fault.phase);
      }
