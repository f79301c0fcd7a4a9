-- Three phases in a part of twelve numbers. Assumes nothing.
use Rattle.std.specs.Prelude.{List, ℕ, ◌+◌, ◌*◌, ◌%◌, ℤ}
use Rattle.lemmas.specs.Over.{over}
use Rattle.turn.specs.declared.Num.{Num}
use Rattle.turn.specs.Number.{◌+N◌, turn_n}
use Rattle.paper.specs.Phase.{four}

-- phase ph (0 a, 1 b, 2 c) shows n, and the others what they did
unfoldable pub shown_at : ℕ → Num → List ℤ → List ℤ
shown_at ph n = over (4 * ph) (four n)

-- of u, v and w, what is shown i phases on from the first
abbrev pub sum_of : ℕ → Num → Num → Num → ℕ → Num
sum_of p u v w i = turn_n (8 * p) (u +N turn_n (8 * i) v +N turn_n (4 * i) w)

-- three phases from f on, the i-th with the i-th number
unfoldable pub laid : ℕ → (ℕ → Num) → List ℤ → List ℤ
laid f n xs = shown_at ((f + 2) % 3) (n 2) (shown_at ((f + 1) % 3) (n 1) (shown_at ((f + 0) % 3) (n 0) xs))
