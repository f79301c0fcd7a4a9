-- Bounds that contracts ask for. Assumes nothing.
use Rattle.std.specs.Prelude.{◌≡◌, ℕ, ◌≤◌, pos}
use Rattle.turn.specs.declared.Num.{Num}
use Rattle.turn.specs.Bounds.{Within}
use Rattle.paper.specs.declared.Ohms.{Ohms}
use Rattle.paper.specs.declared.Seq.{Seq}

-- each part of an impedance is at most so much
pub record AtMost (most : ℕ) (z : Ohms) : Type 0 where
  pub r_most : z.r ≤ most
  pub x_most : z.x ≤ most

-- R + jX: the two other coordinates are 0
pub record Flat (n : Num) : Type 0 where
  pub no_t : n.x1 ≡ pos 0
  pub no_t² : n.x2 ≡ pos 0

-- R + jX with R and X at most b from 0
pub record Plane (b : ℕ) (n : Num) : Type 0 where
  pub flat : Flat n
  pub within : Within b n

-- what holds of each sequence
pub record EachSeq (P : Num → Type 0) (s : Seq) : Type 0 where
  pub e1 : P s.s1
  pub e2 : P s.s2
  pub e0 : P s.s0

-- ---- the greatest that there is, of parts up to 4,095 (Zf: 1,365)
-- of D: 100 · 4,095⁴, where all parts are greatest
abbrev pub most_d : ℕ
most_d = 28120019945062500

-- of a sequence current: 2 · 12,285 · 167,690,250
abbrev pub most_i : ℕ
most_i = 4120149442500

-- of a referred voltage: most_d + 2 · 4,095 · most_i
abbrev pub most_w : ℕ
most_w = 61864043879137500

-- of what W0 is lifted by: 2 · 4,095 · 8,190, where the faulted board's W1 is Z2 times the conjugate of Z1 + Z2
abbrev pub most_lift : ℕ
most_lift = 67076100
