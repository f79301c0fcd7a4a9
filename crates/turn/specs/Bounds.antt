-- How far a number's coordinates are from 0: what the bounds of the paper's numbers are said by, and what the operations ask. Assumes nothing.
use Rattle.std.specs.Prelude.{◌≡◌, ℕ, ◌*◌, ◌^◌, ◌≤◌, pos}
use Rattle.lemmas.specs.Small.{Small}
use Rattle.turn.specs.declared.Num.{Num}

-- each coordinate is at most b from 0
pub record Within (b : ℕ) (n : Num) : Type 0 where
  pub w0 : Small b n.x0
  pub w1 : Small b n.x1
  pub w2 : Small b n.x2
  pub w3 : Small b n.x3

-- ---- what the operations ask, so that no word of 64 bits overflows: the widest power of two at which none does
-- a sum, a difference, a conjugate or a turn, which add two coordinates
abbrev pub Addable : Num → Type 0
Addable n = Within (2 ^ 61) n

-- an opposite
abbrev pub Negatable : Num → Type 0
Negatable n = Within (2 ^ 62) n

-- the square of an absolute value: of a number R + jX alone
pub record Squarable (n : Num) : Type 0 where
  pub no_t : n.x1 ≡ pos 0
  pub no_t² : n.x2 ≡ pos 0
  pub within : Within (2 ^ 30) n

-- a product: a coordinate of it sums at most six products of theirs
pub record Factors (a b : Num) : Type 0 where
  pub left : ℕ
  pub right : ℕ
  pub one : Within left a
  pub other : Within right b
  pub room : left * right ≤ 2 ^ 60
