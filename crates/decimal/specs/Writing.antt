-- A lent buffer that is written on: what a function that writes asks of its pen, and what it leaves. Assumes nothing.
use Rattle.std.specs.Prelude.{◌≡◌, List, ℕ}
use Rattle.decimal.specs.declared.Pen.{Pen}
use Rattle.decimal.specs.Wrote.{Room, Wrote}

-- there is room for the text
pub record Fits (s : List ℕ) (pen : Pen) : Type 0 where
  pub room : Room pen.at s pen.out.now

-- the text stands there, all else is as it was, the pen is behind it, and its buffer is still the one that was lent
pub record Writes (s : List ℕ) (pen later : Pen) : Type 0 where
  pub wrote : Wrote pen.at s pen.out.now later.out.now later.at
  pub same_buffer : later.out.ghost_name ≡ pen.out.ghost_name
