-- What the amps ask of D. Assumes nothing.
use Rattle.std.specs.Prelude.{◌≡◌, ◌≤◌, ℤ, pos, nat_abs}

-- a whole number from 1 on
pub record Positive (d : ℤ) : Type 0 where
  pub whole : d ≡ pos (nat_abs d)
  pub least : 1 ≤ nat_abs d
