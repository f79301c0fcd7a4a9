-- Bounds that contracts ask for. Assumes nothing.
use Rattle.std.specs.Prelude.{ℕ, ◌≤◌, ℤ, nat_abs}

-- z is at most b from 0. A record, so that z and b are found from a proof of it
pub record Small (b : ℕ) (z : ℤ) : Type 0 where
  pub small : nat_abs z ≤ b
