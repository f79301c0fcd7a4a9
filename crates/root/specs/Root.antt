-- The root of a fraction, rounded down.
use Rattle.std.specs.Prelude.{ℕ, ◌+◌, ◌*◌, ◌<◌, ◌≤◌}

-- n is the greatest number with n * n * den ≤ num
pub record Root (num den n : ℕ) : Type 0 where
  pub low : n * n * den ≤ num
  pub high : num < (n + 1) * (n + 1) * den
