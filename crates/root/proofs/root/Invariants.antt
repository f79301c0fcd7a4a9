use Rattle.std.proofs.Common.{ℕ, ◌+◌, ◌-◌, ◌*◌, ◌^◌, ◌<◌, ◌≤◌}
use Rattle.root.proofs.root.Given as goal

-- The root stays from lo to top, and each test takes something off the bracket: where the loop ends, the two are one.
pub record Bracket (num den lo top : ℕ) : Type 0 where
  pub low : lo * lo * den ≤ num
  pub high : num < (top + 1) * (top + 1) * den
  pub order : lo ≤ top
  pub fits : top < 2 ^ 64

abbrev pub invariant-loop-lo : goal.invariant-loop-lo
invariant-loop-lo l = Bracket l.num l.den l.lo l.top

abbrev pub decreases-loop-lo : goal.decreases-loop-lo
decreases-loop-lo l = l.top - l.lo
