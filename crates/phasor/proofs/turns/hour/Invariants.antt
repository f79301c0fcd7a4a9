use mathlib.Core.Path.{◌≡◌}
use Prim.Native.Nat.{◌%◌, ◌≤◌}
use Rattle.phasor.proofs.turns.hour.Given as goal

-- `phasor::turns::hour` meets its contract: each step leaves the same remainder by 12. Assumes nothing.
abbrev pub invariant-loop-m : goal.invariant-loop-m
invariant-loop-m l = (l.m % 12 ≡ l.n % 12) × (l.m ≤ l.n)

abbrev pub decreases-loop-m : goal.decreases-loop-m
decreases-loop-m l = l.m
