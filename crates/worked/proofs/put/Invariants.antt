-- After k turns the slice is the copy of the first k numbers.
use mathlib.Core.Path.{◌≡◌}
use Prim.Native.Nat.{◌≤◌}
use lib.ListN.{length}
use lib.Seq.{paste}
use Rattle.worked.specs.Four.{four_of}
use Rattle.worked.proofs.put.Given as goal

abbrev pub invariant-loop-k : goal.invariant-loop-k
invariant-loop-k l = (l.k ≤ 4) × (l.out ≡ paste l.initial.out 0 (four_of l.v) l.k) × (length l.out ≡ 4)
