-- After i turns the buffer holds the first i marks.
use mathlib.Core.Path.{◌≡◌}
use lib.ListN.{length}
use lib.Seq.{paste}
use Rattle.stream.specs.Case.{marks}
use Rattle.stream.proofs.case.mark.Given as goal

abbrev pub invariant-loop-i : goal.invariant-loop-i
invariant-loop-i l = l.buffer ≡ paste l.initial.buffer 0 (marks (length l.initial.buffer)) l.i
