-- After i turns the output holds the first i marks.
use mathlib.Core.Path.{◌≡◌}
use lib.ListN.{length}
use lib.Seq.{paste}
use Rattle.stream.specs.Case.{byte_marks}
use Rattle.stream.proofs.case.mark_bytes.Given as goal

abbrev pub invariant-loop-i : goal.invariant-loop-i
invariant-loop-i l = l.out ≡ paste l.initial.out 0 (byte_marks (length l.initial.out)) l.i
