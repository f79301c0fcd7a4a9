-- After i turns i records have passed, and the table holds their nodes.
use Rattle.records.proofs.Reading.{Read}
use Rattle.records.proofs.judge_all.Given as goal

abbrev pub invariant-loop-i : goal.invariant-loop-i
invariant-loop-i l = Read l.net l.i l.nodes
