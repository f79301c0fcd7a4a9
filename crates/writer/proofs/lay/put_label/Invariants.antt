-- The bytes behind those that stand are left to write.
use lib.ListN.{drop}
use Rattle.decimal.proofs.Pens.{Left}
use Rattle.writer.proofs.lay.put_label.Given as goal

abbrev pub invariant-loop-b : goal.invariant-loop-b
invariant-loop-b l = Left l.initial.pen l.b-items l.pen (drop l.b-index l.b-items)
