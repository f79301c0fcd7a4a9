-- After as many turns the numbers behind are left to write.
use lib.ListN.{drop}
use Rattle.decimal.specs.Decimal.{row}
use Rattle.decimal.proofs.Pens.{Left}
use Rattle.decimal.proofs.Pen.row.Given as goal

abbrev pub invariant-loop-z : goal.invariant-loop-z
invariant-loop-z l = Left l.initial.self (row l.zs) l.self (row (drop l.z-index l.zs))
