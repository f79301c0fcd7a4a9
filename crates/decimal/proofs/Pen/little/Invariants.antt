-- The bytes behind those that stand are left to write.
use Rattle.std.proofs.Common.{◌-◌}
use Rattle.lemmas.specs.Little.{little}
use Rattle.decimal.proofs.Pens.{Left}
use Rattle.decimal.proofs.Pen.little.Given as goal

abbrev pub invariant-loop : goal.invariant-loop
invariant-loop g l = Left l.initial.self (little g.row.N l.n) l.self (little (g.row.N - l.counter) l.rest)
