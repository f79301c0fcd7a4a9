-- The elements behind those that stand are left to write.
use lib.ListN.{drop}
use Rattle.decimal.proofs.Pens.{Left}
use Rattle.stream.specs.Layout.{elements_of}
use Rattle.stream.proofs.solved.put_elements.Given as goal

abbrev pub invariant-loop-z : goal.invariant-loop-z
invariant-loop-z l = Left l.initial.pen (elements_of l.zs) l.pen (elements_of (drop l.z-index l.zs))
