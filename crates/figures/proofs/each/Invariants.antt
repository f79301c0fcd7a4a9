-- Each turn takes one byte or more.
use Rattle.std.proofs.Common.{length}
use Rattle.figures.proofs.each.Given as goal

abbrev pub decreases-loop-head : goal.decreases-loop-head
decreases-loop-head g l = length l.left
