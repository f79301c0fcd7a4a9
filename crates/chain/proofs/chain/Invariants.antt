use Rattle.chain.proofs.Climb.{Climbed}
use Rattle.chain.proofs.chain.Given as goal

-- `chain::chain` meets its contract: what is still to be marked, marked, is the whole. Assumes nothing.
abbrev pub invariant-loop-i : goal.invariant-loop-i
invariant-loop-i l = Climbed l.nodes l.k l.on l.at

abbrev pub decreases-loop-i : goal.decreases-loop-i
decreases-loop-i l = l.at
