use Rattle.paper.specs.Amps.{factor}
use Rattle.fault.specs.Kinds.{number_of}
use Rattle.amps.proofs.factor.Goals as goal

-- `amps::factor` meets its contract, row by row. Assumes nothing.
pub returns-in-ThreePhases : goal.returns-in-ThreePhases
unfolding number_of factor
returns-in-ThreePhases c = rw c.in-ThreePhases.is

pub returns-in-OneToEarth : goal.returns-in-OneToEarth
unfolding number_of factor
returns-in-OneToEarth c = rw (c.in-OneToEarth.is, c.if-earthed.true)

pub returns-in-TwoPhases : goal.returns-in-TwoPhases
unfolding number_of factor
returns-in-TwoPhases c = rw c.in-TwoPhases.is

pub returns-in-TwoToEarth : goal.returns-in-TwoToEarth
unfolding number_of factor
returns-in-TwoToEarth c = rw (c.in-TwoToEarth.is, c.if-earthed-2.true)

-- ---- what has no way back through earth, and nothing
pub returns-in_default : goal.returns-in_default
unfolding number_of factor
returns-in_default c = rw (c.in-OneToEarth.is, c.if-earthed.false)

pub returns-in_default-2 : goal.returns-in_default-2
unfolding number_of factor
returns-in_default-2 c = rw (c.in-TwoToEarth.is, c.if-earthed-2.false)

pub returns-in_default-3 : goal.returns-in_default-3
unfolding number_of factor
returns-in_default-3 c = rw c.in_default.is
