use native.Mathlib.Omega.{arith}
use Rattle.phasor.proofs.turns.hour.Goals as goal

pub loop-m-init : goal.loop-m-init
loop-m-init c = (omega arith, omega arith)

pub loop-m-preserved : goal.loop-m-preserved
loop-m-preserved c = (omega arith, omega arith)
