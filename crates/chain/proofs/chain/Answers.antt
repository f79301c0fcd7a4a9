use mathlib.Core.Path.{◌≡◌, refl, subst}
use native.Mathlib.Omega.{arith}
use Rattle.chain.proofs.Climb.{Climbed, climb_starts, climb_goes, climb_ends}
use Rattle.chain.proofs.chain.Goals as goal

-- `chain::chain` meets its contract: each turn of the loop marks one place more. Assumes nothing.
pub loop-i-init : goal.loop-i-init
loop-i-init c = climb_starts c.args.nodes.now c.args.k c.requires.0

pub loop-i-preserved : goal.loop-i-preserved
loop-i-preserved c =
    let one = c.in-Some.ensures in
    rw (c.from-at.ensures, one.1) (climb_goes c.args.nodes.now c.args.k c.loop-i.at c.loop-i.on c.requires.1 one.0 refl c.loop-i.invariant)

pub returns : goal.returns
returns c =
    let none = c.in_default.ensures in
    let e : c.loop-i.at ≡ 0 = omega (arith, none) in
    let ns = c.args.nodes.now in
    climb_ends ns c.args.k c.loop-i.on (subst (Climbed ns c.args.k c.loop-i.on) e c.loop-i.invariant)
