use mathlib.Core.Bool.{not, ◌||◌}
use Rattle.paper.specs.Refusal.{impedance_wrong}
use Rattle.kind.proofs.must_hold.impedance_wrong.Goals as goal

pub returns : goal.returns
unfolding impedance_wrong
returns c =
    let zn = c in
    let z0 = zn in
    let z2 = z0 in
    let z1 = z2 in
    λ i. z1.over.ensures i || z2.over-2.ensures i || z0.over-3.ensures i || zn.over-4.ensures i || not (c.rules_hold.ensures i)
