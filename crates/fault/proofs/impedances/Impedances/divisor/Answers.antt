use mathlib.Core.Path.{◌≡◌, ap₂, ◌∙◌}
use Rattle.turn.specs.declared.Num.{Num}
use Rattle.turn.specs.Number.{power_n, ◌+N◌}
use Rattle.turn.specs.Bounds.{Addable}
use Rattle.paper.specs.Fault.{num_of, shorts, short_of}
use Rattle.follows.proofs.Row.{GOf}
use Rattle.fits.proofs.Needs.{for_G, ForSums, for_sums, within_is}
use Rattle.fault.specs.declared.impedances.Impedances.{Impedances}
use Rattle.fault.specs.Kinds.{number_of}
use Rattle.fault.proofs.InRange.{ranged}
use Rattle.fault.proofs.impedances.Impedances.divisor.Goals as goal

-- `fault::impedances::Impedances::divisor` meets its contract, row by row. Assumes nothing.
asked : (s : Impedances) {a b : Num} → a ≡ num_of s.z1 → b ≡ num_of s.z2 → ForSums a b (GOf s.z1 s.z2 s.z0 s.zf)
asked s d e = rw (d, e) (for_sums (ranged s))

asked_f : (s : Impedances) {f : Num} → f ≡ num_of s.zf → Addable f
asked_f s e = within_is e (for_G (ranged s)).once

pub add-requires : goal.add-requires
add-requires c = ((asked c.args.self c.from-a.ensures c.from-b.ensures).first, asked_f c.args.self c.from-f.ensures)

pub add-requires-in-OneToEarth : goal.add-requires-in-OneToEarth
add-requires-in-OneToEarth c = let n = asked c.args.self c.from-a.ensures c.from-b.ensures in (n.first, n.second)

pub add-requires-in-OneToEarth-2 : goal.add-requires-in-OneToEarth-2
add-requires-in-OneToEarth-2 c =
    let n = asked c.args.self c.from-a.ensures c.from-b.ensures in
    (within_is c.add-in-OneToEarth.ensures n.both, within_is c.earthed.ensures n.earth)

pub add-requires-in-TwoPhases : goal.add-requires-in-TwoPhases
add-requires-in-TwoPhases c = let n = asked c.args.self c.from-a.ensures c.from-b.ensures in (n.first, n.second)

pub add-requires-in-TwoPhases-2 : goal.add-requires-in-TwoPhases-2
add-requires-in-TwoPhases-2 c =
    (within_is c.add-in-TwoPhases.ensures (asked c.args.self c.from-a.ensures c.from-b.ensures).both, asked_f c.args.self c.from-f.ensures)

pub returns-in-ThreePhases : goal.returns-in-ThreePhases
unfolding number_of short_of shorts
returns-in-ThreePhases c = rw c.in-ThreePhases.is (c.add.ensures ∙ ap₂ ◌+N◌ c.from-a.ensures c.from-f.ensures)

pub returns-in-OneToEarth : goal.returns-in-OneToEarth
unfolding number_of short_of shorts
returns-in-OneToEarth c =
    rw c.in-OneToEarth.is (c.add-in-OneToEarth-2.ensures ∙ ap₂ ◌+N◌ (c.add-in-OneToEarth.ensures ∙ ap₂ ◌+N◌ c.from-a.ensures c.from-b.ensures) c.earthed.ensures)

pub returns-in-TwoPhases : goal.returns-in-TwoPhases
unfolding number_of short_of shorts
returns-in-TwoPhases c =
    rw c.in-TwoPhases.is (c.add-in-TwoPhases-2.ensures ∙ ap₂ ◌+N◌ (c.add-in-TwoPhases.ensures ∙ ap₂ ◌+N◌ c.from-a.ensures c.from-b.ensures) c.from-f.ensures)

pub returns-in-TwoToEarth : goal.returns-in-TwoToEarth
unfolding number_of short_of shorts
returns-in-TwoToEarth c = rw c.in-TwoToEarth.is c.delta.ensures

pub returns-in-Nothing : goal.returns-in-Nothing
unfolding number_of short_of shorts power_n
returns-in-Nothing c = rw c.in-Nothing.is
