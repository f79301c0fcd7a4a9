use mathlib.Core.Path.{ap, ap₂, ◌∙◌}
use Rattle.turn.specs.Number.{one_n, power_n, ◌+N◌, neg_n}
use Rattle.paper.specs.Fault.{seq, shorts, short_of}
use Rattle.fits.proofs.Needs.{for_sums, for-Δ, within_is}
use Rattle.fault.specs.Kinds.{number_of}
use Rattle.fault.proofs.InRange.{ranged}
use Rattle.fault.proofs.impedances.Impedances.above.Goals as goal

-- `fault::impedances::Impedances::above` meets its contract, row by row. Assumes nothing.
pub add-requires : goal.add-requires
add-requires c = let n = for_sums (ranged c.args.self) in (within_is c.from-b.ensures n.second, within_is c.earthed-g.ensures n.earth)

pub neg-requires-in-TwoToEarth : goal.neg-requires-in-TwoToEarth
neg-requires-in-TwoToEarth c = within_is c.earthed-g.ensures (for-Δ (ranged c.args.self)).neg_g

pub neg-requires-in-TwoToEarth-2 : goal.neg-requires-in-TwoToEarth-2
neg-requires-in-TwoToEarth-2 c = within_is c.from-b.ensures (for-Δ (ranged c.args.self)).neg2

pub returns-in-ThreePhases : goal.returns-in-ThreePhases
unfolding number_of short_of shorts power_n
returns-in-ThreePhases c = let nil = c.whole-nil.ensures in rw c.in-ThreePhases.is (c.seq.ensures ∙ (λ i. seq one_n (nil i) (nil i)))

pub returns-in-OneToEarth : goal.returns-in-OneToEarth
unfolding number_of short_of shorts power_n
returns-in-OneToEarth c = rw c.in-OneToEarth.is c.seq-in-OneToEarth.ensures

pub returns-in-TwoPhases : goal.returns-in-TwoPhases
unfolding number_of short_of shorts power_n
returns-in-TwoPhases c = rw c.in-TwoPhases.is (c.seq-in-TwoPhases.ensures ∙ (λ i. seq one_n (c.neg.ensures i) (c.whole-nil.ensures i)))

pub returns-in-TwoToEarth : goal.returns-in-TwoToEarth
unfolding number_of short_of shorts
returns-in-TwoToEarth c =
    let b = c.from-b.ensures in
    let g = c.earthed-g.ensures in
    rw c.in-TwoToEarth.is
    (c.seq-in-TwoToEarth.ensures ∙ (λ i. seq ((c.add.ensures ∙ ap₂ ◌+N◌ b g) i) ((c.neg-in-TwoToEarth.ensures ∙ ap neg_n g) i) ((c.neg-in-TwoToEarth-2.ensures ∙ ap neg_n b) i)))

pub returns-in-Nothing : goal.returns-in-Nothing
unfolding number_of short_of shorts
returns-in-Nothing c = let nil = c.whole-nil.ensures in rw c.in-Nothing.is (c.seq-in-Nothing.ensures ∙ (λ i. seq (nil i) (nil i) (nil i)))
