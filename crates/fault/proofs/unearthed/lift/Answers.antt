use mathlib.Core.Bool.{Bool, true, false, not}
use mathlib.Core.Path.{◌≡◌, refl, ap, ◌∙◌}
use Rattle.turn.specs.declared.Num.{Num}
use Rattle.turn.specs.Number.{neg_n}
use Rattle.paper.specs.Fault.{nil_n, lift_of}
use Rattle.paper.specs.Phase.{only_if}
use Rattle.fits.proofs.Needs.{for_first, within_is}
use Rattle.fault.specs.declared.kinds.FaultKind.{FaultKind}
use Rattle.fault.specs.declared.kinds.FaultKind.TheVariants.{ThreePhases, OneToEarth, TwoPhases, TwoToEarth, Nothing}
use Rattle.fault.specs.Kinds.{number_of}
use Rattle.fault.proofs.unearthed.lift.Goals.{in_default-via-in-OneToEarth+else-not-earthed, in_default-via-in-TwoToEarth+else-not-earthed-2, in_default-via-in_default}
use Rattle.fault.proofs.unearthed.lift.Goals as goal

-- `fault::unearthed::lift` meets its contract, kind by kind. Assumes nothing.
-- a fault that is clear of earth lifts nothing
clear : (kind : FaultKind) (earthed : Bool) (w : Num) → (kind ≡ OneToEarth → ⊥) → (kind ≡ TwoToEarth → ⊥) → nil_n ≡ only_if (not earthed) (lift_of (number_of kind) w)
unfolding number_of only_if lift_of
clear kind true w h1 h3 = refl
clear ThreePhases false w h1 h3 = refl
clear OneToEarth false w h1 h3 = absurd (h1 refl)
clear TwoPhases false w h1 h3 = refl
clear TwoToEarth false w h1 h3 = absurd (h3 refl)
clear Nothing false w h1 h3 = refl

pub neg-requires : goal.neg-requires
neg-requires c = let o = c.args.over in within_is c.first.ensures (for_first o.d_small c.args.z.z1_at_most o.i_plane.e1).turned

pub returns-in-OneToEarth : goal.returns-in-OneToEarth
unfolding number_of only_if lift_of
returns-in-OneToEarth c = rw (c.if-not-earthed.true, c.in-OneToEarth.is) (c.neg.ensures ∙ ap neg_n c.first.ensures)

pub returns-in-TwoToEarth : goal.returns-in-TwoToEarth
unfolding number_of only_if lift_of
returns-in-TwoToEarth c = rw (c.if-not-earthed-2.true, c.in-TwoToEarth.is) c.first-in-TwoToEarth.ensures

pub returns-in_default : goal.returns-in_default
unfolding number_of only_if lift_of
returns-in_default c =
    elim c.in_default.branch [
      | in_default-via-in-OneToEarth+else-not-earthed w ↦ rw w.if-not-earthed.false c.whole.ensures
      | in_default-via-in-TwoToEarth+else-not-earthed-2 w ↦ rw w.if-not-earthed-2.false c.whole.ensures
      | in_default-via-in_default w ↦ c.whole.ensures ∙ clear c.args.kind c.args.earthed _ w.in_default.not-OneToEarth w.in_default.not-TwoToEarth
    ]
