use mathlib.Core.Path.{refl, ap, ◌∙◌}
use Rattle.turn.specs.declared.Num.{Num}
use Rattle.turn.specs.Number.{◌*N◌}
use Rattle.paper.specs.Fault.{seq, currents}
use Rattle.fits.proofs.Needs.{factors_are}
use Rattle.fault.proofs.currents.Goals as goal

-- `fault::currents` meets its contract: each sequence times the conjugate. Assumes nothing.
pub mul-requires : goal.mul-requires
mul-requires c = factors_are refl c.conj-c.ensures c.requires.a_factors.e1

pub mul-requires-2 : goal.mul-requires-2
mul-requires-2 c = factors_are refl c.conj-c.ensures c.requires.a_factors.e2

pub mul-requires-3 : goal.mul-requires-3
mul-requires-3 c = factors_are refl c.conj-c.ensures c.requires.a_factors.e0

pub returns : goal.returns
unfolding currents
returns c =
    let a = c.args.a in
    let k = c.conj-c.ensures in
    c.seq.ensures
    ∙ (λ i. seq ((c.mul.ensures ∙ ap (λ (n : Num). a.s1 *N n) k) i) ((c.mul-2.ensures ∙ ap (λ (n : Num). a.s2 *N n) k) i)
    ((c.mul-3.ensures ∙ ap (λ (n : Num). a.s0 *N n) k) i))
