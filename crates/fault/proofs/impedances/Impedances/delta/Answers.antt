use mathlib.Core.Path.{◌≡◌, ap₂, ◌∙◌}
use Rattle.turn.specs.declared.Num.{Num}
use Rattle.turn.specs.Number.{◌+N◌, ◌*N◌}
use Rattle.paper.specs.Fault.{num_of, Δ}
use Rattle.follows.proofs.Row.{GOf}
use Rattle.fits.proofs.Needs.{ForΔ, for-Δ, within_is}
use Rattle.fault.specs.declared.impedances.Impedances.{Impedances}
use Rattle.fault.proofs.InRange.{ranged}
use Rattle.fault.proofs.impedances.Impedances.delta.Goals as goal

-- `fault::impedances::Impedances::delta` meets its contract. Assumes nothing.
asked : (s : Impedances) {a b g : Num} → a ≡ num_of s.z1 → b ≡ num_of s.z2 → g ≡ GOf s.z1 s.z2 s.z0 s.zf → ForΔ a b g
asked s d e f = rw (d, e, f) (for-Δ (ranged s))

-- Z1·Z2 + Z1·G
sum : (a b g : Num) {ab ag n : Num} → ab ≡ a *N b → ag ≡ a *N g → n ≡ ab +N ag → n ≡ a *N b +N a *N g
sum a b g d e f = f ∙ ap₂ ◌+N◌ d e

pub mul-requires : goal.mul-requires
mul-requires c = (asked c.args.self c.from-a.ensures c.from-b.ensures c.earthed-g.ensures).times12

pub mul-requires-2 : goal.mul-requires-2
mul-requires-2 c = (asked c.args.self c.from-a.ensures c.from-b.ensures c.earthed-g.ensures).times1_g

pub add-requires : goal.add-requires
add-requires c =
    let n = asked c.args.self c.from-a.ensures c.from-b.ensures c.earthed-g.ensures in
    (within_is c.mul.ensures n.product12, within_is c.mul-2.ensures n.product1_g)

pub mul-requires-3 : goal.mul-requires-3
mul-requires-3 c = (asked c.args.self c.from-a.ensures c.from-b.ensures c.earthed-g.ensures).times2_g

pub add-requires-2 : goal.add-requires-2
add-requires-2 c =
    let n = asked c.args.self c.from-a.ensures c.from-b.ensures c.earthed-g.ensures in
    (within_is (sum c.from-a.result c.from-b.result c.earthed-g.result c.mul.ensures c.mul-2.ensures c.add.ensures) n.sum, within_is c.mul-3.ensures n.product2_g)

pub returns : goal.returns
unfolding Δ
returns c =
    c.add-2.ensures
    ∙ ap₂ ◌+N◌ (sum c.from-a.result c.from-b.result c.earthed-g.result c.mul.ensures c.mul-2.ensures c.add.ensures) c.mul-3.ensures
    ∙ (λ i.
    let a = c.from-a.ensures i in
    let b = c.from-b.ensures i in
    let e = c.earthed-g.ensures i in
    a *N b +N a *N e +N b *N e)
