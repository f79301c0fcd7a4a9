use mathlib.Core.Path.{◌≡◌, ap, ◌∙◌}
use Rattle.turn.specs.declared.Num.{Num}
use Rattle.turn.specs.Number.{◌+N◌}
use Rattle.paper.specs.Fault.{num_of, G}
use Rattle.fits.proofs.Needs.{ForG, for_G, within_is}
use Rattle.fault.specs.declared.impedances.Impedances.{Impedances}
use Rattle.fault.proofs.InRange.{ranged}
use Rattle.fault.proofs.impedances.Impedances.earthed.Goals as goal

-- `fault::impedances::Impedances::earthed` meets its contract. Assumes nothing.
asked : (s : Impedances) {z f : Num} → z ≡ num_of s.z0 → f ≡ num_of s.zf → ForG z f
asked s d e = rw (d, e) (for_G (ranged s))

-- 3Zf
thrice : (f : Num) {twice all : Num} → twice ≡ f +N f → all ≡ twice +N f → all ≡ f +N f +N f
thrice f d e = e ∙ ap (λ (n : Num). n +N f) d

pub add-requires : goal.add-requires
add-requires c = let n = asked c.args.self c.from.ensures c.from-f.ensures in (n.once, n.once)

pub add-requires-2 : goal.add-requires-2
add-requires-2 c = let n = asked c.args.self c.from.ensures c.from-f.ensures in (within_is c.add.ensures n.twice, n.once)

pub add-requires-3 : goal.add-requires-3
add-requires-3 c =
    let n = asked c.args.self c.from.ensures c.from-f.ensures in
    (n.zero, within_is (thrice c.from-f.result c.add.ensures c.add-2.ensures) n.thrice)

pub returns : goal.returns
unfolding G
returns c =
    (c.add-3.ensures ∙ ap (λ (n : Num). c.from.result +N n) (thrice c.from-f.result c.add.ensures c.add-2.ensures))
    ∙ (λ i. let f = c.from-f.ensures i in c.from.ensures i +N (f +N f +N f))
