use mathlib.Core.Bool.{cond}
use mathlib.Core.Path.{◌≡◌, ap, ◌∙◌}
use native.Mathlib.Omega.{arith}
use lib.Dec.{eqb}
use Rattle.std.proofs.lemmas.Bool.Decides.{nat_tests}
use Rattle.paper.specs.Kind.{ohms}
use Rattle.chain.specs.declared.share.Shared.{Shared}
use Rattle.chain.specs.Share.{share_from, shared_in}
use Rattle.chain.proofs.Shares.{made}
use Rattle.chain.proofs.share.share.Goals as goal
use Rattle.chain.proofs.share.share.Goals.{then-on, else-on, then-node-head, else-node-head}

-- `chain::share::share` meets its contract. Assumes nothing.
pub returns : goal.returns
unfolding share_from shared_in
returns c =
    let a = c.args in
    let s = c.if-on.sums in
    let z0 : c.if-node-head.z0 ≡ cond (eqb a.node.head a.head) s.z0 (ohms 0 0) =
    elim c.if-node-head.branch [
      | then-node-head w ↦ w.z0-is ∙ grind (arith, nat_tests, w.if-node-head.true)
      | else-node-head w ↦ w.z0-is ∙ grind (arith, nat_tests, w.if-node-head.false)
    ]
    in
    elim c.if-on.branch [
      | then-on w ↦ let e = w.sums-is ∙ w.from-sums.ensures in rw w.if-on.true (made (ap (λ (s : Shared). s.z1) e) (ap (λ (s : Shared). s.z2) e) (z0 ∙ ap (λ (s : Shared). cond (eqb a.node.head a.head) s.z0 (ohms 0 0)) e))
      | else-on w ↦ let e = w.sums-is in rw w.if-on.false (made (ap (λ (s : Shared). s.z1) e) (ap (λ (s : Shared). s.z2) e) (z0 ∙ ap (λ (s : Shared). cond (eqb a.node.head a.head) s.z0 (ohms 0 0)) e))
    ]
