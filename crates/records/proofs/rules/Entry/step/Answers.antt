use Rattle.std.proofs.Common.{◌≡◌, ◌∙◌, Err, rules}
use Rattle.records.proofs.Record.{all_kept, own_small}
use Rattle.records.proofs.Outcomes.{none_broken, step_broken, step_over, step_kept}
use Rattle.records.proofs.rules.Entry.step.Goals as goal

pub returns-in_err-broken : goal.returns-in_err-broken
returns-in_err-broken c =
    let back : c.from_residual.result ≡ Err c.in_err-broken.field-0.0 = search rules in
    back ∙ step_broken _ _ _ _ _ _ c.broken.ensures c.in_err-broken.was

pub invariant_of-joined : goal.invariant_of-joined
invariant_of-joined c =
    let kept = none_broken c.args.self.r c.args.self.mark c.args.self.b c.args.self.own c.args.self.fed c.args.up c.broken.ensures c.in_ok-broken.was in
    record { own_small = own_small (all_kept _ _ _ _ _ kept); up_small = c.requires.1 }

pub returns-then-node_over : goal.returns-then-node_over
returns-then-node_over c = step_over _ _ _ _ _ _ c.broken.ensures c.in_ok-broken.was c.earlier.ensures.0 c.node-node.ensures c.node_over.ensures c.if-node_over.true

pub returns : goal.returns
returns c = step_kept _ _ _ _ _ _ c.broken.ensures c.in_ok-broken.was c.earlier.ensures.0 c.node-node.ensures c.node_over.ensures c.if-node_over.false
