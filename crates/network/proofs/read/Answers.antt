use mathlib.Core.Path.{◌≡◌, sym, ◌∙◌, ap}
use Prim.Native.Nat.{ℕ, ◌+◌, ◌*◌}
use native.Mathlib.Omega.{arith}
use borrow.Author.Rules.{rules}
use Rattle.std.specs.Prelude.{Err}
use Rattle.paper.specs.declared.Head.{Head}
use Rattle.network.proofs.Head.{kept_head}
use Rattle.network.proofs.Whole.{head_right, read_head, read_refused, read_accepted}
use Rattle.network.proofs.read.Goals as goal

pub returns-in_err-head : goal.returns-in_err-head
returns-in_err-head c =
    let back : c.from_residual.result ≡ Err c.in_err-head.field-0.0 = search rules in
    let r = read_head c.args.net.now c.args.label c.read_head.ensures c.in_err-head.was in
    record { value = back ∙ r.0; nodes_after = r.1 }

pub judge-judged-requires : goal.judge-judged-requires
judge-judged-requires c =
    let d = head_right c.args.net.now c.args.label c.read_head.ensures c.in_ok-head.was in
    let k = kept_head c.args.net.now d.0 in
    let n = ap (λ (h : Head). h.boards) (sym d.1) in
    record { n_value = (n, omega (arith, k.few, n), k.size ∙ ap (λ (m : ℕ). 8 + 44 * m) (sym n)); nodes_value = c.requires }

pub returns-in_err-judged : goal.returns-in_err-judged
returns-in_err-judged c =
    let back : c.from_residual-in_err-judged.result ≡ Err c.in_err-judged.field-0.0 = search rules in
    let r = read_refused c.args.net.now c.args.label c.read_head.ensures c.in_ok-head.was c.judge-judged.ensures.value c.in_err-judged.was in
    record { value = back ∙ r.0; nodes_after = r.1 }

pub returns : goal.returns
returns c =
    let r = read_accepted c.args.net.now c.args.label c.read_head.ensures c.in_ok-head.was c.judge-judged.ensures.value c.in_ok-judged.was c.judge-judged.ensures.nodes_after in
    record { value = r.0; nodes_after = r.1 }
