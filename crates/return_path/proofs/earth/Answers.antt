-- Each return of `earth` is an outcome: the network's own refusal, 14, or what the board's node says.
use mathlib.Core.Path.{◌≡◌, refl, ◌∙◌, ap}
use Prim.Native.Nat.{ℕ}
use native.Mathlib.Omega.{arith}
use borrow.Author.Rules.{rules}
use lib.ListN.{length, get_or}
use Rattle.std.specs.Prelude.{Err}
use Rattle.paper.specs.Return.{said, refused_by}
use Rattle.node.specs.Node.{no_node}
use Rattle.node.proofs.Tables.{empty_table}
use Rattle.return_path.proofs.Answers.{says_network, says_unknown, says_node, in_nodes}
use Rattle.return_path.specs.Return.{said_by}
use Rattle.return_path.proofs.earth.Goals as goal
use Rattle.return_path.proofs.earth.Goals.{in_default-via-in-Some+else-len-eq-LABEL, in_default-via-in_default}

pub read-requires : goal.read-requires
read-requires c = empty_table no_node refl

-- the network's own refusals
pub returns-in_err-network : goal.returns-in_err-network
unfolding said
returns-in_err-network c =
    let back : c.from_residual.result ≡ Err c.in_err-network.field-0.0 = search rules in
    ap said back ∙ says_network _ _ _ c.read.ensures.value c.in_err-network.was

-- 14: no board has it, or it has not twelve bytes
pub returns-in_default : goal.returns-in_default
unfolding said
returns-in_default c =
    let none : length c.args.label.now ≡ 12 → c.from.result ≡ 0 = elim c.in_default.branch [
      | in_default-via-in-Some+else-len-eq-LABEL w ↦ λ e. absurd (w.if-len-eq-LABEL.false e)
      | in_default-via-in_default w ↦ λ _. let f = w.in_default.ensures in omega (arith, f)
    ] in
    says_unknown c.args.net.now c.args.label.now _ c.label_in-wanted.ensures c.read.ensures.value c.in_ok-network.was c.from.ensures none (ap refused_by c.at_the_front.ensures)

-- and the board is found
pub bounds-nodes-i : goal.bounds-nodes-i
bounds-nodes-i c =
    let one = c.in-Some.ensures in
    let there = in_nodes c.args.net.now c.args.label.now _ c.label_in-wanted.ensures c.read.ensures.value c.in_ok-network.was c.from.ensures c.if-len-eq-LABEL.true one.0 in
    omega (arith, one.1, there)

pub returns-in-Some : goal.returns-in-Some
unfolding said
returns-in-Some c =
    let one = c.in-Some.ensures in
    says_node c.args.net.now c.args.label.now _ c.label_in-wanted.ensures c.read.ensures.value c.in_ok-network.was c.from.ensures c.if-len-eq-LABEL.true one.0 c.read.ensures.nodes_after
    (c.of_node.ensures ∙ ap (λ (i : ℕ). said_by (get_or c.read.new.nodes i no_node)) one.1)
