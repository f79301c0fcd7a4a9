-- The network is refused, the fault is refused, or both are accepted and the buffer holds the answer.
use mathlib.Core.Path.{◌≡◌, refl, sym, ◌∙◌, ap}
use Prim.Native.Nat.{ℕ}
use native.Mathlib.Omega.{arith}
use borrow.Author.Rules.{rules}
use lib.ListN.{length}
use Rattle.std.specs.Prelude.{Err}
use Rattle.paper.specs.Phase.{asked}
use Rattle.node.specs.Node.{no_node}
use Rattle.node.proofs.Tables.{empty_table}
use Rattle.ask.specs.Ask.{ask_of}
use Rattle.network.proofs.Kept.{network_few}
use Rattle.answer.specs.Posed.{Posed}
use Rattle.solve.specs.Told.{told}
use Rattle.solve.proofs.Outcomes.{Asking, refused_network_lem, refused_fault, none_broken, as_posed, as_counted, room_there, refuses, accepts}
use Rattle.solve.proofs.answering.answered.Goals as goal
use Rattle.solve.proofs.answering.answered.Goals.{After-ask}

-- what is known once the question is put
asking : (c : After-ask) → Asking c.args.net.now c.args.flt.now (length c.args.buffer.now) c.in_ok-network.network c.ask.result
asking c = record { label = c.label_in-label.result; label_is = c.label_in-label.ensures; read = sym c.in_ok-network.was ∙ c.read.ensures.value; told = c.ask.ensures ∙ ap (λ (n : ℕ). ask_of c.args.flt.now c.in_ok-network.network.k n (length c.args.buffer.now)) c.from.ensures }

pub read-requires : goal.read-requires
read-requires c = empty_table no_node refl

pub returns-in_err-network : goal.returns-in_err-network
returns-in_err-network c =
    let back : c.from_residual.result ≡ Err c.in_err-network.field-0.0 = search rules in
    let r = refuses _ _ _ (refused_network_lem _ _ _ _ c.read.ensures.value c.in_err-network.was) (ap told back) in
    record { value = r.0; buffer_after = r.1 }

pub ask-requires : goal.ask-requires
ask-requires c = rw c.from.ensures (network_few _ _ c.read.ensures.value c.in_ok-network.was)

pub returns-in_err-question : goal.returns-in_err-question
returns-in_err-question c =
    let put = asking (goal.at.returns-in_err-question c).After-ask in
    let back : c.from_residual-in_err-question.result ≡ Err c.in_err-question.field-0.0 = search rules in
    let r = refuses _ _ _ (refused_fault put c.in_err-question.was) (ap told back) in
    record { value = r.0; buffer_after = r.1 }

pub answer-amps-requires : goal.answer-amps-requires
answer-amps-requires c =
    let put = asking (goal.at.answer-amps-requires c).After-ask in
    (asked c.args.net.now c.args.flt.now, rw c.from-2.ensures (as_posed put c.in_ok-question.was c.read.ensures.nodes_after), room_there put c.in_ok-question.was)

pub accepted-requires : goal.accepted-requires
accepted-requires c =
    let put = asking (goal.at.accepted-requires c).After-ask in
    let p = as_posed put c.in_ok-question.was c.read.ensures.nodes_after in
    omega (arith, p.ready.k_from, p.same_place)

pub returns : goal.returns
returns c =
    let put = asking (goal.at.returns c).After-ask in
    let heard = c.in_ok-question.was in
    let p = as_posed put heard c.read.ensures.nodes_after in
    let q = asked c.args.net.now c.args.flt.now in
    let a = c.answer-amps.ensures in
    let posed : Posed q c.in_ok-network.network.head c.read.new.nodes c.in_ok-question.question.fault c.from-2.result = rw c.from-2.ensures p in
    let r = accepts _ _ _ (none_broken put heard) c.accepted.ensures (a.value q posed) p.same_place (as_counted put) (a.out_after q posed) in
    record { value = r.0; buffer_after = r.1 }
