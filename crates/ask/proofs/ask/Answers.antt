use mathlib.Core.Path.{◌≡◌, ◌∙◌}
use borrow.Author.Rules.{rules}
use Rattle.std.specs.Prelude.{Err}
use Rattle.ask.proofs.Outcomes.{by_unread, by_14, by_board}
use Rattle.ask.proofs.ask.Goals as goal

pub returns-in_err-fault : goal.returns-in_err-fault
returns-in_err-fault c =
    let back : c.from_residual.result ≡ Err c.in_err-fault.field-0.0 = search rules in
    back ∙ by_unread c.args.flt.now c.args.k c.args.n c.args.room c.read_fault.ensures c.in_err-fault.was

pub returns-then-k-eq0 : goal.returns-then-k-eq0
returns-then-k-eq0 c = by_14 c.args.flt.now c.args.k c.args.n c.args.room c.read_fault.ensures c.in_ok-fault.was c.if-k-eq0.true c.at_the_front.ensures

pub returns : goal.returns
returns c = by_board c.args.flt.now c.args.k c.args.n c.args.room c.read_fault.ensures c.in_ok-fault.was c.if-k-eq0.false c.at_board.ensures
