-- The last four bytes tell, or the first eight do.
use Rattle.std.proofs.Common.{refl, rules}
use Rattle.label.proofs.Same.{Twelve, other_end, same_end}
use Rattle.label.proofs.same_bytes.Goals as goal

pub returns-then-last_four : goal.returns-then-last_four
returns-then-last_four c =
    let a : Twelve c.args.a = (search rules, search rules) in
    let b : Twelve c.args.b = (search rules, search rules) in
    other_end c.args.a c.args.b a b refl refl c.last_four.ensures c.last_four-2.ensures c.if-last_four.true

pub returns : goal.returns
returns c =
    let a : Twelve c.args.a = (search rules, search rules) in
    let b : Twelve c.args.b = (search rules, search rules) in
    same_end c.args.a c.args.b a b c.first_eight.ensures c.first_eight-2.ensures c.last_four.ensures c.last_four-2.ensures c.if-last_four.false
