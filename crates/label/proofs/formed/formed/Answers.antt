-- The two words tell of all neighbours.
use Rattle.std.proofs.Common.{arith, rules}
use Rattle.label.proofs.Same.{Twelve}
use Rattle.label.proofs.LettersByWord.{last_small, formed_is}
use Rattle.label.proofs.formed.formed.Goals as goal

pub overflow_mul-u : goal.overflow_mul-u
overflow_mul-u c =
    let t : Twelve c.args.l = (search rules, search rules) in
    record { fits = omega (arith, last_small c.args.l t c.first_eight-w.ensures c.last_four-v.ensures) }

pub overflow_add-u : goal.overflow_add-u
overflow_add-u c =
    let t : Twelve c.args.l = (search rules, search rules) in
    record { fits = omega (arith, last_small c.args.l t c.first_eight-w.ensures c.last_four-v.ensures) }

pub returns : goal.returns
returns c =
    let t : Twelve c.args.l = (search rules, search rules) in
    formed_is c.args.l t c.first_eight-w.ensures c.last_four-v.ensures c.letters_then_spaces.ensures c.letters_then_spaces-2.ensures
