use borrow.Author.Rules.{rules}
use Rattle.lines.proofs.Unspaced.{no_letters, letters_to}
use Rattle.lines.proofs.name.letters.Goals as goal

pub returns-in-Some : goal.returns-in-Some
returns-in-Some c = letters_to c.args.l c.in-Some.last (search rules) (search rules) (search rules)

pub returns-in-None : goal.returns-in-None
returns-in-None c = no_letters c.args.l (search rules)
