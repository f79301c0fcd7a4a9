use Rattle.std.proofs.Common.{sym, ◌∙◌}
use Rattle.label.proofs.SpeltAt.{spelt_found, spelt_missing}
use Rattle.label.proofs.search.find.Goals as goal

pub returns-in-Some : goal.returns-in-Some
returns-in-Some c = spelt_found c.args.label c.args.boards.now (sym c.first.ensures ∙ c.in-Some.is)

pub returns-in-None : goal.returns-in-None
returns-in-None c = spelt_missing c.args.label c.args.boards.now (sym c.first.ensures ∙ c.in-None.is)
