use mathlib.Core.Path.{◌∙◌}
use borrow.Author.Rules.{rules}
use Rattle.lemmas.proofs.Words.{signed}
use Rattle.turn.specs.Number.{complex_n}
use Rattle.paper.specs.Fault.{num_of}
use Rattle.paper.proofs.NumFromOhms.from.Goals as goal

-- a part of 16 bits keeps its value where it gets a sign
pub returns : goal.returns
unfolding num_of
returns c =
    let z = c.args.z in
    c.complex.ensures ∙ (λ i. complex_n (signed z.r (search rules) i) (signed z.x (search rules) i))
