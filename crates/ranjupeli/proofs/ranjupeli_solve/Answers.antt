use mathlib.Core.Path.{◌∙◌, ap}
use Rattle.ranjupeli.specs.Reply.{reply_of}
use Rattle.ranjupeli.proofs.ranjupeli_solve.Goals as goal

pub returns : goal.returns
returns c = let s = c.solve-a.ensures in record { value = c.from.ensures ∙ ap reply_of s.value; buffer_after = s.buffer_after }
