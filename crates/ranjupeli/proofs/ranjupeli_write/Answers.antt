use mathlib.Core.Path.{◌∙◌, ap}
use Rattle.ranjupeli.specs.Reply.{write_reply_of}
use Rattle.ranjupeli.proofs.ranjupeli_write.Goals as goal

pub returns : goal.returns
returns c = let s = c.write.ensures in record { value = c.from.ensures ∙ ap write_reply_of s.value; out_after = s.out_after }
