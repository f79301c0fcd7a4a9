use mathlib.Core.Path.{◌∙◌, ap}
use Rattle.ranjupeli.specs.Reply.{earth_reply_of}
use Rattle.ranjupeli.proofs.ranjupeli_earth.Goals as goal

pub returns : goal.returns
returns c = c.from.ensures ∙ ap earth_reply_of c.earth.ensures
