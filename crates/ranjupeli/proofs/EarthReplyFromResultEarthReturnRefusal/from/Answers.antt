use mathlib.Core.Path.{◌≡◌, sym, ◌∙◌, ap}
use borrow.Author.Rules.{rules}
use Rattle.std.specs.Prelude.{Result, Ok}
use Rattle.paper.specs.declared.EarthReturn.{EarthReturn}
use Rattle.paper.specs.declared.EarthReturn.TheVariants.{From, Stopped}
use Rattle.paper.specs.declared.Refusal.{Refusal}
use Rattle.paper.specs.Return.{said}
use Rattle.ranjupeli.specs.declared.EarthReply.{EarthReply}
use Rattle.ranjupeli.specs.Reply.{earth_reply, earth_reply_of}
use Rattle.ranjupeli.proofs.EarthReplyFromResultEarthReturnRefusal.from.Goals as goal

abbrev replies : Result EarthReturn Refusal → EarthReply
replies e = earth_reply_of (said e)

pub returns-in-Ok-From : goal.returns-in-Ok-From
unfolding said earth_reply earth_reply_of
returns-in-Ok-From c = let is : c.args.e ≡ Ok (From c.in-Ok-From.r) = search rules in c.named.ensures ∙ ap replies (sym is)

pub returns-in-Ok-Stopped : goal.returns-in-Ok-Stopped
unfolding said earth_reply earth_reply_of
returns-in-Ok-Stopped c = let is : c.args.e ≡ Ok (Stopped c.in-Ok-Stopped.r) = search rules in c.named-in-Ok-Stopped.ensures ∙ ap replies (sym is)

pub returns-in-Err : goal.returns-in-Err
unfolding said
returns-in-Err c = c.from.ensures ∙ ap replies (sym c.in-Err.is)
