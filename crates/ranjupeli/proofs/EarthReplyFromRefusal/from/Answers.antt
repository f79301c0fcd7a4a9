use Rattle.std.proofs.Common.{rules}
use Rattle.ranjupeli.specs.Reply.{earth_reply, earth_reply_of}
use Rattle.ranjupeli.proofs.EarthReplyFromRefusal.from.Goals as goal

pub returns : goal.returns
unfolding earth_reply earth_reply_of
returns c = search rules
