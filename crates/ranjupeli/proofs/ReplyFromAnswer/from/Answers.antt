use Rattle.std.proofs.Common.{rules}
use Rattle.ranjupeli.specs.Reply.{reply_of}
use Rattle.ranjupeli.proofs.ReplyFromAnswer.from.Goals as goal

pub returns : goal.returns
unfolding reply_of
returns c = search rules
