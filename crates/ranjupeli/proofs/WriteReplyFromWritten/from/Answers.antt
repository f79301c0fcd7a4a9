use Rattle.std.proofs.Common.{rules}
use Rattle.ranjupeli.specs.Reply.{write_reply_of}
use Rattle.ranjupeli.proofs.WriteReplyFromWritten.from.Goals as goal

pub returns : goal.returns
unfolding write_reply_of
returns c = search rules
