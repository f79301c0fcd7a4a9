use Rattle.std.proofs.Common.{rules}
use Rattle.paper.specs.File.{head_of}
use Rattle.file.proofs.bytes.head_of.Goals as goal

pub returns : goal.returns
unfolding head_of
returns c = search rules
