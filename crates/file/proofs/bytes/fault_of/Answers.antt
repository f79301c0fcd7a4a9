use Rattle.std.proofs.Common.{rules}
use Rattle.paper.specs.File.{fault_of}
use Rattle.file.proofs.bytes.fault_of.Goals as goal

pub returns : goal.returns
unfolding fault_of
returns c = search rules
