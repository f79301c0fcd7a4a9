use Rattle.std.proofs.Common.{rules}
use Rattle.paper.specs.Refusal.{head_ranges}
use Rattle.file.proofs.head.head_wrong.Goals as goal

pub returns : goal.returns
unfolding head_ranges
returns c = search rules
