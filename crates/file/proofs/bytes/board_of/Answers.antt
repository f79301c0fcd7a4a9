use Rattle.std.proofs.Common.{rules}
use Rattle.paper.specs.File.{board_of}
use Rattle.file.proofs.bytes.board_of.Goals as goal

pub returns : goal.returns
unfolding board_of
returns c = search rules
