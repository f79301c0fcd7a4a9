-- The boards looked at are as their types allow.
use Rattle.std.proofs.Common.{take}
use Rattle.writer.specs.RoundTrip.{AllTyped}
use Rattle.writer.proofs.lay.typed_boards.Given as goal

abbrev pub invariant-loop-b : goal.invariant-loop-b
invariant-loop-b l = AllTyped (take l.b-index l.boards)
