-- After i turns the table holds the first i boards in capitals.
use Rattle.std.proofs.Common.{◌≡◌}
use Rattle.file.proofs.Decoded.{filled}
use Rattle.follows.specs.Capitals.{board_in_capitals}
use Rattle.label.proofs.places.places_in.Given as goal

abbrev pub invariant-loop-i : goal.invariant-loop-i
invariant-loop-i l = l.boards ≡ filled board_in_capitals l.net l.i
