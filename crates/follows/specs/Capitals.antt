-- A board as labels are compared: its label and its feeder in capitals, all else as it is. Assumes nothing.
use Rattle.paper.specs.declared.Board.{Board}
use Rattle.paper.specs.Label.{capitals}

abbrev pub board_in_capitals : Board → Board
board_in_capitals b = record { z1 = b.z1; z2 = b.z2; z0 = b.z0; zn = b.zn; label = capitals b.label; feeder = capitals b.feeder; kind = b.kind; clock = b.clock }
