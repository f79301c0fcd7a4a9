use Rattle.std.proofs.Common.{◌≡◌}
use Rattle.paper.specs.declared.Board.{Board}
use Rattle.paper.specs.Label.{Label, capitals}
use Rattle.follows.specs.Capitals.{board_in_capitals}
use Rattle.label.proofs.case.board_in_capitals.Goals as goal

by_labels : (b : Board) {label feeder : Label} → label ≡ capitals b.label → feeder ≡ capitals b.feeder
    → record { z1 = b.z1; z2 = b.z2; z0 = b.z0; zn = b.zn; label = label; feeder = feeder; kind = b.kind; clock = b.clock } ≡ board_in_capitals b
by_labels b e f = λ i. record { z1 = b.z1; z2 = b.z2; z0 = b.z0; zn = b.zn; label = e i; feeder = f i; kind = b.kind; clock = b.clock }

pub returns : goal.returns
returns c = by_labels c.args.b c.in_capitals.ensures c.in_capitals-2.ensures
