use mathlib.Core.Path.{◌∙◌}
use Prim.Native.Nat.{◌+◌, ◌*◌}
use lib.ListN.{set}
use mir.Syntax.{w64}
use mir.Facts.{to_z-of_z}
use borrow.Author.Rules.{rules}
use Rattle.board.proofs.Rows.{stored}
use Rattle.board.proofs.put.phase.Goals as goal

-- `board::put::phase` meets its contract. Assumes nothing.
pub returns : goal.returns
returns c =
    let n = c.args.n in
    let x0 = to_z-of_z {w = w64} {z = n.x0} (search rules) in
    let x1 = to_z-of_z {w = w64} {z = n.x1} (search rules) in
    let x2 = to_z-of_z {w = w64} {z = n.x2} (search rules) in
    let x3 = to_z-of_z {w = w64} {z = n.x3} (search rules) in
    let ph = c.args.ph in
    let xs = c.args.out.now in
    (λ i. set (set (set (set xs (4 * ph.n) (x0 i)) (4 * ph.n + 1) (x1 i)) (4 * ph.n + 2) (x2 i)) (4 * ph.n + 3) (x3 i)) ∙ stored n ph.n xs ph.of_three (search rules)
