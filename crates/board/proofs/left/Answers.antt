use mathlib.Core.Path.{◌∙◌}
use borrow.Author.Rules.{rules}
use mir.Syntax.{w64}
use mir.Facts.{to_z-of_z}
use Rattle.paper.specs.Phase.{voltage_of}
use Rattle.fits.proofs.Fits.{only_if_lem}
use Rattle.board.proofs.left.Goals as goal

-- `board::left` meets its contract: the paper's voltages of what is shared. Assumes nothing.
pub voltage-requires-clause-up_plane : goal.voltage-requires-clause-up_plane
voltage-requires-clause-up_plane c = rw c.only_if.ensures (only_if_lem c.args.here c.requires.0.lift_small)

pub returns : goal.returns
returns c =
    let a = c.args in
    c.voltage.ensures ∙ (λ i. voltage_of (to_z-of_z {w = w64} {z = a.f.d} (search rules) i) a.f.i a.s.z1 a.s.z2 a.s.z0 (c.only_if.ensures i))
