use mathlib.Core.Path.{refl, ◌∙◌}
use Prim.Native.Nat.{◌+◌, ◌*◌}
use borrow.Author.Rules.{rules}
use Rattle.fits.proofs.Plane.{plane_turn}
use Rattle.fits.proofs.Needs.{within_is}
use Rattle.board.proofs.Sums.{laid_shows}
use Rattle.board.proofs.phases.phases.Goals as goal

-- `board::phases::phases` meets its contract. Assumes nothing.
pub quarters-u-requires : goal.quarters-u-requires
quarters-u-requires c = c.requires.x_plane.e0

pub quarters-v-requires : goal.quarters-v-requires
quarters-v-requires c = c.requires.x_plane.e1

pub quarters-w-requires : goal.quarters-w-requires
quarters-w-requires c = c.requires.x_plane.e2

pub three-requires : goal.three-requires
three-requires c =
    let a = c.args in
    let x = c.requires.x_plane in (
      within_is c.quarters-u.ensures (plane_turn (9 * 0) x.e0),
      within_is c.quarters-v.ensures (plane_turn (9 * (11 * a.sj + a.sk)) x.e1),
      within_is c.quarters-w.ensures (plane_turn (9 * (a.sj + 11 * a.sk)) x.e2),
    )

pub returns : goal.returns
returns c =
    let a = c.args in
    c.three.ensures ∙ laid_shows a.p.n a.sj a.sk a.x a.out.now (search rules) refl c.quarters-u.ensures c.quarters-v.ensures c.quarters-w.ensures
