use mathlib.Core.Path.{refl}
use lib.Dec.{lit≤}
use Rattle.fits.proofs.Plane.{plane_num, factors}
use Rattle.fits.proofs.Needs.{factors_are}
use Rattle.fault.proofs.volts.drop.Goals as goal

-- `fault::volts::drop` meets its contract. Assumes nothing.
pub mul-requires : goal.mul-requires
mul-requires c = let p = c.requires in factors_are c.from.ensures refl (factors (plane_num p.z_at_most) p.i_plane (lit≤ tt))
