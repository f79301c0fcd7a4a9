-- What an `Impedances` says of its four impedances, as the bounds know it. Assumes nothing.
use Rattle.fits.proofs.Sizes.{Ranged}
use Rattle.fault.specs.declared.impedances.Impedances.{Impedances}

pub ranged : (z : Impedances) → Ranged z.z1 z.z2 z.z0 z.zf
ranged z = record { upto1 = z.z1_at_most; upto2 = z.z2_at_most; upto0 = z.z0_at_most; uptof = z.zf_at_most }
