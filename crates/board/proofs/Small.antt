-- What the phases ask of a board's voltages and currents. Assumes nothing.
use mathlib.Core.Bool.{Bool}
use Rattle.paper.specs.Bounds.{Plane, EachSeq, most_w}
use Rattle.paper.specs.Phase.{only_if, voltage_of}
use Rattle.fits.proofs.Sizes.{voltage_of_plane}
use Rattle.fits.proofs.Fits.{only_if_lem, as_wide}
use Rattle.chain.specs.declared.share.Shared.{Shared}
use Rattle.chain.specs.Carried.{carried_of}
use Rattle.board.specs.declared.front.Faulted.{Faulted}
use Rattle.board.specs.Faulted.{FaultSmall}
use Rattle.board.specs.Numbers.{ShareSmall}

module _ {f : Faulted} (h : FaultSmall f) where
  pub left_small : (here : Bool) {s : Shared} → ShareSmall s → EachSeq (Plane most_w) (voltage_of f.d f.i s.z1 s.z2 s.z0 (only_if here f.lift))
  left_small here u = voltage_of_plane h.d_small h.i_small u.share1 u.share2 u.share0 (only_if_lem here h.lift_small)

  pub passed_small : (on earth : Bool) → EachSeq (Plane most_w) (carried_of on earth f.i)
  unfolding carried_of
  passed_small on earth = let i = h.i_small in as_wide (record { e1 = only_if_lem on i.e1; e2 = only_if_lem on i.e2; e0 = only_if_lem earth i.e0 })
