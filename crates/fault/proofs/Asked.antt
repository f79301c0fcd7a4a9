-- What the functions compute, of a question: the paper's D, currents, lift and voltages. Assumes nothing.
use mathlib.Core.Path.{◌≡◌, refl}
use mathlib.Core.Bool.{Bool, true, false, not}
use Prim.Native.Nat.{ℕ}
use Rattle.turn.specs.Number.{whole_n, ◌-N◌, ◌*N◌}
use Rattle.paper.specs.declared.Ohms.{Ohms}
use Rattle.paper.specs.Fault.{num_of, short_of, D, currents, lift_of}
use Rattle.paper.specs.Chain.{joined, unearthed, Z1, Z2, Z0, shared1, shared2, shared0}
use Rattle.paper.specs.Phase.{Asked, only_if, voltage_of, the_short, the_d, the_i, lift, voltage}
use Rattle.fault.specs.Short.{shorted_of}

-- by whether there is no earth return, as the paper asks, and not by whether there is one
shorted_by : (z1 z2 z0 zf : Ohms) (kind : ℕ) (unearthed : Bool) → let s = short_of (num_of z1) (num_of z2) (num_of z0) (num_of zf) unearthed kind in
    shorted_of z1 z2 z0 zf kind (not unearthed) ≡ record { d = D s; i = currents s; lift = only_if unearthed (lift_of kind (whole_n (D s) -N num_of z1 *N (currents s).s1)) }
unfolding shorted_of
shorted_by z1 z2 z0 zf kind true = refl
shorted_by z1 z2 z0 zf kind false = refl

module _ (q : Asked) where
  open q use {boards, fault, k}

  pub shorted_is : shorted_of (Z1 boards k) (Z2 boards k) (Z0 boards k) fault.zf fault.kind (not (unearthed boards k)) ≡ record { d = the_d q; i = the_i q; lift = lift q }
  unfolding the_short the_d the_i lift
  shorted_is = shorted_by (Z1 boards k) (Z2 boards k) (Z0 boards k) fault.zf fault.kind (unearthed boards k)

  pub voltage_is : (j : ℕ) → voltage_of (the_d q) (the_i q) (shared1 boards j k) (shared2 boards j k) (shared0 boards j k) (only_if (joined boards j k) (lift q)) ≡ voltage q j
  unfolding voltage
  voltage_is j = refl
