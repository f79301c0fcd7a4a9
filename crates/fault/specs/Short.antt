-- A fault in the paper's definitions, of impedances. Assumes nothing.
use Rattle.std.specs.Prelude.{Bool, not, ℕ}
use Rattle.turn.specs.Number.{whole_n, ◌-N◌, ◌*N◌}
use Rattle.paper.specs.declared.Ohms.{Ohms}
use Rattle.paper.specs.Fault.{num_of, short_of, D, currents, lift_of}
use Rattle.paper.specs.Phase.{only_if}
use Rattle.fault.specs.declared.Shorted.{Shorted}

-- D, I1, I2 and I0 over it, and what W0 is lifted by
unfoldable pub shorted_of : Ohms → Ohms → Ohms → Ohms → ℕ → Bool → Shorted
shorted_of z1 z2 z0 zf kind earthed =
    let s = short_of (num_of z1) (num_of z2) (num_of z0) (num_of zf) (not earthed) kind in
    record { d = D s; i = currents s; lift = only_if (not earthed) (lift_of kind (whole_n (D s) -N num_of z1 *N (currents s).s1)) }
