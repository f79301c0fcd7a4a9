use mathlib.Core.Path.{ap, ◌∙◌}
use lib.IntN.{ℤ}
use mir.Facts.{to_z-of_z}
use Rattle.turn.specs.declared.Num.{Num}
use Rattle.turn.specs.Number.{whole_n, ◌-N◌, neg_n, ◌*N◌}
use Rattle.turn.proofs.Ring.{+N_comm}
use Rattle.paper.specs.Fault.{num_of, seq}
use Rattle.paper.specs.Phase.{voltage_of}
use Rattle.fits.proofs.Needs.{for_voltage, within_is}
use Rattle.fault.proofs.volts.voltage.Goals as goal

-- `fault::volts::voltage` meets its contract. Assumes nothing.
pub neg-requires : goal.neg-requires
neg-requires c = let p = c.requires in within_is c.drop.ensures (for_voltage p.i_plane p.zb_at_most p.zc_at_most p.up_plane).drop2

pub sub-requires : goal.sub-requires
sub-requires c =
    let p = c.requires in
    let n = for_voltage p.i_plane p.zb_at_most p.zc_at_most p.up_plane in
    (n.lifts, within_is c.drop-2.ensures n.drop0)

pub returns : goal.returns
unfolding voltage_of
returns c =
    let a = c.args in
    c.seq.ensures
    ∙ (λ i. seq ((c.first.ensures ∙ ap (λ (d : ℤ). whole_n d -N num_of a.za *N a.i.s1) (to_z-of_z c.ranges.d)) i)
    ((c.neg.ensures ∙ ap neg_n c.drop.ensures) i)
    ((c.sub.ensures ∙ ap (λ (n : Num). a.up -N n) c.drop-2.ensures ∙ +N_comm a.up (neg_n (num_of a.zc *N a.i.s0))) i))
