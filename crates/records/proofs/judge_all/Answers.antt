-- A turn of the loop: what it picks as the feeder's node is that node, what it reads is the record's, and so its step goes on or refuses the network.
use mathlib.Core.Path.{◌≡◌, sym, ◌∙◌, ap, subst}
use Prim.Native.Nat.{ℕ, ◌+◌, ◌*◌, ◌≤◌, ◌<◌}
use native.Mathlib.Omega.{arith}
use Rattle.paper.specs.File.{board_of}
use Rattle.file.proofs.Decoded.{part_is}
use Rattle.node.specs.Node.{node_of}
use Rattle.node.proofs.Records.{count}
use Rattle.records.specs.Rules.{fed_by}
use Rattle.records.proofs.Reading.{Read, read_none, before, feeder}
use Rattle.records.proofs.Turn.{up_read, up_fits, goes_on, refuses, all_read}
use Rattle.records.proofs.judge_all.Goals as goal
use Rattle.records.proofs.judge_all.Goals.{After-fed_by-up}

-- what a turn knows once the feeder's node is picked
few : (c : After-fed_by-up) → count c.args.net.now ≤ 256
few c = omega (arith, c.requires.n_value)

more : (c : After-fed_by-up) → c.loop-i.i < count c.args.net.now
more c = omega (arith, c.requires.n_value, c.loop-i-test.true)

up : (c : After-fed_by-up)
    → c.fed_by-up.result ≡ node_of (before c.args.net.now c.loop-i.i c.loop-i.nodes (more c) c.loop-i.invariant) (feeder c.args.net.now c.loop-i.i c.loop-i.nodes (more c) c.loop-i.invariant)
up c =
    up_read c.args.net.now c.loop-i.i c.loop-i.nodes (more c) c.loop-i.invariant (few c) c.requires.places_value
    (c.fed_by-up.ensures ∙ ap (λ (k : ℕ). fed_by k c.loop-i.nodes) c.earlier.ensures.0)

pub loop-i-init : goal.loop-i-init
loop-i-init c = subst (Read c.args.net.now 0) (sym c.requires.nodes_value) (read_none c.args.net.now)

pub step-requires : goal.step-requires
step-requires c =
    let t = (goal.at.step-requires c).After-fed_by-up in
    (omega (arith, c.requires.n_value), up_fits c.args.net.now c.loop-i.i c.loop-i.nodes (more t) c.loop-i.invariant (few t) (up t))

pub returns-in-Err : goal.returns-in-Err
returns-in-Err c =
    let t = (goal.at.returns-in-Err c).After-fed_by-up in
    let r =
    refuses c.args.net.now c.loop-i.i c.loop-i.nodes (more t) c.loop-i.invariant (few t) (up t) c.u16_at.ensures (c.board_of.ensures ∙ ap board_of (part_is c.args.net.now (8 + 44 * c.loop-i.i)))
    c.requires.places_value
    c.step.ensures
    c.in-Err.is
    c.refused.ensures
    in
    record { value = r.0; nodes_after = r.1 }

pub loop-i-preserved : goal.loop-i-preserved
loop-i-preserved c =
    let t = (goal.at.loop-i-preserved c).After-fed_by-up in
    goes_on c.args.net.now c.loop-i.i c.loop-i.nodes (more t) c.loop-i.invariant (few t) (up t) c.u16_at.ensures (c.board_of.ensures ∙ ap board_of (part_is c.args.net.now (8 + 44 * c.loop-i.i)))
    c.requires.places_value
    c.step.ensures
    c.in-Ok.is

pub returns : goal.returns
returns c = let r = all_read c.args.net.now c.loop-i.invariant (omega (arith, c.requires.n_value)) in record { value = r.0; nodes_after = λ e. r.1 }
