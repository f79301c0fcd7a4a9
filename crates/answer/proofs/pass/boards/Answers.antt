use mathlib.Core.Bool.{Bool}
use mathlib.Core.List.{List}
use mathlib.Core.Path.{◌≡◌, refl, ap, ◌∙◌}
use Prim.Native.Nat.{ℕ, ◌+◌, ◌*◌, ◌-◌, ◌≤◌, ◌<◌}
use native.Mathlib.Omega.{arith}
use lib.ListN.{set}
use borrow.Rule.Slice.PartMut.{put_mid}
use Rattle.lemmas.specs.Over.{over}
use Rattle.paper.specs.Answer.{of_boards}
use Rattle.paper.specs.Phase.{Asked}
use Rattle.board.specs.declared.front.Faulted.{Faulted}
use Rattle.node.specs.declared.Node.{Node}
use Rattle.answer.specs.Passing.{Passing}
use Rattle.answer.proofs.Boards.{Turned, feeder_before, no_turn, up_is, share_is, turn_fits, shares_fit, fault_small, goes_on, keeps_length, part_length}
use Rattle.answer.proofs.pass.boards.Goals as goal

-- no board is past the table
few : {q : Asked} {nodes : List Node} {n : ℕ} {on : List Bool} {f : Faulted} → Passing q nodes n on f → n ≤ 256
few p = let m = p.ready.few in let a = p.all in omega arith

pub loop-j-init : goal.loop-j-init
loop-j-init c = (omega arith, refl, λ q p. no_turn p c.args.out.now)

-- the feeder's place is one of the table
pub shared_at-requires : goal.shared_at-requires
shared_at-requires c =
    let (q, p, _) = c.requires in
    let h : c.loop-j.j < c.args.n = omega arith in
    omega (arith, few p, feeder_before p h (c.loop-j.invariant.2 q p) refl)

pub board-requires : goal.board-requires
board-requires c =
    let (q, p, room) = c.requires in
    let h : c.loop-j.j < c.args.n = omega arith in
    let t = c.loop-j.invariant.2 q p in (
      part_length (13 + 24 * c.loop-j.j) c.loop-j.out (omega (arith, c.loop-j.invariant.1)),
      fault_small q p.ready p.faulted_is,
      shares_fit p h t refl (share_is p h t refl refl refl (up_is p h t refl c.shared_at.ensures) c.share-s.ensures),
      turn_fits p h t refl,
    )

pub loop-j-preserved : goal.loop-j-preserved
loop-j-preserved c =
    let (q, p, room) = c.requires in
    let h : c.loop-j.j < c.args.n = omega arith in
    let j = c.loop-j.j in
    let done : (q : Asked) (p : Passing q c.args.nodes.now c.args.n c.args.on.now c.args.f) → Turned p c.args.out.now (put_mid (13 + 24 * j) (13 + 24 * j + 24 - (13 + 24 * j)) c.loop-j.out c.board.new.out) _ (j + 1) =
    λ q p.
    let t = c.loop-j.invariant.2 q p in
    goes_on p h t refl (13 + 24 * j + 24 - (13 + 24 * j)) (omega arith) room (share_is p h t refl refl refl (up_is p h t refl c.shared_at.ensures) c.share-s.ensures) refl (ap (set c.loop-j.nodes j) c.put_in-passed.ensures)
    c.board.ensures
    in
    (omega arith, keeps_length p (omega arith) room (done q p), done)

pub returns : goal.returns
returns c q p =
    let e : c.loop-j.j ≡ c.args.n = omega arith in
    (c.loop-j.invariant.2 q p).written ∙ ap (λ (m : ℕ). over 13 (of_boards q 1 m) c.args.out.now) e
