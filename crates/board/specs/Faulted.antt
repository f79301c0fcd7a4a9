-- The faulted board as the pass over the boards knows it. That its numbers are the paper's is a theorem (`answer`, `Boards`). Assumes nothing.
use Rattle.std.specs.Prelude.{not, List, ◌∷◌, ◌≤◌, eqb, ℤ}
use Rattle.lemmas.specs.Small.{Small}
use Rattle.paper.specs.declared.Fault.{Fault}
use Rattle.paper.specs.Bounds.{Plane, EachSeq, most_d, most_i, most_lift}
use Rattle.paper.specs.Phase.{phases}
use Rattle.paper.specs.Answer.{flat}
use Rattle.node.specs.declared.Node.{Node}
use Rattle.fault.specs.Short.{shorted_of}
use Rattle.board.specs.declared.front.Faulted.{Faulted}

-- ---- from the faulted board's node and the fault
unfoldable pub faulted_from : Node → Fault → Faulted
faulted_from at f =
    let earthed = not (eqb at.start 0) in
    let s = shorted_of at.z1 at.z2 at.z0 f.zf f.kind earthed in
    record { i = s.i; lift = s.lift; d = s.d; head = at.head; turn = at.turn; phase = f.phase; earthed = earthed }

-- D, "then the fault currents of phases a, b, c"
unfoldable pub top_of : Faulted → List ℤ
top_of f = f.d ∷ flat (phases f.phase 0 0 f.i)

-- ---- what keeps the numbers in their words
pub record FaultSmall (f : Faulted) : Type 0 where
  pub d_small : Small most_d f.d
  pub i_small : EachSeq (Plane most_i) f.i
  pub lift_small : Plane most_lift f.lift
  pub turn_small : f.turn ≤ 2816
  pub phase_to : f.phase ≤ 2
