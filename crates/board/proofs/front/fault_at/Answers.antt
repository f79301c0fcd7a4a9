use mathlib.Core.Bool.{not}
use mathlib.Core.Path.{ap, ◌∙◌}
use lib.Dec.{eqb}
use borrow.Author.Rules.{rules}
use mir.Syntax.{w64}
use mir.Facts.{to_z-of_z}
use Rattle.fault.specs.declared.Shorted.{Shorted}
use Rattle.board.specs.Faulted.{faulted_from}
use Rattle.board.proofs.front.fault_at.Goals as goal

-- `board::front::fault_at` meets its contract: it is the fault at the node's sums. Assumes nothing.
pub returns : goal.returns
unfolding faulted_from
returns c =
    let a = c.args in
    λ i. record {
      i = ap (λ (r : Shorted). r.i) c.short-s.ensures i;
      lift = ap (λ (r : Shorted). r.lift) c.short-s.ensures i;
      d = (to_z-of_z {w = w64} {z = c.short-s.result.d} (search rules) ∙ ap (λ (r : Shorted). r.d) c.short-s.ensures) i;
      head = a.at.head;
      turn = a.at.turn;
      phase = a.f.phase;
      earthed = not (eqb a.at.start 0);
    }
