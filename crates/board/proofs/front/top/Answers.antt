use mathlib.Core.Path.{ap, ◌∙◌}
use native.Mathlib.Omega.{arith}
use borrow.Author.Rules.{rules}
use lib.ListN.{length-set}
use mir.Syntax.{w64}
use mir.Facts.{to_z-of_z}
use Rattle.paper.specs.Phase.{phases}
use Rattle.paper.specs.Answer.{flat}
use Rattle.fits.proofs.Fits.{as_wide}
use Rattle.board.specs.Faulted.{top_of}
use Rattle.board.proofs.Rows.{one_and_part, phases_length}
use Rattle.board.proofs.Sums.{same_turn}
use Rattle.board.proofs.front.top.Goals as goal

-- `board::front::top` meets its contract: D, and the currents behind it. Assumes nothing.
pub slice_bounds-shown-end : goal.slice_bounds-shown-end
slice_bounds-shown-end c = simp length-set (omega arith)

pub shown-requires : goal.shown-requires
shown-requires c = let h = c.requires.1 in record { out_len = search rules; phase_bound = (h.phase_to, h.turn_small, h.turn_small); x_plane = as_wide h.i_small }

pub returns : goal.returns
unfolding top_of
returns c =
    let f = c.args.f in
    one_and_part 12 f.d c.args.out.now (flat (phases f.phase 0 0 f.i)) (to_z-of_z {w = w64} {z = f.d} (search rules)) (c.shown.ensures ∙ ap flat (same_turn f.phase f.turn f.i))
    (phases_length f.phase 0 0 f.i)
    c.requires.0
