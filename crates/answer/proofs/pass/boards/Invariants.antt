use mathlib.Core.Path.{◌≡◌}
use Prim.Native.Nat.{◌≤◌}
use lib.ListN.{length}
use Rattle.paper.specs.Phase.{Asked}
use Rattle.answer.specs.Passing.{Passing}
use Rattle.answer.proofs.Boards.{Turned}
use Rattle.answer.proofs.pass.boards.Given as goal

-- `answer::pass::boards` meets its contract: after j turns the numbers of j boards stand behind the top. Assumes nothing.
abbrev pub invariant-loop-j : goal.invariant-loop-j
invariant-loop-j l = (l.j ≤ l.n) × (length l.out ≡ length l.initial.out) × ((q : Asked) (p : Passing q l.initial.nodes l.n l.on l.f) → Turned p l.initial.out l.out l.nodes l.j)
