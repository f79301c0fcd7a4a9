use mathlib.Core.Path.{◌∙◌}
use mathlib.Core.List.{List, []}
use Rattle.lemmas.proofs.Solver.{var, ◌⊕◌, ⊝◌}
use Rattle.lemmas.proofs.Words.{Known, reads as read}
use Rattle.turn.specs.Number.{conj_n, ◌+N◌, ◌·N◌, power_n, times_t}
use Rattle.turn.proofs.Form.{by_coordinates}
use Rattle.turn.proofs.Conj.{conj_f}
use Rattle.turn.proofs.Operands.{coordinates}
use Rattle.phasor.proofs.sum.conj.Goals as goal

-- `phasor::sum::conj` meets its contract: what the code computes of the coordinates is the sum of their turned-back powers. Assumes nothing.
abbrev k : goal.After-struct_told-4-1 → List Known
k c = coordinates c.requires []

pub returns : goal.returns
unfolding conj_n ◌+N◌ ◌·N◌ power_n times_t
returns c =
    (λ i. record { x0 = read (k c) (var 0 ⊕ var 2) tt i; x1 = read (k c) (var 1) tt i; x2 = read (k c) (⊝ var 2) tt i; x3 = read (k c) (⊝ (var 1 ⊕ var 3)) tt i })
    ∙ by_coordinates 1 (λ a. record { f0 = a.f0 ⊕ a.f2; f1 = a.f1; f2 = ⊝ a.f2; f3 = ⊝ (a.f1 ⊕ a.f3) }) conj_f tt c.args.a
