use mathlib.Core.Path.{◌≡◌, refl, ap, ◌∙◌}
use mathlib.Core.List.{List, [], ◌∷◌}
use Prim.Native.Nat.{ℕ, ◌<◌}
use native.Mathlib.Omega.{arith}
use lib.IntN.{ℤ, pos}
use lib.ListN.{get_or}
use Rattle.lemmas.specs.Table.{tab}
use Rattle.lemmas.proofs.Table.{each_at}
use Rattle.lemmas.proofs.Words.{kept}
use Rattle.turn.specs.declared.Num.{Num}
use Rattle.turn.specs.Number.{power_n, times_t}
use Rattle.turn.proofs.Powers.{power_mod}
use Rattle.phasor.proofs.turns.row.Goals as goal

-- `phasor::turns::row` meets its contract: the table is the powers of t, by one computed test of its twelve rows, and twelve turns go round. Assumes nothing.
-- a row of the table, and the number that is read of one
abbrev line : ℕ → List ℤ
line n = let a = power_n n in a.x0 ∷ a.x1 ∷ a.x2 ∷ a.x3 ∷ []

abbrev number : List ℤ → Num
number x = record { x0 = kept (get_or x 0 (pos 0)); x1 = kept (get_or x 1 (pos 0)); x2 = kept (get_or x 2 (pos 0)); x3 = kept (get_or x 3 (pos 0)) }

pub returns : goal.returns
unfolding power_n times_t
returns c =
    let s = c in
    let h = s.hour.result in
    let below : h < 12 = omega arith in
    each_at (λ (n : ℕ). number (get_or (tab line 0 12) n []) ≡ power_n n) 12 h below
    (refl, (refl, (refl, (refl, (refl, (refl, (refl, (refl, (refl, (refl, (refl, (refl, tt))))))))))))
    ∙ ap power_n s.hour.ensures
    ∙ power_mod s.args.n
