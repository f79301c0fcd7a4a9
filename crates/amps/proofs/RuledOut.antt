-- What the contract of this crate rules out: a call that it allows, and an answer that it does not. Assumes nothing.
use mathlib.Core.Bool.{Bool, true, false, not}
use mathlib.Core.List.{[], ◌∷◌}
use mathlib.Core.Path.{refl}
use Prim.Native.Nat.{ℕ, ◌*◌, ◌≤◌}
use lib.Dec.{lit≤}
use lib.IntN.{ℤ, pos, nat_abs}
use Rattle.lemmas.proofs.RuledOut.{◌↛◌, RuledOut, ever, by_test}
use Rattle.root.proofs.Tested.{is_root, root_passes}
use Rattle.paper.specs.declared.Ohms.{Ohms}
use Rattle.paper.specs.Kind.{ohms}
use Rattle.paper.specs.Amps.{factor}
use Rattle.amps.specs.Positive.{Positive}
use Rattle.amps.proofs.amps.Reads as amps

-- one volt, and a D of 1
asked : {unit : ℕ} → 1 ≤ unit → (1 ≤ 1000) × ((1 ≤ unit) × Positive (pos 1))
asked h = (lit≤ tt, (h, record { whole = refl; least = lit≤ tt }))

-- of a kind, with an earth return, and without one: Z2 is 3 + j4
abbrev kind : ℕ → ℕ × (ℕ × (Ohms × (ℤ × (ℕ × (Bool × Unit {0})))))
kind k = (1, (1, (ohms 3 4, (pos 1, (k, (true, tt))))))

abbrev without_return : ℕ → ℕ × (ℕ × (Ohms × (ℤ × (ℕ × (Bool × Unit {0})))))
without_return k = (1, (1, (ohms 3 4, (pos 1, (k, (false, tt))))))

pub amps_not : RuledOut (amps.Pre tt) (ever (amps.Post tt)) (
    kind 3 ↛ 5000000  -- earth_current_once
    ∷ kind 1 ↛ 1732050  -- factor_3_for_9
    ∷ kind 2 ↛ 3000000  -- factor_9_for_3
    ∷ (1, (4, (ohms 3 4, (pos 1, (0, (true, tt)))))) ↛ 500000  -- unit_not_squared
    ∷ kind 0 ↛ 1000  -- volts_in_thousands
    ∷ kind 1 ↛ 3000  -- volts_not_squared
    ∷ kind 3 ↛ 0  -- no_amps_with_return
    ∷ without_return 1 ↛ 3000000  -- amps_without_return
    ∷ without_return 3 ↛ 15000000  -- earth_amps_without_return
    ∷ without_return 3 ↛ 1732050  -- amps_of_two_phases
    ∷ without_return 2 ↛ 0  -- no_amps_clear_of_earth
    ∷ [])
unfolding factor
amps_not =
    by_test
    (λ a n. is_root (factor (not a.1.1.1.1.1.0) a.1.1.0 a.1.1.1.1.0 * ((a.0 * 1000000) * (a.0 * 1000000))) (nat_abs a.1.1.1.0 * (a.1.0 * a.1.0)) n)
    (λ a n s. root_passes s.1)
    (one, (one, (one, (asked (lit≤ tt), (one, (one, (one, (one, (one, (one, (one, tt))))))))))) tt
  where
    one : (1 ≤ 1000) × ((1 ≤ 1) × Positive (pos 1))
    one = asked (lit≤ tt)
