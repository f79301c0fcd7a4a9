use mathlib.Core.List.{[], ◌∷◌}
use mathlib.Core.Path.{◌≡◌, sym}
use Prim.Native.Nat.{ℕ, ◌≤◌}
use native.Mathlib.Omega.{arith}
use lib.ListN.{get_or-eq_default}
use Rattle.fault.specs.declared.kinds.FaultKind.TheVariants.{ThreePhases, OneToEarth, TwoPhases, TwoToEarth, Nothing}
use Rattle.fault.specs.Kinds.{kind_of}
use Rattle.fault.proofs.kinds.FaultKindFromU8.from.Goals as goal

-- The kind of a number is found by the table of kinds. Assumes nothing.
over : (n : ℕ) → 4 ≤ n → Nothing ≡ kind_of n
unfolding kind_of
over n h = sym (get_or-eq_default (ThreePhases ∷ OneToEarth ∷ TwoPhases ∷ TwoToEarth ∷ []) Nothing h)

pub returns-in-0 : goal.returns-in-0
unfolding kind_of
returns-in-0 c = rw c.in-0.is

pub returns-in-1 : goal.returns-in-1
unfolding kind_of
returns-in-1 c = rw c.in-1.is

pub returns-in-2 : goal.returns-in-2
unfolding kind_of
returns-in-2 c = rw c.in-2.is

pub returns-in-3 : goal.returns-in-3
unfolding kind_of
returns-in-3 c = rw c.in-3.is

pub returns-in_default : goal.returns-in_default
returns-in_default c = over c.args.number (omega arith)
