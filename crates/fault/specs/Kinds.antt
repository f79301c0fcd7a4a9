-- 01, 'The four faults at board k': each kind by its name, with the paper's number. Assumes nothing.
use Rattle.std.specs.Prelude.{[], ◌∷◌, ℕ, get_or}
use Rattle.fault.specs.declared.kinds.FaultKind.{FaultKind}
use Rattle.fault.specs.declared.kinds.FaultKind.TheVariants.{ThreePhases, OneToEarth, TwoPhases, TwoToEarth, Nothing}

-- 0 three phases, clear of earth; 1 one phase to earth; 2 two phases; 3 two phases to earth. Nothing touches where the number is over 3
unfoldable pub kind_of : ℕ → FaultKind
kind_of n = get_or (ThreePhases ∷ OneToEarth ∷ TwoPhases ∷ TwoToEarth ∷ []) n Nothing

-- and back
unfoldable pub number_of : FaultKind → ℕ
number_of ThreePhases = 0
number_of OneToEarth = 1
number_of TwoPhases = 2
number_of TwoToEarth = 3
number_of Nothing = 4
