-- 01, 'Record kinds': the kinds by name, and their numbers in the table ("When an answer is an enum, a definition specifies this paper's number"). Assumes nothing.
use Rattle.std.specs.Prelude.{ℕ, zero, suc, ◌+◌, Result, Ok, Err}
use Rattle.kind.specs.declared.Kind.{Kind}
use Rattle.kind.specs.declared.Kind.TheVariants.{Source, FloatingSource, Cable, StarStar, DeltaStar, Blocking}
use Rattle.kind.specs.declared.UnknownKind.{UnknownKind}

abbrev pub number_of : Kind → ℕ
number_of Source = 0
number_of FloatingSource = 1
number_of Cable = 2
number_of StarStar = 3
number_of DeltaStar = 4
number_of Blocking = 5

-- the kind of a number
abbrev pub named : ℕ → Result Kind UnknownKind
named zero = Ok Source
named (suc zero) = Ok FloatingSource
named (suc (suc zero)) = Ok Cable
named (suc (suc (suc zero))) = Ok StarStar
named (suc (suc (suc (suc zero)))) = Ok DeltaStar
named (suc (suc (suc (suc (suc zero))))) = Ok Blocking
named (suc (suc (suc (suc (suc (suc n)))))) = Err (record { 0 = 6 + n })
