-- Impedances and sequences made of numerals, for tables of wrong answers: told as numbers, and their bounds computed. Assumes nothing.
use mathlib.Core.Bool.{◌&&◌}
use mathlib.Core.List.{List, [], ◌∷◌, ◌++◌}
use Prim.Native.Nat.{ℕ}
use lib.Dec.{T, leb, leb→le}
use lib.IntN.{ℤ}
use Rattle.lemmas.proofs.Bools.{both_t}
use Rattle.paper.specs.declared.Ohms.{Ohms}
use Rattle.paper.specs.declared.Seq.{Seq}
use Rattle.paper.specs.Bounds.{AtMost}
use Rattle.paper.specs.Kind.{ohms}
use Rattle.paper.specs.Phase.{four}

abbrev pub parts : Ohms → List ℕ
parts z = z.r ∷ z.x ∷ []

abbrev pub sequences : Seq → List ℤ
sequences s = four s.s1 ++ (four s.s2 ++ four s.s0)

pub small : {most r x : ℕ} → T (leb r most && leb x most) → AtMost most (ohms r x)
small {most} {r} {x} t = let h = both_t (leb r most) (leb x most) t in record { r_most = leb→le r most h.0; x_most = leb→le x most h.1 }
