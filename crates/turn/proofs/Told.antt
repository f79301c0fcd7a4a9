-- Numbers with numerals for coordinates, for tables of wrong answers: each told as one number, and its bound computed. Assumes nothing.
use mathlib.Core.Bool.{◌&&◌}
use mathlib.Core.List.{[], ◌∷◌}
use Prim.Native.Nat.{ℕ}
use lib.Dec.{T, leb, leb→le}
use lib.IntN.{ℤ, pos, neg_ℤ, nat_abs}
use Rattle.lemmas.specs.Small.{Small}
use Rattle.lemmas.proofs.Bools.{both_t}
use Rattle.lemmas.proofs.RuledOut.{wholes}
use Rattle.turn.specs.declared.Num.{Num}
use Rattle.turn.specs.Bounds.{Within}

abbrev pub minus : ℕ → ℤ
minus n = neg_ℤ (pos n)

abbrev pub num : ℤ → ℤ → ℤ → ℤ → Num
num x0 x1 x2 x3 = record { x0 = x0; x1 = x1; x2 = x2; x3 = x3 }

abbrev pub told : Num → ℕ
told n = wholes (n.x0 ∷ n.x1 ∷ n.x2 ∷ n.x3 ∷ [])

pub within : (b : ℕ) (n : Num) → T (leb (nat_abs n.x0) b && (leb (nat_abs n.x1) b && (leb (nat_abs n.x2) b && leb (nat_abs n.x3) b))) → Within b n
within b n t =
    let p = both_t (leb (nat_abs n.x0) b) (leb (nat_abs n.x1) b && (leb (nat_abs n.x2) b && leb (nat_abs n.x3) b)) t
    in let q = both_t (leb (nat_abs n.x1) b) (leb (nat_abs n.x2) b && leb (nat_abs n.x3) b) p.1
    in let r = both_t (leb (nat_abs n.x2) b) (leb (nat_abs n.x3) b) q.1
    in record { w0 = small n.x0 p.0; w1 = small n.x1 q.0; w2 = small n.x2 r.0; w3 = small n.x3 r.1 }
  where
    small : (z : ℤ) → T (leb (nat_abs z) b) → Small b z
    small z h = record { small = leb→le (nat_abs z) b h }
