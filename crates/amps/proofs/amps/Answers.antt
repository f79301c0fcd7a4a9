use mathlib.Core.Bool.{Bool, not}
use mathlib.Core.Path.{◌≡◌, refl, sym, ap, subst}
use Prim.Native.Nat.{ℕ, zero, suc}
use native.Mathlib.Nat.{mul-pos}
use native.Mathlib.Omega.{arith}
use lib.Dec.{T}
use lib.IntN.{ℤ, nat_abs}
use lib.Signed.{mag, non_neg}
use mir.Syntax.{w64}
use mir.Val.{Fits, SFits}
use mir.Facts.{to_z-of_z}
use Rattle.lemmas.proofs.Words.{kept}
use Rattle.paper.specs.declared.Ohms.{Ohms}
use Rattle.paper.specs.Amps.{factor}
use Rattle.fault.specs.Kinds.{kind_of, number_of}
use Rattle.amps.specs.Positive.{Positive}
use Rattle.amps.proofs.amps.Goals as goal

-- `amps::amps` meets its contract: both products are those of their words, and the root is of them. Assumes nothing.
-- a positive word with a sign is the same without
unsigned : {d : ℤ} → Positive d → SFits w64 d → T (non_neg (kept d)) × Fits w64 (nat_abs (kept d))
unsigned p f = rw (to_z-of_z f) (subst (λ (z : ℤ). T (non_neg z)) (sym p.whole) tt, record { fits = omega (arith, f.sfits, ap mag p.whole) })

-- the factor of a number is that of the kind that it names
same_factor : (unearthed : Bool) (z2 : Ohms) (kind : ℕ) → factor unearthed z2 (number_of (kind_of kind)) ≡ factor unearthed z2 kind
unfolding kind_of number_of factor
same_factor u z2 zero = refl
same_factor u z2 (suc zero) = refl
same_factor u z2 (suc (suc zero)) = refl
same_factor u z2 (suc (suc (suc zero))) = refl
same_factor u z2 (suc (suc (suc (suc k)))) = refl

pub overflow_cast-n : goal.overflow_cast-n
overflow_cast-n c = unsigned c.requires.d_positive c.ranges.d

pub root-requires : goal.root-requires
root-requires c =
    rw (c.product-2.ensures, to_z-of_z c.ranges.d) (mul-pos c.requires.d_positive.least (omega (arith, mul-pos c.requires.unit_at_least c.requires.unit_at_least)))

pub returns : goal.returns
returns c =
    rw (c.product.ensures, c.product-2.ensures, c.factor.ensures, c.from.ensures, same_factor (not c.args.earthed) c.args.z2 c.args.kind, to_z-of_z c.ranges.d)
    at c.root.ensures
