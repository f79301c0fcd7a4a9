-- Impedances in counts: bounds of their parts, and when a sum is zero. Assumes nothing.
use mathlib.Core.Bool.{true, false}
use mathlib.Core.Path.{◌≡◌}
use Prim.Native.Nat.{ℕ}
use native.Mathlib.Nat.{add-zero}
use native.Mathlib.Omega.{arith}
use lib.Dec.{ltb, eqb}
use borrow.Author.Tests.{ltb-false, eqb-true}
use Rattle.paper.specs.declared.Ohms.{Ohms}
use Rattle.paper.specs.Kind.{ohms, ◌+Ω◌, is_zero, part_over}
use Rattle.paper.specs.Bounds.{AtMost}
use Rattle.lemmas.proofs.Bools.{both, neither}

pub add_nothing : (a : Ohms) → a +Ω ohms 0 0 ≡ a
unfolding ◌+Ω◌
add_nothing a = simp add-zero

-- ---- no part over
pub not_over : (most : ℕ) (z : Ohms) → part_over most z ≡ false → AtMost most z
unfolding part_over
not_over most z h =
    let (r, x) = neither (ltb most z.r) (ltb most z.x) h in
    record { r_most = ltb-false most z.r r; x_most = ltb-false most z.x x }

-- ---- zero: parts are natural numbers, so a sum is zero only where both its terms are
zero_parts : (a : Ohms) → is_zero a ≡ true → (a.r ≡ 0) × (a.x ≡ 0)
unfolding is_zero
zero_parts a h = let (r, x) = both (eqb a.r 0) (eqb a.x 0) h in (eqb-true a.r 0 r, eqb-true a.x 0 x)

parts_zero : (a : Ohms) → a.r ≡ 0 → a.x ≡ 0 → is_zero a ≡ true
unfolding is_zero
parts_zero a r x = simp (r, x)

pub zero_terms : (a b : Ohms) → is_zero (a +Ω b) ≡ true → (is_zero a ≡ true) × (is_zero b ≡ true)
unfolding ◌+Ω◌
zero_terms a b h =
    let (r, x) = zero_parts (a +Ω b) h in
    (parts_zero a (omega arith) (omega arith), parts_zero b (omega arith) (omega arith))
