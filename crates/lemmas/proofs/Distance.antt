-- How far a whole number is from 0, and what a sum, a difference and a product add to that. Assumes nothing.
use mathlib.Core.Path.{◌≡◌, refl, ap}
use mathlib.Core.Bool.{Bool, true, false, cond}
use Prim.Native.Nat.{ℕ, zero, suc, ◌+◌, ◌*◌, ◌-◌, ◌≤◌, ◌<◌}
use native.Mathlib.Omega.{arith}
use native.Mathlib.Nat.{le_refl, le_trans, add-le-add, mul-le-mul, le_of_eq}
use lib.Dec.{T, ltb, ltb→lt}
use lib.IntN.{ℤ, pos, negsuc, neg_ℤ, nat_abs, sub_ℕ, ◌+ℤ◌, ◌-ℤ◌, ◌*ℤ◌}
use Rattle.lemmas.specs.Small.{Small}

pub nat_abs_neg : (z : ℤ) → nat_abs (neg_ℤ z) ≡ nat_abs z
nat_abs_neg (pos zero) = refl
nat_abs_neg (pos (suc n)) = refl
nat_abs_neg (negsuc n) = refl

pub nat_abs_mul : (a b : ℤ) → nat_abs (a *ℤ b) ≡ nat_abs a * nat_abs b
nat_abs_mul (pos a) (pos b) = refl
nat_abs_mul (pos a) (negsuc b) = nat_abs_neg (pos (a * suc b))
nat_abs_mul (negsuc a) (pos b) = nat_abs_neg (pos (suc a * b))
nat_abs_mul (negsuc a) (negsuc b) = refl

nat_abs_subℕ : (a b : ℕ) → nat_abs (sub_ℕ a b) ≤ a + b
nat_abs_subℕ a b = go (ltb a b) (ltb→lt a b)
  where
    go : (c : Bool) → (T c → a < b) → nat_abs (cond c (negsuc (b - suc a)) (pos (a - b))) ≤ a + b
    go true h = let k : a < b = h tt in omega arith
    go false h = omega arith

pub nat_abs_add : (a b : ℤ) → nat_abs (a +ℤ b) ≤ nat_abs a + nat_abs b
nat_abs_add (pos a) (pos b) = le_refl (a + b)
nat_abs_add (pos a) (negsuc b) = nat_abs_subℕ a (suc b)
nat_abs_add (negsuc a) (pos b) = let h = nat_abs_subℕ b (suc a) in omega arith
nat_abs_add (negsuc a) (negsuc b) = omega arith

-- only 0 is 0 from 0
pub nat_abs_zero : (z : ℤ) → nat_abs z ≡ 0 → z ≡ pos 0
nat_abs_zero (pos n) h = ap pos h
nat_abs_zero (negsuc n) h = let z : ⊥ = omega arith in absurd z

-- ---- the bounds of what is computed
pub small_itself : (z : ℤ) → Small (nat_abs z) z
small_itself z = record { small = le_refl (nat_abs z) }

pub small_weak : {b d : ℕ} {z : ℤ} → b ≤ d → Small b z → Small d z
small_weak h p = record { small = le_trans p.small h }

pub small_neg : {b : ℕ} {x : ℤ} → Small b x → Small b (neg_ℤ x)
small_neg {b} {x} p = record { small = le_trans (le_of_eq (nat_abs_neg x)) p.small }

pub small_add : {b d : ℕ} {x y : ℤ} → Small b x → Small d y → Small (b + d) (x +ℤ y)
small_add {x = x} {y} p q = record { small = le_trans (nat_abs_add x y) (add-le-add p.small q.small) }

pub small_sub : {b d : ℕ} {x y : ℤ} → Small b x → Small d y → Small (b + d) (x -ℤ y)
small_sub p q = small_add p (small_neg q)

pub small_mul : {b d : ℕ} {x y : ℤ} → Small b x → Small d y → Small (b * d) (x *ℤ y)
small_mul {x = x} {y} p q = record { small = le_trans (le_of_eq (nat_abs_mul x y)) (mul-le-mul p.small q.small) }

-- ---- squares
pub square_pos : (z : ℤ) → z *ℤ z ≡ pos (nat_abs z * nat_abs z)
square_pos (pos n) = refl
square_pos (negsuc n) = refl

-- a sum of two squares is 0 only of two zeros
pub squares_zero : (r x : ℤ) → nat_abs r * nat_abs r + nat_abs x * nat_abs x ≡ 0 → (r ≡ pos 0) × (x ≡ pos 0)
squares_zero r x h = (nat_abs_zero r (root (nat_abs r) (nat_abs x * nat_abs x) h), nat_abs_zero x (root (nat_abs x) (nat_abs r * nat_abs r) (omega arith)))
  where
    root : (n m : ℕ) → n * n + m ≡ 0 → n ≡ 0
    root zero m h = refl
    root (suc n) m h = let z : ⊥ = omega arith in absurd z
