-- Laws of the root, for the proofs here and in the crates above.
use Rattle.std.proofs.Common.{◌≡◌, ℕ, zero, suc, ◌+◌, ◌*◌, ◌<◌, ◌≤◌, le_trans, lt_of_le_of_lt, le_of_lt, mul-le-mul_right, mul-le-mul, le_antisymm, mul-le-mul_left, mul-lt-mul_of_pos_right, lt_of_not-le, not-le_of_lt, arith}
use native.Mathlib.Decide.{dec_le}
use Rattle.root.specs.Root.{Root}

square_le : {a b : ℕ} (den : ℕ) → a ≤ b → a * a * den ≤ b * b * den
square_le den h = mul-le-mul_right den (mul-le-mul h h)

square_more : {a b den : ℕ} → 0 < den → a < b → a * a * den < b * b * den
square_more {a = a} pos h = mul-lt-mul_of_pos_right (lt_of_le_of_lt (mul-le-mul_left a (le_of_lt h)) (mul-lt-mul_of_pos_right h (omega arith))) pos

square_lt : {a b : ℕ} (den : ℕ) → a * a * den < b * b * den → a < b
square_lt den h = lt_of_not-le (λ g. not-le_of_lt h (square_le den g))

-- the numbers up to the root reach num, and no others do
pub root_reaches : {num den n m : ℕ} → Root num den n → m ≤ n → m * m * den ≤ num
root_reaches {den = den} r h = le_trans (square_le den h) r.low

pub root_greatest : {num den n : ℕ} (m : ℕ) → Root num den n → m * m * den ≤ num → m ≤ n
root_greatest {den = den} {n = n} m r h = let above : m < n + 1 = square_lt den (lt_of_le_of_lt h r.high) in omega arith

-- so there is one root at most
pub root_unique : {num den n m : ℕ} → Root num den n → Root num den m → n ≡ m
root_unique {n = n} {m = m} r s = le_antisymm (root_greatest n s r.low) (root_greatest m r s.low)

-- and, but for a divisor of 0, there is one
pub root_exists : (num den : ℕ) → 1 ≤ den → (n : ℕ) × Root num den n
root_exists zero den pos = (0, record { low = omega arith; high = omega arith })
root_exists (suc num) den pos = grown (root_exists num den pos)
  where
    grown : (n : ℕ) × Root num den n → (n : ℕ) × Root (suc num) den n
    grown (n, r) = either (dec_le ((n + 1) * (n + 1) * den) (suc num))
      where
        either : Dec ((n + 1) * (n + 1) * den ≤ suc num) → (n : ℕ) × Root (suc num) den n
        either (yes h) = (n + 1, record { low = h; high = lt_of_le_of_lt r.high (square_more pos (omega arith)) })
        either (no f) = (n, record { low = omega (arith, r.low); high = lt_of_not-le f })
