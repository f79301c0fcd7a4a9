-- The paper's root is the greatest n with n·n·under ≤ over, and there is one only (`root`'s `root_unique`). A common factor changes nothing. Assumes nothing.
use mathlib.Core.Bool.{Bool, true, false, not, cond}
use mathlib.Core.Logic.{◌↔◌}
use mathlib.Core.Path.{◌≡◌, ap}
use Prim.Native.Nat.{ℕ, zero, suc, ◌+◌, ◌*◌, ◌/◌, ◌^◌, ◌≤◌, ◌<◌}
use native.Mathlib.Nat.{mul-mul-mul_comm, pow-suc, le-div_iff_mul-le, div-lt_iff_lt-mul, mul-le-mul_left, mul-lt-mul_of_pos_left, le_of_mul-le-mul_left, lt_of_mul-lt-mul_left, mul-div-mul_left, zero-div}
use native.Mathlib.Numerals.{add-one}
use native.Mathlib.Omega.{arith}
use lib.Dec.{T, leb, leb→le, nleb→lt}
use Rattle.root.specs.Root.{Root}
use Rattle.root.proofs.Laws.{root_unique}
use Rattle.paper.specs.Amps.{root, greatest}

record IsRoot (m n : ℕ) : Type 0 where
  low : n * n ≤ m
  high : m < suc n * suc n

doubled : (n : ℕ) → 2 * n * (2 * n) ≡ 4 * (n * n)
doubled n = mul-mul-mul_comm 2 n 2 n

-- one digit more
step : (m r : ℕ) → IsRoot (m / 4) r → IsRoot m (cond (leb (suc (2 * r) * suc (2 * r)) m) (suc (2 * r)) (2 * r))
step m r ih = go (leb (suc n * suc n) m) (leb→le (suc n * suc n) m) (nleb→lt (suc n * suc n) m)
  where
    n : ℕ
    n = 2 * r

    under : n * n ≤ m
    under = omega (arith, ih.low, doubled r)

    even : suc (suc n) ≡ 2 * suc r
    even = omega arith

    above : m < suc (suc n) * suc (suc n)
    above = rw even (omega (arith, ih.high, doubled (suc r)))

    go : (b : Bool) → (T b → suc n * suc n ≤ m) → (T (not b) → m < suc n * suc n) → IsRoot m (cond b (suc n) n)
    go true t f = record { low = t tt; high = above }
    go false t f = record { low = under; high = f tt }

root_is : (digits m : ℕ) → m < 4 ^ digits → IsRoot m (root digits m)
unfolding root
root_is zero m h = record { low = omega arith; high = omega arith }
root_is (suc d) m h = step m (root d (m / 4)) (root_is d (m / 4) (omega (arith, pow-suc 4 d)))

pub greatest_is : (over under : ℕ) → 0 < under → over / under < 4 ^ 80 → Root over under (greatest over under)
unfolding greatest
greatest_is over under d h =
    let g = root_is 80 (over / under) h in
    record { low = (le-div_iff_mul-le d).0 g.low; high = rw add-one ((div-lt_iff_lt-mul d).0 g.high) }

-- so whatever is the root is this one
pub greatest_only : (over under n : ℕ) → 0 < under → over / under < 4 ^ 80 → Root over under n → n ≡ greatest over under
greatest_only over under n d h r = root_unique r (greatest_is over under d h)

-- ---- a common factor
pub root_scale : (c over under n : ℕ) → 0 < c → Root (c * over) (c * under) n ↔ Root over under n
root_scale c over under n h = (down, up)
  where
    -- m·m·(c·under) is c·(m·m·under)
    out : (m : ℕ) → m * m * (c * under) ≡ c * (m * m * under)
    out m = omega arith

    down : Root (c * over) (c * under) n → Root over under n
    down r =
        record {
          low = le_of_mul-le-mul_left (rw (out n) at r.low) h;
          high = lt_of_mul-lt-mul_left c (rw (out (n + 1)) at r.high);
        }

    up : Root over under n → Root (c * over) (c * under) n
    up r = record { low = rw (out n) (mul-le-mul_left c r.low); high = rw (out (n + 1)) (mul-lt-mul_of_pos_left r.high h) }

pub greatest_scale : (c over under : ℕ) → 0 < c → greatest (c * over) (c * under) ≡ greatest over under
unfolding greatest
greatest_scale c over under h = ap (root 80) (mul-div-mul_left over under h)

-- of nothing there is none
pub greatest_none : (under : ℕ) → greatest 0 under ≡ 0
unfolding greatest root
greatest_none under = ap (root 80) (zero-div under)
