-- A number's bytes, one at a time, and as code stores them one behind the other. Assumes nothing.
use mathlib.Core.Path.{◌≡◌, refl, ap}
use mathlib.Core.List.{List, [], ◌∷◌, ◌++◌}
use Prim.Native.Nat.{ℕ, zero, suc, ◌+◌, ◌-◌, ◌≤◌, ◌<◌, ◌/◌, ◌%◌}
use native.Mathlib.Nat.{add-zero, zero-add}
use native.Mathlib.Omega.{arith}
use lib.ListN.{length, set}
use Rattle.decimal.specs.Wrote.{Room, Wrote}
use Rattle.decimal.proofs.Writes.{wrote_none, wrote_byte, wrote_then, room_behind}
use Rattle.lemmas.specs.Little.{little}

pub little_length : (k n : ℕ) → length (little k n) ≡ k
unfolding little
little_length zero n = refl
little_length (suc k) n = ap suc (little_length k (n / 256))

-- the next of k bytes is the lowest of what is left of the number
pub next_byte : (k i n : ℕ) → i < k → little (k - i) n ≡ (n % 256 ∷ []) ++ little (k - (i + 1)) (n / 256)
unfolding little
next_byte k i n h = let more : k - i ≡ suc (k - (i + 1)) = omega arith in ap (λ (m : ℕ). little m n) more

-- after the last
pub no_byte : (k i n : ℕ) → k ≤ i → little (k - i) n ≡ []
unfolding little
no_byte k i n h = let none : k - i ≡ 0 = omega arith in ap (λ (m : ℕ). little m n) none

-- ---- k bytes of a number, stored one behind the other, as the code names their places: the first is at, not at + 0
abbrev place : ℕ → ℕ → ℕ
place at zero = at
place at (suc j) = at + suc j

abbrev stores : ℕ → ℕ → ℕ → ℕ → List ℕ → List ℕ
stores at j zero n o = o
stores at j (suc k) n o = stores at (suc j) k (n / 256) (set o (place at j) (n % 256))

place_next : (at j : ℕ) → place at j + 1 ≡ place at (suc j)
place_next at zero = refl
place_next at (suc j) = omega arith

stored_from : (at j k n : ℕ) (o : List ℕ) → Room (place at j) (little k n) o → Wrote (place at j) (little k n) o (stores at j k n o) (place at (j + k))
unfolding little
stored_from at j zero n o room = rw (add-zero j) (wrote_none (place at j) o)
stored_from at j (suc k) n o room =
    let one : Wrote (place at j) (n % 256 ∷ []) o (set o (place at j) (n % 256)) (place at (suc j)) = rw (place_next at j) at (wrote_byte (place at j) (n % 256) o (omega (arith, room.fits))) in
    let end : j + suc k ≡ suc j + k = omega arith in
    rw end (wrote_then room one (stored_from at (suc j) k (n / 256) (set o (place at j) (n % 256)) (room_behind room one)))

pub stored : (k at n : ℕ) (o : List ℕ) → Room at (little k n) o → Wrote at (little k n) o (stores at 0 k n o) (place at k)
stored k at n o room = rw (zero-add k) at (stored_from at 0 k n o room)

pub eight_pieces : (n : ℕ) → little 8 n ≡ little 4 n ++ little 4 (n / 256 / 256 / 256 / 256)
unfolding little
eight_pieces n = refl
