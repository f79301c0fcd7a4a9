-- Decimal digits, one at a time, and how many they are. Assumes nothing.
use mathlib.Core.Bool.{Bool, true, false, cond}
use mathlib.Core.Path.{◌≡◌, refl, sym, ap, ◌∙◌}
use mathlib.Core.List.{List, [], ◌∷◌, ◌++◌}
use Prim.Native.Nat.{ℕ, zero, suc, ◌+◌, ◌/◌, ◌%◌, ◌^◌, ◌≤◌, ◌<◌}
use native.Mathlib.Omega.{arith}
use lib.Dec.{ltb}
use lib.ListN.{length, length-append}
use borrow.Author.Tests.{lt-ltb, le-ltb, ltb-true, ltb-false}
use Rattle.decimal.specs.Decimal.{digits, decimal}

digits_one : (k n : ℕ) → n < 10 → digits (suc k) n ≡ (0x30 + n) ∷ []
unfolding digits
digits_one k n h = rw (lt-ltb n 10 h)

digits_more : (k n : ℕ) → 10 ≤ n → digits (suc k) n ≡ digits k (n / 10) ++ ((0x30 + n % 10) ∷ [])
unfolding digits
digits_more k n h = rw (le-ltb n 10 h)

tenth : (k n : ℕ) → n < 10 ^ suc k → n / 10 < 10 ^ k
tenth k n h = omega arith

-- more digits than are needed add none
digits_enough : (k m n : ℕ) → n < 10 ^ suc k → digits (suc (k + m)) n ≡ digits (suc k) n
digits_enough zero m n h = digits_one (0 + m) n h ∙ sym (digits_one 0 n h)
digits_enough (suc k) m n h = go (digits_enough k m (n / 10) (tenth (suc k) n h)) (ltb n 10) refl
  where
    go : digits (suc (k + m)) (n / 10) ≡ digits (suc k) (n / 10) → (t : Bool) → ltb n 10 ≡ t → digits (suc (suc k + m)) n ≡ digits (suc (suc k)) n
    go ih true e = digits_one (suc k + m) n (ltb-true n 10 e) ∙ sym (digits_one (suc k) n (ltb-true n 10 e))
    go ih false e =
        let l = ltb-false n 10 e in
        let more : suc (k + m) ≡ suc k + m = omega arith in
        digits_more (suc k + m) n l ∙ ap (λ (x : List ℕ). x ++ ((0x30 + n % 10) ∷ [])) (ap (λ (f : ℕ). digits f (n / 10)) (sym more) ∙ ih) ∙ sym (digits_more (suc k) n l)

-- twenty are enough below 10 ^ 20, and so for every number of 64 bits
pub decimal_whole : (m n : ℕ) → n < 10 ^ 20 → digits (suc (19 + m)) n ≡ decimal n
unfolding decimal
decimal_whole m n h = digits_enough 19 m n h

pub decimal_one : (n : ℕ) → n < 10 → decimal n ≡ (0x30 + n) ∷ []
unfolding decimal
decimal_one n h = digits_one 19 n h

pub decimal_more : (n : ℕ) → n < 2 ^ 64 → 10 ≤ n → decimal n ≡ decimal (n / 10) ++ ((0x30 + n % 10) ∷ [])
unfolding decimal
decimal_more n f h = digits_more 19 n h ∙ ap (λ (l : List ℕ). l ++ ((0x30 + n % 10) ∷ [])) (sym (digits_enough 18 1 (n / 10) (omega arith)))

digits_most : (k n : ℕ) → length (digits k n) ≤ k
unfolding digits
digits_most zero n = omega arith
digits_most (suc k) n = go (ltb n 10) (digits_most k (n / 10))
  where
    go : (t : Bool) → length (digits k (n / 10)) ≤ k → length (cond t ((0x30 + n) ∷ []) (digits k (n / 10) ++ ((0x30 + n % 10) ∷ []))) ≤ suc k
    go true h = omega arith
    go false h = omega (arith, length-append (digits k (n / 10)) ((0x30 + n % 10) ∷ []))

pub decimal_most : (n : ℕ) → length (decimal n) ≤ 20
unfolding decimal
decimal_most n = digits_most 20 n
