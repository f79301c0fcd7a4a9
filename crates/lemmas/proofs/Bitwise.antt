-- Laws of operations on the bits of three numbers, by computing them on three bits; and what is 0 in a mask. Assumes nothing.
use mathlib.Core.Bool.{Bool, true, false, ◌&&◌}
use mathlib.Core.Path.{◌≡◌, refl, sym, ap, ap₂, ◌∙◌}
use Prim.Native.Nat.{ℕ, zero, suc, ◌+◌, ◌*◌, ◌/◌, ◌%◌, ◌^◌, ◌<◌}
use native.Mathlib.Omega.{arith}
use lib.Dec.{T, eqb, eqb→eq}
use lib.Bits.{bit_and, bit_or, and_block, or_block, and_lt, or_lt, and_le_l, and_le_r, or_add_and}
use borrow.Author.Tests.{eq-eqb, ne_eqb, eqb-true, eqb-false}
use Rattle.lemmas.proofs.Table.{every, every_at}

-- an operation that works on the lowest bit and on the rest apart
abbrev Apart : (ℕ → ℕ → ℕ → ℕ) → Type 0
Apart f = (a b c r s t : ℕ) → r < 2 → s < 2 → t < 2 → f (a * 2 ^ 1 + r) (b * 2 ^ 1 + s) (c * 2 ^ 1 + t) ≡ f a b c * 2 ^ 1 + f r s t

abbrev bits : (f g : ℕ → ℕ → ℕ → ℕ) → Bool
bits f g = every (λ r. every (λ s. every (λ t. eqb (f r s t) (g r s t)) 0 2) 0 2) 0 2

below : (n : ℕ) → n < 2 ^ n
below zero = omega arith
below (suc n) = omega (arith, below n)

module _ (f g : ℕ → ℕ → ℕ → ℕ) (hf : Apart f) (hg : Apart g) (test : T (bits f g)) where
  on_bits : (r s t : ℕ) → r < 2 → s < 2 → t < 2 → f r s t ≡ g r s t
  on_bits r s t hr hs ht =
      let one = every_at (λ r. every (λ s. every (λ t. eqb (f r s t) (g r s t)) 0 2) 0 2) 2 r hr test in
      let two = every_at (λ s. every (λ t. eqb (f r s t) (g r s t)) 0 2) 2 s hs one in
      eqb→eq (f r s t) (g r s t) (every_at (λ t. eqb (f r s t) (g r s t)) 2 t ht two)

  up_to : (k a b c : ℕ) → a < 2 ^ k → b < 2 ^ k → c < 2 ^ k → f a b c ≡ g a b c
  up_to zero a b c ha hb hc = on_bits a b c (omega arith) (omega arith) (omega arith)
  up_to (suc k) a b c ha hb hc =
      let split : (n : ℕ) → n ≡ n / 2 * 2 ^ 1 + n % 2 = λ n. omega arith in
      let low : (n : ℕ) → n % 2 < 2 = λ n. omega arith in
      let whole : (h : ℕ → ℕ → ℕ → ℕ) → Apart h → h a b c ≡ h (a / 2) (b / 2) (c / 2) * 2 ^ 1 + h (a % 2) (b % 2) (c % 2) =
      λ h e. (λ i. h (split a i) (split b i) (split c i)) ∙ e (a / 2) (b / 2) (c / 2) (a % 2) (b % 2) (c % 2) (low a) (low b) (low c) in
      whole f hf
      ∙ ap₂ (λ (x y : ℕ). x * 2 ^ 1 + y) (up_to k (a / 2) (b / 2) (c / 2) (omega arith) (omega arith) (omega arith)) (on_bits (a % 2) (b % 2) (c % 2) (low a) (low b) (low c))
      ∙ sym (whole g hg)

  by_bits : (a b c : ℕ) → f a b c ≡ g a b c
  by_bits a b c =
      let k = a + b + c in
      let h = below k in
      up_to k a b c (omega arith) (omega arith) (omega arith)

-- ---- and of or, and of and
and_bit : (a b r s : ℕ) → r < 2 → s < 2 → bit_and (a * 2 ^ 1 + r) (b * 2 ^ 1 + s) ≡ bit_and a b * 2 ^ 1 + bit_and r s
and_bit a b r s hr hs = and_block 1 a b r s hr hs

or_bit : (a b r s : ℕ) → r < 2 → s < 2 → bit_or (a * 2 ^ 1 + r) (b * 2 ^ 1 + s) ≡ bit_or a b * 2 ^ 1 + bit_or r s
or_bit a b r s hr hs = or_block 1 a b r s hr hs

and_or : (a b m : ℕ) → bit_and (bit_or a b) m ≡ bit_or (bit_and a m) (bit_and b m)
and_or =
    by_bits (λ a b m. bit_and (bit_or a b) m) (λ a b m. bit_or (bit_and a m) (bit_and b m))
    (λ a b c r s t hr hs ht. ap (λ (x : ℕ). bit_and x (c * 2 ^ 1 + t)) (or_bit a b r s hr hs) ∙ and_bit (bit_or a b) c (bit_or r s) t (or_lt 1 r s hr hs) ht)
    (λ a b c r s t hr hs ht. ap₂ bit_or (and_bit a c r t hr ht) (and_bit b c s t hs ht) ∙ or_bit (bit_and a c) (bit_and b c) (bit_and r t) (bit_and s t) (and_lt 1 r t hr ht) (and_lt 1 s t hs ht))
    tt

pub and_and : (a b m : ℕ) → bit_and (bit_and a b) m ≡ bit_and a (bit_and b m)
and_and =
    by_bits (λ a b m. bit_and (bit_and a b) m) (λ a b m. bit_and a (bit_and b m))
    (λ a b c r s t hr hs ht. ap (λ (x : ℕ). bit_and x (c * 2 ^ 1 + t)) (and_bit a b r s hr hs) ∙ and_bit (bit_and a b) c (bit_and r s) t (and_lt 1 r s hr hs) ht)
    (λ a b c r s t hr hs ht. ap (λ (x : ℕ). bit_and (a * 2 ^ 1 + r) x) (and_bit b c s t hs ht) ∙ and_bit a (bit_and b c) r (bit_and s t) hr (and_lt 1 s t hs ht))
    tt

-- ---- nothing of two in a mask: nothing of each
or_none : (a b : ℕ) → eqb (bit_or a b) 0 ≡ (eqb a 0 && eqb b 0)
or_none a b = go (eqb a 0) refl (eqb b 0) refl
  where
    go : (s : Bool) → eqb a 0 ≡ s → (t : Bool) → eqb b 0 ≡ t → eqb (bit_or a b) 0 ≡ (s && t)
    go true e true f = eq-eqb (bit_or a b) 0 (omega (arith, eqb-true a 0 e, eqb-true b 0 f, or_add_and a b))
    go true e false f = ne_eqb (bit_or a b) 0 (λ q. eqb-false b 0 f (omega (arith, or_add_and a b, and_le_l a b)))
    go false e t f = ne_eqb (bit_or a b) 0 (λ q. eqb-false a 0 e (omega (arith, or_add_and a b, and_le_r a b)))

pub none_masked : (a b m : ℕ) → eqb (bit_and (bit_or a b) m) 0 ≡ (eqb (bit_and a m) 0 && eqb (bit_and b m) 0)
none_masked a b m = ap (λ (n : ℕ). eqb n 0) (and_or a b m) ∙ or_none (bit_and a m) (bit_and b m)
