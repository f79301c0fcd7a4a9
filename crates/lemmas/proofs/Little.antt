-- A number from its bytes: bytes tell the number, and numbers the bytes. Assumes nothing.
use mathlib.Core.Bool.{Bool, true, false, ◌&&◌}
use mathlib.Core.Path.{◌≡◌, sym, refl, ap, ap₂, ◌∙◌}
use mathlib.Core.List.{List, ◌∷◌}
use Prim.Native.Nat.{ℕ, zero, suc, ◌+◌, ◌*◌, ◌/◌, ◌%◌, ◌^◌, ◌<◌}
use native.Mathlib.Omega.{arith}
use lib.Dec.{eqb}
use borrow.Author.Tests.{eq-eqb, ne_eqb, eqb-true, eqb-false}
use Rattle.lemmas.specs.Table.{tab}
use Rattle.lemmas.specs.Little.{little}
use Rattle.lemmas.specs.Bytewise.{little_endian}

pub little_back : (k n : ℕ) → n < 256 ^ k → little_endian (little k n) ≡ n
unfolding little
little_back zero n h = omega arith
little_back (suc k) n h = ap (λ (m : ℕ). n % 256 + 256 * m) (little_back k (n / 256) (omega arith)) ∙ omega arith

pub same_number : (k m n : ℕ) → m < 256 ^ k → n < 256 ^ k → little k m ≡ little k n → m ≡ n
same_number k m n hm hn e = sym (little_back k m hm) ∙ ap little_endian e ∙ little_back k n hn

-- the bytes of the number that bytes say
pub little_of : (f : ℕ → ℕ) → ((j : ℕ) → f j < 256) → (i n : ℕ) → little n (little_endian (tab f i n)) ≡ tab f i n
unfolding little
little_of f h i zero = refl
little_of f h i (suc n) =
    let m = little_endian (tab f (suc i) n) in
    let low : (f i + 256 * m) % 256 ≡ f i = omega (arith, h i) in
    let rest : (f i + 256 * m) / 256 ≡ m = omega (arith, h i) in
    ap₂ (λ (x k : ℕ). x ∷ little n k) low rest ∙ ap {B = List ℕ} (λ r. f i ∷ r) (little_of f h (suc i) n)

-- two numbers of a low byte and the rest are the same exactly if both are
pub same_digit : (x y m n : ℕ) → x < 256 → y < 256 → eqb (x + 256 * m) (y + 256 * n) ≡ (eqb x y && eqb m n)
same_digit x y m n h k = go (eqb x y) refl (eqb m n) refl
  where
    go : (s : Bool) → eqb x y ≡ s → (t : Bool) → eqb m n ≡ t → eqb (x + 256 * m) (y + 256 * n) ≡ (s && t)
    go true e true f = eq-eqb (x + 256 * m) (y + 256 * n) (omega (arith, eqb-true x y e, eqb-true m n f))
    go true e false f = ne_eqb (x + 256 * m) (y + 256 * n) (λ q. eqb-false m n f (omega (arith, eqb-true x y e)))
    go false e t f = ne_eqb (x + 256 * m) (y + 256 * n) (λ q. eqb-false x y e (omega arith))
