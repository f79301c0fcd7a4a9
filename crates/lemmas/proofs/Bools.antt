-- Tests made of two tests, taken apart. Assumes nothing.
use mathlib.Core.Bool.{Bool, true, false, not, ◌&&◌, ◌||◌, false≢true, true≢false}
use mathlib.Core.Logic.{◌⊎◌, inl, inr}
use mathlib.Core.Path.{◌≡◌, refl, sym, ◌∙◌}
use Prim.Native.Nat.{ℕ}
use lib.Dec.{T, eqb}
use borrow.Author.Tests.{eqb-true, not-false}

-- a computed test
pub both_t : (a b : Bool) → T (a && b) → T a × T b
both_t true b t = (tt, t)
both_t false b t = absurd t

-- tests as equations
pub both : (a b : Bool) → (a && b) ≡ true → (a ≡ true) × (b ≡ true)
both true b h = (refl, h)
both false b h = absurd (false≢true h)

pub either : (a b : Bool) → (a || b) ≡ true → (a ≡ true) ⊎ (b ≡ true)
either true b h = inl refl
either false b h = inr h

pub neither : (a b : Bool) → (a || b) ≡ false → (a ≡ false) × (b ≡ false)
neither true b h = absurd (true≢false h)
neither false b h = (refl, h)

-- what cannot be true is false
pub untrue : (a : Bool) → (a ≡ true → ⊥) → a ≡ false
untrue true h = absurd (h refl)
untrue false h = refl

pub not_both : {a : Bool} → a ≡ true → a ≡ false → ⊥
not_both h k = true≢false (sym h ∙ k)

-- "not equal" tested false
pub same_by : (m n : ℕ) → not (eqb m n) ≡ false → m ≡ n
same_by m n h = eqb-true m n (not-false (eqb m n) h)
