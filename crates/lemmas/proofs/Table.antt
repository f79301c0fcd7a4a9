-- What is shown at each of the numbers 0, 1, .., k - 1 by computation holds at every number below k; and a table that is a function there.
-- Assumes nothing.
use mathlib.Core.Path.{◌≡◌, refl, sym, ap, ◌∙◌, subst}
use mathlib.Core.Bool.{Bool, true, ◌&&◌}
use mathlib.Core.List.{List, [], ◌∷◌}
use Prim.Native.Nat.{ℕ, zero, suc, ◌+◌, ◌<◌}
use native.Mathlib.Nat.{add-zero, zero-add, add-suc, suc-add, le_of_suc-le-suc, not-suc-le-zero}
use lib.Dec.{T}
use lib.ListN.{get_or, length}
use Rattle.lemmas.specs.Table.{tab}
use Rattle.lemmas.proofs.Bools.{both_t}

-- a proof for each of i, i + 1, .., k of them
abbrev pub Each : (ℕ → Type 0) → ℕ → ℕ → Type 0
Each P i zero = Unit {0}
Each P i (suc k) = P i × Each P (suc i) k

from : (P : ℕ → Type 0) (i k n : ℕ) → n < k → Each P i k → P (i + n)
from P i zero n h t = absurd (not-suc-le-zero h)
from P i (suc k) zero h t = subst P (sym (add-zero i)) t.0
from P i (suc k) (suc n) h t = subst P (suc-add i n ∙ sym (add-suc i n)) (from P (suc i) k n (le_of_suc-le-suc h) t.1)

pub each_at : (P : ℕ → Type 0) (k n : ℕ) → n < k → Each P 0 k → P n
each_at P k n h t = subst P (zero-add n) (from P 0 k n h t)

-- ---- the same for a test: one computation for all
abbrev pub every : (ℕ → Bool) → ℕ → ℕ → Bool
every p i zero = true
every p i (suc k) = p i && every p (suc i) k

passed : (p : ℕ → Bool) (i k : ℕ) → T (every p i k) → Each (λ n. T (p n)) i k
passed p i zero t = tt
passed p i (suc k) t = let h = both_t (p i) (every p (suc i) k) t in (h.0, passed p (suc i) k h.1)

pub every_at : (p : ℕ → Bool) (k n : ℕ) → n < k → T (every p 0 k) → T (p n)
every_at p k n h t = each_at (λ m. T (p m)) k n h (passed p 0 k t)

-- ---- a list by a rule, at each place

tab_from : {X : Type 0} (f : ℕ → X) (d : X) (i k n : ℕ) → n < k → get_or (tab f i k) n d ≡ f (i + n)
tab_from f d i zero n h = absurd (not-suc-le-zero h)
tab_from f d i (suc k) zero h = ap f (sym (add-zero i))
tab_from f d i (suc k) (suc n) h = tab_from f d (suc i) k n (le_of_suc-le-suc h) ∙ ap f (suc-add i n ∙ sym (add-suc i n))

pub tab_at : {X : Type 0} (f : ℕ → X) (d : X) (k n : ℕ) → n < k → get_or (tab f 0 k) n d ≡ f n
tab_at f d k n h = tab_from f d 0 k n h ∙ ap f (zero-add n)

-- a list is the table of its own entries: with a length that is a numeral, it is spelled out
tab_next : {X : Type 0} (f : ℕ → X) (i k : ℕ) → tab f (suc i) k ≡ tab (λ n. f (suc n)) i k
tab_next f i zero = refl
tab_next f i (suc k) = ap (λ xs. f (suc i) ∷ xs) (tab_next f (suc i) k)

pub tab_own : {X : Type 0} (d : X) (xs : List X) → xs ≡ tab (λ n. get_or xs n d) 0 (length xs)
tab_own d [] = refl
tab_own d (x ∷ xs) = ap (λ ys. x ∷ ys) (tab_own d xs ∙ sym (tab_next (λ n. get_or (x ∷ xs) n d) 0 (length xs)))
