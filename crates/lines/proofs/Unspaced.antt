-- A label without its closing spaces: how much of it that is. Assumes nothing.
use mathlib.Core.Bool.{Bool, true, false, cond, and-false}
use mathlib.Core.Path.{◌≡◌, refl, sym, ap, ◌∙◌}
use mathlib.Core.List.{List, [], ◌∷◌}
use Prim.Native.Nat.{ℕ, zero, suc, ◌+◌, ◌≤◌, ◌<◌}
use native.Mathlib.Omega.{arith}
use native.Mathlib.Nat.{le_of_suc-le-suc}
use lib.Dec.{eqb}
use lib.ListN.{length, get_or, take}
use borrow.Author.Tests.{eq-eqb, ne_eqb}
use Rattle.paper.specs.Label.{blank}
use Rattle.lines.specs.Name.{unspaced}

-- it is the label's front
pub unspaced_front : (l : List ℕ) → take (length (unspaced l)) l ≡ unspaced l
unfolding unspaced
unspaced_front [] = refl
unspaced_front (x ∷ xs) = go (blank (x ∷ xs)) (unspaced_front xs)
  where
    go : (t : Bool) → take (length (unspaced xs)) xs ≡ unspaced xs → take (length (cond t [] (x ∷ unspaced xs))) (x ∷ xs) ≡ cond t [] (x ∷ unspaced xs)
    go true h = refl
    go false h = ap (λ (l : List ℕ). x ∷ l) h

pub front : (l : List ℕ) {n : ℕ} → n ≡ length (unspaced l) → take n l ≡ unspaced l
front l e = rw e (unspaced_front l)

pub unspaced_most : (l : List ℕ) → length (unspaced l) ≤ length l
unfolding unspaced
unspaced_most [] = omega arith
unspaced_most (x ∷ xs) = go (blank (x ∷ xs)) (unspaced_most xs)
  where
    go : (t : Bool) → length (unspaced xs) ≤ length xs → length (cond t [] (x ∷ unspaced xs)) ≤ suc (length xs)
    go true h = omega arith
    go false h = omega arith

-- nothing is left of spaces alone
none_left : (l : List ℕ) → blank l ≡ true → unspaced l ≡ []
unfolding unspaced
none_left [] h = refl
none_left (x ∷ xs) h = rw h

all_spaces : (l : List ℕ) → ((k : ℕ) → k < length l → get_or l k 0 ≡ 0x20) → blank l ≡ true
unfolding blank
all_spaces [] s = refl
all_spaces (x ∷ xs) s = rw (eq-eqb x 0x20 (s 0 (omega arith))) (all_spaces xs (λ k h. s (suc k) (omega arith)))

pub no_letters : (l : List ℕ) → ((k : ℕ) → k < length l → get_or l k 0 ≡ 0x20) → 0 ≡ length (unspaced l)
no_letters l s = sym (ap length (none_left l (all_spaces l s)))

-- a label with a letter is not blank
not_blank : (l : List ℕ) (m : ℕ) → m < length l → (get_or l m 0 ≡ 0x20 → ⊥) → blank l ≡ false
unfolding blank
not_blank [] m h k = absurd (omega arith)
not_blank (x ∷ xs) zero h k = rw (ne_eqb x 0x20 k)
not_blank (x ∷ xs) (suc m) h k = rw (not_blank xs m (le_of_suc-le-suc h) k) (and-false (eqb x 0x20))

kept_letter : (x : ℕ) (xs : List ℕ) → blank (x ∷ xs) ≡ false → length (unspaced (x ∷ xs)) ≡ suc (length (unspaced xs))
unfolding unspaced
kept_letter x xs h = rw h

-- a letter with spaces alone behind it is the last
last_letter : (l : List ℕ) (m : ℕ) → m < length l → (get_or l m 0 ≡ 0x20 → ⊥) → ((k : ℕ) → m < k → k < length l → get_or l k 0 ≡ 0x20) → length (unspaced l) ≡ suc m
last_letter [] m h k s = absurd (omega arith)
last_letter (x ∷ xs) zero h k s =
    kept_letter x xs (not_blank (x ∷ xs) 0 h k) ∙ ap (λ (l : List ℕ). suc (length l)) (none_left xs (all_spaces xs (λ j i. s (suc j) (omega arith) (omega arith))))
last_letter (x ∷ xs) (suc m) h k s =
    kept_letter x xs (not_blank (x ∷ xs) (suc m) h k) ∙ ap suc (last_letter xs m (le_of_suc-le-suc h) k (λ j a i. s (suc j) (omega arith) (omega arith)))

pub letters_to : (l : List ℕ) (last : ℕ) → last < length l → (get_or l last 0 ≡ 0x20 → ⊥) → ((k : ℕ) → last + 1 ≤ k → k < length l → get_or l k 0 ≡ 0x20)
    → last + 1 ≡ length (unspaced l)
letters_to l last h k s = omega (arith, last_letter l last h k (λ j a i. s j (omega arith) i))
