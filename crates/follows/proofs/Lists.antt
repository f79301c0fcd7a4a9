-- Lists of places: what is on one, what two have in common, the last, and sums. Assumes nothing.
use mathlib.Core.Bool.{Bool, true, false, cond, ◌||◌, false≢true, or-true}
use mathlib.Core.List.{List, [], ◌∷◌}
use mathlib.Core.Logic.{◌⊎◌, inl, inr}
use mathlib.Core.Path.{◌≡◌, refl, ◌∙◌, ap, ap₂}
use Prim.Native.Nat.{ℕ, ◌≤◌}
use native.Mathlib.Omega.{arith}
use lib.Dec.{eqb}
use borrow.Author.Tests.{eqb-true, eq-eqb}
use Rattle.paper.specs.declared.Ohms.{Ohms}
use Rattle.paper.specs.Bytes.{one_of}
use Rattle.paper.specs.Kind.{◌+Ω◌, is_zero}
use Rattle.paper.specs.Chain.{empty, last_of, sumΩ, common}
use Rattle.lemmas.proofs.Bools.{either, untrue, not_both}
use Rattle.paper.specs.Bounds.{AtMost}
use Rattle.follows.proofs.Impedance.{add_nothing, zero_terms}

-- ---- what is on a list
abbrev pub On : ℕ → List ℕ → Type 0
On i l = one_of i l ≡ true

pub on_none : (i : ℕ) → On i [] → ⊥
unfolding one_of
on_none i h = false≢true h

pub on_here : (i : ℕ) (l : List ℕ) → On i (i ∷ l)
unfolding one_of
on_here i l = ap (λ e. e || one_of i l) (eq-eqb i i refl)

pub on_there : (i x : ℕ) (l : List ℕ) → On i l → On i (x ∷ l)
unfolding one_of
on_there i x l h = ap (λ e. eqb i x || e) h ∙ or-true (eqb i x)

pub on_cases : (i x : ℕ) (l : List ℕ) → On i (x ∷ l) → (i ≡ x) ⊎ On i l
unfolding one_of
on_cases i x l h = go (either (eqb i x) (one_of i l) h)
  where
    go : (eqb i x ≡ true) ⊎ On i l → (i ≡ x) ⊎ On i l
    go (inl e) = inl (eqb-true i x e)
    go (inr k) = inr k

-- ---- the last
pub on_last : (i : ℕ) (l : List ℕ) → On i l → empty l ≡ false
unfolding empty
on_last i [] h = absurd (on_none i h)
on_last i (x ∷ l) h = refl

pub nothing_on : (l : List ℕ) → empty l ≡ true → l ≡ []
unfolding empty
nothing_on [] h = refl
nothing_on (x ∷ l) h = absurd (false≢true h)

pub last_behind : (x : ℕ) (l : List ℕ) → empty l ≡ false → last_of (x ∷ l) ≡ last_of l
unfolding last_of
last_behind x l h = rw h

pub last_on : (x : ℕ) (l : List ℕ) → On (last_of (x ∷ l)) (x ∷ l)
unfolding last_of empty
last_on x [] = on_here x []
last_on x (y ∷ l) = on_there (last_of (y ∷ l)) x (y ∷ l) (last_on y l)

-- ---- what two lists have in common
pub common_keep : (c : ℕ) (cs ds : List ℕ) → On c ds → common (c ∷ cs) ds ≡ c ∷ common cs ds
unfolding common
common_keep c cs ds h = rw h

pub common_skip : (c : ℕ) (cs ds : List ℕ) → one_of c ds ≡ false → common (c ∷ cs) ds ≡ common cs ds
unfolding common
common_skip c cs ds h = rw h

pub common_all : (cs ds : List ℕ) → ((i : ℕ) → On i cs → On i ds) → common cs ds ≡ cs
unfolding common
common_all [] ds h = refl
common_all (c ∷ cs) ds h = common_keep c cs ds (h c (on_here c cs)) ∙ ap (λ l. c ∷ l) (common_all cs ds (λ i k. h i (on_there i c cs k)))

pub common_nothing : (cs ds : List ℕ) → ((i : ℕ) → On i cs → On i ds → ⊥) → common cs ds ≡ []
unfolding common
common_nothing [] ds h = refl
common_nothing (c ∷ cs) ds h =
    common_skip c cs ds (untrue (one_of c ds) (h c (on_here c cs))) ∙ common_nothing cs ds (λ i k. h i (on_there i c cs k))

-- ---- sums
pub sum_one : (f : ℕ → Ohms) (i : ℕ) → sumΩ f (i ∷ []) ≡ f i
unfolding sumΩ
sum_one f i = add_nothing (f i)

pub sum_same : (f g : ℕ → Ohms) (l : List ℕ) → ((i : ℕ) → On i l → f i ≡ g i) → sumΩ f l ≡ sumΩ g l
unfolding sumΩ
sum_same f g [] h = refl
sum_same f g (x ∷ l) h = ap₂ ◌+Ω◌ (h x (on_here x l)) (sum_same f g l (λ i k. h i (on_there i x l k)))

-- a sum is zero only where each of its terms is
zero_sum : (f : ℕ → Ohms) (l : List ℕ) → is_zero (sumΩ f l) ≡ true → (i : ℕ) → On i l → is_zero (f i) ≡ true
unfolding sumΩ
zero_sum f [] h i k = absurd (on_none i k)
zero_sum f (x ∷ l) h i k = go (on_cases i x l k) (zero_sum f l (zero_terms (f x) (sumΩ f l) h).1 i)
  where
    go : (i ≡ x) ⊎ On i l → (On i l → is_zero (f i) ≡ true) → is_zero (f i) ≡ true
    go (inl e) ih = rw e (zero_terms (f x) (sumΩ f l) h).0
    go (inr o) ih = ih o

pub sum_not_zero : (f : ℕ → Ohms) (l : List ℕ) (i : ℕ) → On i l → is_zero (f i) ≡ false → is_zero (sumΩ f l) ≡ false
sum_not_zero f l i o h = untrue (is_zero (sumΩ f l)) (λ z. not_both (zero_sum f l z i o) h)

-- what is common adds no more than the whole
common_less : (f : ℕ → Ohms) (cs ds : List ℕ) → ((sumΩ f (common cs ds)).r ≤ (sumΩ f cs).r) × ((sumΩ f (common cs ds)).x ≤ (sumΩ f cs).x)
unfolding sumΩ common ◌+Ω◌
common_less f [] ds = omega arith
common_less f (c ∷ cs) ds = go (one_of c ds) (common_less f cs ds)
  where
    go : (t : Bool) → ((sumΩ f (common cs ds)).r ≤ (sumΩ f cs).r) × ((sumΩ f (common cs ds)).x ≤ (sumΩ f cs).x) →
        ((sumΩ f (cond t (c ∷ common cs ds) (common cs ds))).r ≤ (sumΩ f (c ∷ cs)).r) × ((sumΩ f (cond t (c ∷ common cs ds) (common cs ds))).x ≤ (sumΩ f (c ∷ cs)).x)
    go true h = omega arith
    go false h = omega arith

pub common_small : (f : ℕ → Ohms) (cs ds : List ℕ) (most : ℕ) → AtMost most (sumΩ f cs) → AtMost most (sumΩ f (common cs ds))
common_small f cs ds most h = let l = common_less f cs ds in record { r_most = omega arith; x_most = omega arith }
