-- The kind table by its rows: six, and the empty one of every number that is no kind; which of them go on, and the kinds of each word. Assumes nothing.
use mathlib.Core.Bool.{Bool, true, false, false≢true}
use mathlib.Core.List.{List, [], ◌∷◌}
use mathlib.Core.Logic.{◌⊎◌, inl, inr}
use mathlib.Core.Path.{◌≡◌, refl, sym, subst}
use Prim.Native.Nat.{ℕ, zero, suc, ◌≤◌, ◌<◌}
use native.Mathlib.Omega.{arith}
use lib.Dec.{ltb}
use lib.ListN.{get_or-eq_default}
use borrow.Author.Tests.{ltb-true, ltb-false}
use Rattle.lemmas.proofs.Table.{Each, each_at}
use Rattle.paper.specs.Bytes.{one_of}
use Rattle.paper.specs.Kind.{Term, Zero, starts, goes_on, none, Kind, kinds, kind_of}
use Rattle.follows.proofs.Lists.{On, on_none, on_cases}

pub unknown : (k : ℕ) → 6 ≤ k → kind_of k ≡ kind_of 6
unfolding kind_of kinds
unknown k h = get_or-eq_default kinds (kind_of 6) {n = k} h

pub each_row : (P : ℕ → Kind → Type 0) → Each (λ k. P k (kind_of k)) 0 6 → ((k : ℕ) → 6 ≤ k → P k (kind_of 6)) → (k : ℕ) → P k (kind_of k)
each_row P rows rest k = go (ltb k 6) refl
  where
    go : (t : Bool) → ltb k 6 ≡ t → P k (kind_of k)
    go true e = each_at (λ k. P k (kind_of k)) 6 k (ltb-true k 6 e) rows
    go false e = let h = ltb-false k 6 e in rw (unknown k h) (rest k h)

-- ---- kinds 2 and 3 are those whose zero sequence goes on
abbrev pub GoesOn : Zero → Type 0
GoesOn (starts t) = ⊥
GoesOn (goes_on t) = Unit {0}
GoesOn none = ⊥

pub on_by_kind : (k : ℕ) → one_of k (2 ∷ 3 ∷ []) ≡ true → GoesOn (kind_of k).zero_seq
unfolding one_of kind_of kinds
on_by_kind = each_row (λ k c. one_of k (2 ∷ 3 ∷ []) ≡ true → GoesOn c.zero_seq) (λ h. false≢true h, (λ h. false≢true h, (λ h. tt, (λ h. tt, (λ h. false≢true h, (λ h. false≢true h, tt)))))) (λ k l h. other k l (on_cases k 2 (3 ∷ []) h))
  where
    other : (k : ℕ) → 6 ≤ k → (k ≡ 2) ⊎ On k (3 ∷ []) → ⊥
    other k l (inl e) = omega arith
    other k l (inr h) = last (on_cases k 3 [] h)
      where
        last : (k ≡ 3) ⊎ On k [] → ⊥
        last (inl e) = omega arith
        last (inr h) = on_none k h

pub kind_by_on : (k : ℕ) → GoesOn (kind_of k).zero_seq → one_of k (2 ∷ 3 ∷ []) ≡ true
unfolding one_of kind_of kinds
kind_by_on = each_row (λ k c. GoesOn c.zero_seq → one_of k (2 ∷ 3 ∷ []) ≡ true) (λ h. absurd h, (λ h. absurd h, (λ h. refl, (λ h. refl, (λ h. absurd h, (λ h. absurd h, tt)))))) (λ k l h. absurd h)

-- so no source's does
pub no_source : (k : ℕ) → k ≤ 1 → {t : Term} → (kind_of k).zero_seq ≡ goes_on t → ⊥
unfolding kind_of kinds
no_source zero h e = subst GoesOn (sym e) tt
no_source (suc zero) h e = subst GoesOn (sym e) tt
no_source (suc (suc k)) h e = omega arith

-- ---- the kinds of each word of the table
abbrev pub kinds_of : Zero → List ℕ
kinds_of (starts t) = 0 ∷ 4 ∷ []
kinds_of (goes_on t) = 2 ∷ 3 ∷ []
kinds_of none = 1 ∷ 5 ∷ []

pub kind_by_word : (k : ℕ) → k < 6 → {z : Zero} → (kind_of k).zero_seq ≡ z → one_of k (kinds_of z) ≡ true
unfolding one_of kind_of kinds
kind_by_word k h e = subst (λ z. one_of k (kinds_of z) ≡ true) e (each_at (λ k. one_of k (kinds_of (kind_of k).zero_seq) ≡ true) 6 k h (refl, (refl, (refl, (refl, (refl, (refl, tt)))))))
