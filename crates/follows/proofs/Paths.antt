-- Trees of places: each place but 0 has an earlier one above it, and its list is the place itself, then the list of the one above. A board's chain is such a list, and so is that of its part;
-- what stands here is said of both. Assumes nothing.
use mathlib.Core.Bool.{false}
use mathlib.Core.List.{List, [], ◌∷◌}
use mathlib.Core.Logic.{◌⊎◌, inl, inr}
use mathlib.Core.Path.{◌≡◌, refl, sym, ◌∙◌, ap, subst}
use Prim.Native.Nat.{ℕ, zero, suc, ◌≤◌, ◌<◌}
use native.Mathlib.Omega.{arith}
use Rattle.paper.specs.Chain.{climb, empty, last_of, common}
use Rattle.follows.proofs.Lists.{On, on_none, on_here, on_there, on_cases, on_last, last_behind, last_on, common_all, common_nothing}

-- what holds of a place if it holds of all earlier ones holds of every place
pub from_earlier : (P : ℕ → Type 0) → ((r : ℕ) → ((s : ℕ) → s < r → P s) → P r) → (r : ℕ) → P r
from_earlier P step r = step r (below r)
  where
    below : (n s : ℕ) → s < n → P s
    below zero s h = absurd (omega arith)
    below (suc n) s h = step s (λ t k. below n t (omega arith))

pub record Tree (up : ℕ → ℕ) (path : ℕ → List ℕ) : Type 0 where
  pub earlier : (q : ℕ) → up (suc q) ≤ q
  pub ends : path 0 ≡ []
  pub goes : (q : ℕ) → path (suc q) ≡ suc q ∷ path (up (suc q))

-- ---- climbing by a rule that goes to an earlier place makes one: r steps are enough, and more change nothing
module _ (up : ℕ → ℕ) (earlier : (q : ℕ) → up (suc q) ≤ q) where
  climb_none : (n : ℕ) → climb n up 0 ≡ []
  unfolding climb
  climb_none zero = refl
  climb_none (suc n) = refl

  enough : (r n : ℕ) → r ≤ n → climb n up r ≡ climb r up r
  unfolding climb
  enough = from_earlier (λ r. (n : ℕ) → r ≤ n → climb n up r ≡ climb r up r) go
    where
      go : (r : ℕ) → ((s : ℕ) → s < r → (n : ℕ) → s ≤ n → climb n up s ≡ climb s up s) → (n : ℕ) → r ≤ n → climb n up r ≡ climb r up r
      go zero ih n l = climb_none n
      go (suc q) ih zero l = absurd (omega arith)
      go (suc q) ih (suc n) l = let e = earlier q in ap (λ l. suc q ∷ l) (ih (up (suc q)) (omega arith) n (omega arith) ∙ sym (ih (up (suc q)) (omega arith) q e))

  pub climb_tree : Tree up (λ r. climb r up r)
  unfolding climb
  climb_tree = record { earlier = earlier; ends = refl; goes = λ q. ap (λ l. suc q ∷ l) (enough (up (suc q)) q (earlier q)) }

module _ {up : ℕ → ℕ} {path : ℕ → List ℕ} (g : Tree up path) where
  -- what holds of no place, and of a place if it holds of the one above, holds of every place
  pub climbing : (P : ℕ → Type 0) → P 0 → ((q : ℕ) → P (up (suc q)) → P (suc q)) → (r : ℕ) → P r
  climbing P start step = from_earlier P go
    where
      go : (r : ℕ) → ((s : ℕ) → s < r → P s) → P r
      go zero h = start
      go (suc q) h = let e = g.earlier q in step q (h (up (suc q)) (omega arith))

  -- ---- who is on a list
  pub on_no_place : (i : ℕ) → On i (path 0) → ⊥
  on_no_place i h = on_none i (rw g.ends at h)

  pub on_path : (q i : ℕ) → On i (path (suc q)) → (i ≡ suc q) ⊎ On i (path (up (suc q)))
  on_path q i h = on_cases i (suc q) (path (up (suc q))) (rw (g.goes q) at h)

  pub on_behind : (q i : ℕ) → On i (path (up (suc q))) → On i (path (suc q))
  on_behind q i h = rw (g.goes q) (on_there i (suc q) (path (up (suc q))) h)

  pub on_own : (r : ℕ) → 1 ≤ r → On r (path r)
  on_own zero l = absurd (omega arith)
  on_own (suc q) l = rw (g.goes q) (on_here (suc q) (path (up (suc q))))

  pub between : (r i : ℕ) → On i (path r) → (1 ≤ i) × (i ≤ r)
  between r i = climbing (λ r. On i (path r) → (1 ≤ i) × (i ≤ r)) (λ h. absurd (on_no_place i h)) go r
    where
      go : (q : ℕ) → (On i (path (up (suc q))) → (1 ≤ i) × (i ≤ up (suc q))) → On i (path (suc q)) → (1 ≤ i) × (i ≤ suc q)
      go q ih h = on (on_path q i h)
        where
          on : (i ≡ suc q) ⊎ On i (path (up (suc q))) → (1 ≤ i) × (i ≤ suc q)
          on (inl e) = omega arith
          on (inr k) = let w = ih k in let e = g.earlier q in omega arith

  pub on_last_place : (r : ℕ) → 1 ≤ r → On (last_of (path r)) (path r)
  on_last_place zero l = absurd (omega arith)
  on_last_place (suc q) l = subst (λ m. On (last_of m) m) (sym (g.goes q)) (last_on (suc q) (path (up (suc q))))

  -- where j is on k's list, that list is j's with places put in front of it
  module _ (j : ℕ) (P : List ℕ → Type 0) (own : P (path j)) (front : (x : ℕ) (l : List ℕ) → P l → P (x ∷ l)) where
    pub behind : (k : ℕ) → On j (path k) → P (path k)
    behind = climbing (λ k. On j (path k) → P (path k)) (λ h. absurd (on_no_place j h)) go
      where
        go : (q : ℕ) → (On j (path (up (suc q))) → P (path (up (suc q)))) → On j (path (suc q)) → P (path (suc q))
        go q ih h = on (on_path q j h)
          where
            on : (j ≡ suc q) ⊎ On j (path (up (suc q))) → P (path (suc q))
            on (inl e) = subst (λ x. P (path x)) e own
            on (inr o) = rw (g.goes q) (front (suc q) (path (up (suc q))) (ih o))

  -- so all of it is on k's list, and both end alike
  pub on_all : (j k : ℕ) → On j (path k) → (i : ℕ) → On i (path j) → On i (path k)
  on_all j k h i o = behind j (On i) o (on_there i) k h

  pub same_last : (j k : ℕ) → On j (path k) → last_of (path k) ≡ last_of (path j)
  unfolding empty
  same_last j k h = (behind j (λ l. (empty l ≡ false) × (last_of l ≡ last_of (path j))) (on_last j (path j) (on_own j (between k j h).0), refl) (λ x l p. (refl, last_behind x l p.0 ∙ p.1)) k h).1

  -- ---- what the lists of j and k have in common
  pub common_on : (j k : ℕ) → On j (path k) → common (path j) (path k) ≡ path j
  common_on j k h = common_all (path j) (path k) (on_all j k h)

  pub common_apart : (j k : ℕ) → (last_of (path j) ≡ last_of (path k) → ⊥) → common (path j) (path k) ≡ []
  common_apart j k h = common_nothing (path j) (path k) (λ i a b. h (same_last i j a ∙ sym (same_last i k b)))

-- ---- two trees: the list of a place is the same in both where each place on it has the same one above
pub same_path : {up up' : ℕ → ℕ} {path path' : ℕ → List ℕ} → Tree up path → Tree up' path' → (k : ℕ) → ((r : ℕ) → On r (path k) → up' r ≡ up r) → path' k ≡ path k
same_path {up} {up'} {path} {path'} g g' = climbing g (λ k. ((r : ℕ) → On r (path k) → up' r ≡ up r) → path' k ≡ path k) (λ h. g'.ends ∙ sym g.ends) go
  where
    go : (q : ℕ) → (((r : ℕ) → On r (path (up (suc q))) → up' r ≡ up r) → path' (up (suc q)) ≡ path (up (suc q))) → ((r : ℕ) → On r (path (suc q)) → up' r ≡ up r) → path' (suc q) ≡ path (suc q)
    go q ih h =
        g'.goes q ∙ ap (λ u. suc q ∷ path' u) (h (suc q) (on_own g (suc q) (omega arith))) ∙ ap (λ l. suc q ∷ l) (ih (λ r o. h r (on_behind g q r o)))
        ∙ sym (g.goes q)
