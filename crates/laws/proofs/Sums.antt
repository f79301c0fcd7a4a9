-- Numbers that are there or not (`only_if`), and sums of them over the records. Assumes nothing.
use mathlib.Core.Bool.{Bool, true, false}
use mathlib.Core.Path.{◌≡◌, refl, sym, ◌∙◌, ap, ap₂}
use Prim.Native.Nat.{ℕ, zero, suc, ◌≤◌}
use native.Mathlib.Omega.{arith}
use lib.Dec.{eqb}
use borrow.Author.Tests.{eqb-true, eqb-false, ne_eqb}
use Rattle.lemmas.proofs.Ring.{zer_add, add_swap}
use Rattle.turn.specs.declared.Num.{Num}
use Rattle.turn.specs.Number.{◌+N◌}
use Rattle.turn.proofs.Ring.{Nring, +N_zero}
use Rattle.paper.specs.Fault.{nil_n}
use Rattle.paper.specs.Phase.{only_if}
use Rattle.laws.specs.Laws.{sum_to, drawn_from}

pub only_there : {e : Bool} (x : Num) → e ≡ true → only_if e x ≡ x
unfolding only_if
only_there x h = ap (λ t. only_if t x) h

pub only_gone : {e : Bool} (x : Num) → e ≡ false → only_if e x ≡ nil_n
unfolding only_if
only_gone x h = ap (λ t. only_if t x) h

pub only_nil : (e : Bool) {x : Num} → x ≡ nil_n → only_if e x ≡ nil_n
unfolding only_if
only_nil true h = h
only_nil false h = refl

pub only_add : (e : Bool) (x y : Num) → only_if e (x +N y) ≡ only_if e x +N only_if e y
unfolding only_if
only_add true x y = refl
only_add false x y = sym (+N_zero nil_n)

pub sum_same : (n : ℕ) (f g : ℕ → Num) → ((r : ℕ) → 1 ≤ r → r ≤ n → f r ≡ g r) → sum_to n f ≡ sum_to n g
sum_same zero f g h = refl
sum_same (suc n) f g h = ap₂ ◌+N◌ (sum_same n f g (λ r a b. h r a (omega arith))) (h (suc n) (omega arith) (omega arith))

pub sum_nil : (n : ℕ) (f : ℕ → Num) → ((r : ℕ) → 1 ≤ r → r ≤ n → f r ≡ nil_n) → sum_to n f ≡ nil_n
sum_nil zero f h = refl
sum_nil (suc n) f h = ap₂ ◌+N◌ (sum_nil n f (λ r a b. h r a (omega arith))) (h (suc n) (omega arith) (omega arith)) ∙ +N_zero nil_n

pub sum_add : (n : ℕ) (f g : ℕ → Num) → sum_to n (λ j. f j +N g j) ≡ sum_to n f +N sum_to n g
sum_add zero f g = sym (+N_zero nil_n)
sum_add (suc n) f g = ap (λ t. t +N (f (suc n) +N g (suc n))) (sum_add n f g) ∙ add_swap Nring (sum_to n f) (sum_to n g) (f (suc n)) (g (suc n))

-- the one place u among all, if it counts; place 0 counts nowhere
pub sum_pick : (n u : ℕ) (f : ℕ → Bool) (X : Num) → f 0 ≡ false → u ≤ n → sum_to n (λ j. only_if (f j) (only_if (eqb j u) X)) ≡ only_if (f u) X
sum_pick zero zero f X h l = sym (only_gone X h)
sum_pick zero (suc u) f X h l = absurd (omega arith)
sum_pick (suc n) u f X h l = go (sum_pick n u f X h) (eqb (suc n) u) refl
  where
    go : (u ≤ n → sum_to n (λ j. only_if (f j) (only_if (eqb j u) X)) ≡ only_if (f u) X) → (c : Bool) → eqb (suc n) u ≡ c → sum_to (suc n) (λ j. only_if (f j) (only_if (eqb j u) X)) ≡ only_if (f u) X
    go ih true c =
        let e : suc n ≡ u = eqb-true (suc n) u c in
        ap₂ ◌+N◌ (sum_nil n _ (λ r a b. only_nil (f r) (only_gone X (ne_eqb r u (omega arith))))) (ap (only_if (f (suc n))) (only_there X c)) ∙ +N_zero (only_if (f (suc n)) X) ∙ ap (λ r. only_if (f r) X) e
    go ih false c =
        let e = eqb-false (suc n) u c in
        ap₂ ◌+N◌ (ih (omega (arith, e))) (only_nil (f (suc n)) (only_gone X c)) ∙ zer_add Nring (only_if (f u) X)

-- what is drawn from a board is nothing where none of its records draws
pub drawn_nil : (up : ℕ → ℕ) (n b : ℕ) (c : ℕ → Num) → ((r : ℕ) → 1 ≤ r → r ≤ n → up r ≡ b → c r ≡ nil_n) → drawn_from up n c b ≡ nil_n
drawn_nil up n b c h = sum_nil n (λ r. only_if (eqb (up r) b) (c r)) (λ r a l. go r a l (eqb (up r) b) refl)
  where
    go : (r : ℕ) → 1 ≤ r → r ≤ n → (e : Bool) → eqb (up r) b ≡ e → only_if (eqb (up r) b) (c r) ≡ nil_n
    go r a l true e = only_nil (eqb (up r) b) (h r a l (eqb-true (up r) b e))
    go r a l false e = only_gone (c r) e
