-- 02, R-3: labels in small letters and in capitals. Reading a to z as A to Z once is enough, equal labels are an equivalence, and a label's form does not depend on case. Assumes nothing.
use mathlib.Core.Bool.{Bool, true, false, cond, ◌&&◌}
use mathlib.Core.List.{[], ◌∷◌}
use mathlib.Core.Path.{◌≡◌, refl, sym, ◌∙◌, ap, subst}
use Prim.Native.Nat.{ℕ, zero, suc, ◌-◌, ◌≤◌}
use native.Mathlib.Omega.{arith}
use lib.Dec.{T, eqb}
use lib.ListN.{replicate}
use borrow.Author.Tests.{le-leb, ne_eqb}
use Rattle.lemmas.proofs.Bools.{untrue, not_both}
use Rattle.paper.specs.Bytes.{same_bytes, within}
use Rattle.paper.specs.Label.{Label, spaces, blank, visible_then_blank, formed, capital, capitals, same_label}
use Rattle.paper.proofs.Compare.{same_bytes→}
use Rattle.follows.proofs.Places.{same_bytes_lem}
use Rattle.follows.proofs.Accepted.{within_true}

-- ---- a byte: a small letter, or its own capital
data Letter (x : ℕ) : Type 0 where
  small : 0x61 ≤ x → x ≤ 0x7A → capital x ≡ x - 0x20 → Letter x
  other : capital x ≡ x → Letter x

letter : (x : ℕ) → Letter x
unfolding capital
letter x = go (within 0x61 0x7A x) refl
  where
    go : (t : Bool) → within 0x61 0x7A x ≡ t → Letter x
    go true e = let (a, z) = within_true 0x61 0x7A x e in small a z (rw e)
    go false e = other (rw e)

-- no capital is a small letter
pub capital_once : (x : ℕ) → capital (capital x) ≡ capital x
capital_once x = go (letter x) (letter (capital x))
  where
    go : Letter x → Letter (capital x) → capital (capital x) ≡ capital x
    go (other e) m = ap capital e
    go (small a z e) (other f) = f
    go (small a z e) (small b y f) = absurd (omega arith)

pub capital_visible : (x : ℕ) → within 0x21 0x7E x ≡ within 0x21 0x7E (capital x)
unfolding within
capital_visible x = go (letter x)
  where
    visible : (y : ℕ) → 0x21 ≤ y → y ≤ 0x7E → within 0x21 0x7E y ≡ true
    visible y a z = λ i. le-leb 0x21 y a i && le-leb y 0x7E z i

    go : Letter x → within 0x21 0x7E x ≡ within 0x21 0x7E (capital x)
    go (other e) = ap (within 0x21 0x7E) (sym e)
    go (small a z e) = visible x (omega arith) (omega arith) ∙ sym (visible (capital x) (omega arith) (omega arith))

capital_space : (x : ℕ) → eqb x 0x20 ≡ eqb (capital x) 0x20
capital_space x = go (letter x)
  where
    go : Letter x → eqb x 0x20 ≡ eqb (capital x) 0x20
    go (other e) = ap (λ y. eqb y 0x20) (sym e)
    go (small a z e) = ne_eqb x 0x20 (λ q. omega arith) ∙ sym (ne_eqb (capital x) 0x20 (λ q. omega arith))

-- ---- a label
pub capitals_once : (l : Label) → capitals (capitals l) ≡ capitals l
capitals_once [] = refl
capitals_once (x ∷ l) = λ i. capital_once x i ∷ capitals_once l i

-- its form, and being twelve spaces, do not depend on case
pub blank_capitals : (l : Label) → blank l ≡ blank (capitals l)
unfolding blank
blank_capitals [] = refl
blank_capitals (x ∷ l) = λ i. capital_space x i && blank_capitals l i

tail_capitals : (l : Label) → visible_then_blank l ≡ visible_then_blank (capitals l)
unfolding visible_then_blank
tail_capitals [] = refl
tail_capitals (x ∷ l) = λ i. cond (capital_visible x i) (tail_capitals l i) (blank_capitals (x ∷ l) i)

pub formed_capitals : (l : Label) → formed l ≡ formed (capitals l)
unfolding formed
formed_capitals [] = refl
formed_capitals (x ∷ l) = λ i. capital_visible x i && tail_capitals l i

pub spaces_capitals : (l : Label) → same_bytes l spaces ≡ same_bytes (capitals l) spaces
unfolding spaces same_bytes
spaces_capitals = go 12
  where
    go : (n : ℕ) (l : Label) → same_bytes l (replicate n 0x20) ≡ same_bytes (capitals l) (replicate n 0x20)
    go zero [] = refl
    go zero (x ∷ l) = refl
    go (suc n) [] = refl
    go (suc n) (x ∷ l) = λ i. capital_space x i && go n l i

-- ---- equal labels: the same capitals (that a label equals itself is `same_label_lem` of Places)
pub same_capitals : (a b : Label) → same_label a b ≡ true → capitals a ≡ capitals b
unfolding same_label
same_capitals a b e = same_bytes→ (capitals a) (capitals b) (subst T (sym e) tt)

pub capitals_same : (a b : Label) → capitals a ≡ capitals b → same_label a b ≡ true
unfolding same_label
capitals_same a b e = ap (same_bytes (capitals a)) (sym e) ∙ same_bytes_lem (capitals a)

pub same_sym : (a b : Label) → same_label a b ≡ same_label b a
same_sym a b = go (same_label a b) refl
  where
    go : (t : Bool) → same_label a b ≡ t → same_label a b ≡ same_label b a
    go true e = e ∙ sym (capitals_same b a (sym (same_capitals a b e)))
    go false e = e ∙ sym (untrue (same_label b a) (λ t. not_both (capitals_same a b (sym (same_capitals b a t))) e))

pub same_trans : (a b c : Label) → same_label a b ≡ true → same_label b c ≡ true → same_label a c ≡ true
same_trans a b c p q = capitals_same a c (same_capitals a b p ∙ same_capitals b c q)

-- two labels are equal exactly if their capitals are
pub same_upper : (a b : Label) → same_label a b ≡ same_label (capitals a) (capitals b)
unfolding same_label
same_upper a b = λ i. same_bytes (sym (capitals_once a) i) (sym (capitals_once b) i)
