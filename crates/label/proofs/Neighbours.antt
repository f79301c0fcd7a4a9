-- A label's form told by each byte and each two neighbours, so that two parts that overlap tell the whole. Assumes nothing.
use Rattle.std.proofs.Common.{◌≡◌, ℕ, ◌%◌, Bool, true, false, not, ◌&&◌, ◌||◌, eqb, leb, List, [], ◌∷◌, ◌++◌, sym, refl, ap, ◌∙◌, ap₂, arith, ne_eqb, eqb-true, le-leb, leb-false, leb-true}
use mathlib.Core.Bool.{and_assoc, and-false, or-true}
use borrow.Author.Tests.{lt-leb, eqb-false}
use Rattle.lemmas.specs.Table.{tab}
use Rattle.paper.specs.Bytes.{within}
use Rattle.paper.specs.Label.{blank, visible_then_blank, formed}

abbrev visible : ℕ → Bool
visible x = within 0x21 0x7E x

abbrev pub allowed : ℕ → Bool
allowed x = within 0x20 0x7E x

-- past the space by the seven low bits: of a byte that is allowed, that it is visible
abbrev pub shown : ℕ → Bool
shown x = leb 0x21 (x % 128)

-- y may stand right behind x
abbrev pub follows : ℕ → ℕ → Bool
follows x y = not (shown y) || shown x

abbrev pub next : ℕ → List ℕ → Bool
next x [] = true
next x (y ∷ ys) = follows x y

abbrev pub tidy : List ℕ → Bool
tidy [] = true
tidy (x ∷ xs) = allowed x && (next x xs && tidy xs)

-- ---- a byte is a letter, the space, or neither
data Kind (x : ℕ) : Type 0 where
  letter : visible x ≡ true → allowed x ≡ true → shown x ≡ true → eqb x 0x20 ≡ false → Kind x
  space : x ≡ 0x20 → Kind x
  neither : visible x ≡ false → allowed x ≡ false → eqb x 0x20 ≡ false → Kind x

kind : (x : ℕ) → Kind x
unfolding within
kind x = go (leb 0x21 x) refl (leb x 0x7E) refl (eqb x 0x20) refl
  where
    go : (a : Bool) → leb 0x21 x ≡ a → (b : Bool) → leb x 0x7E ≡ b → (s : Bool) → eqb x 0x20 ≡ s → Kind x
    go true p true q s e =
        let least = leb-true 0x21 x p in
        let most = leb-true x 0x7E q in
        letter (rw (p, q)) (rw (le-leb 0x20 x (omega arith), q)) (le-leb 0x21 (x % 128) (omega arith)) (ne_eqb x 0x20 (λ (d : x ≡ 0x20). omega arith))
    go false p b q true e = space (eqb-true x 0x20 e)
    go true p false q s e =
        let past = leb-false x 0x7E q in
        neither (rw (p, q)) (rw q (and-false (leb 0x20 x))) (ne_eqb x 0x20 (λ (d : x ≡ 0x20). omega arith))
    go false p b q false e =
        let less = leb-false 0x21 x p in
        neither (rw p) (rw (lt-leb 0x20 x (omega (arith, eqb-false x 0x20 e)))) e

-- ---- the form is that of all neighbours
-- behind a letter all is well, behind a space only spaces
next_letter : (x : ℕ) → shown x ≡ true → (xs : List ℕ) → next x xs ≡ true
next_letter x h [] = refl
next_letter x h (y ∷ ys) = rw h (or-true (not (shown y)))

next_space : (xs : List ℕ) → blank xs ≡ (next 0x20 xs && visible_then_blank xs)
unfolding blank visible_then_blank within
next_space [] = refl
next_space (y ∷ ys) = go (kind y)
  where
    go : Kind y → blank (y ∷ ys) ≡ (follows 0x20 y && visible_then_blank (y ∷ ys))
    go (letter v a s n) = rw (s, n)
    go (space e) = rw e
    go (neither v a n) = rw (v, n) (sym (and-false (follows 0x20 y)))

pub by_neighbours : (l : List ℕ) → visible_then_blank l ≡ tidy l
unfolding blank visible_then_blank within
by_neighbours [] = refl
by_neighbours (x ∷ xs) = go (kind x) (by_neighbours xs)
  where
    go : Kind x → visible_then_blank xs ≡ tidy xs → visible_then_blank (x ∷ xs) ≡ tidy (x ∷ xs)
    go (letter v a s n) h = rw (v, a, next_letter x s xs) h
    go (space e) h = rw e (next_space xs ∙ ap (λ (t : Bool). next 0x20 xs && t) h)
    go (neither v a n) h = rw (v, a, n)

-- ---- two parts that overlap
overlap : (xs ys : List ℕ) → (tidy xs && tidy (xs ++ ys)) ≡ tidy (xs ++ ys)
overlap [] ys = refl
overlap (x ∷ []) ys = go (allowed x)
  where
    go : (a : Bool) → ((a && (true && true)) && (a && (next x ys && tidy ys))) ≡ (a && (next x ys && tidy ys))
    go true = refl
    go false = refl
overlap (x ∷ y ∷ xs) ys = go (allowed x) (follows x y) (tidy (y ∷ xs)) (tidy (y ∷ xs ++ ys)) (overlap (y ∷ xs) ys)
  where
    go : (a f t u : Bool) → (t && u) ≡ u → ((a && (f && t)) && (a && (f && u))) ≡ (a && (f && u))
    go true true t u h = h
    go true false t u h = refl
    go false f t u h = refl

-- both have m, so each two neighbours stand in one of them
joined : (m : ℕ) (xs ms ys : List ℕ) → (tidy (xs ++ (m ∷ ms)) && tidy (m ∷ ms ++ ys)) ≡ tidy (xs ++ (m ∷ ms ++ ys))
joined m [] ms ys = overlap (m ∷ ms) ys
joined m (x ∷ xs) ms ys =
    let t = tidy (xs ++ (m ∷ ms)) in
    let u = tidy (m ∷ ms ++ ys) in
    let f = next x (xs ++ (m ∷ ms)) in
    and_assoc (allowed x) (f && t) u ∙ ap (λ (b : Bool). allowed x && b) (and_assoc f t u ∙ ap₂ ◌&&◌ (seen xs) (joined m xs ms ys))
  where
    seen : (xs : List ℕ) → next x (xs ++ (m ∷ ms)) ≡ next x (xs ++ (m ∷ ms ++ ys))
    seen [] = refl
    seen (z ∷ zs) = refl

-- ---- twelve bytes: a label begins with no space
first_shown : (x : ℕ) (xs : List ℕ) → (not (eqb x 0x20) && visible_then_blank (x ∷ xs)) ≡ formed (x ∷ xs)
unfolding blank visible_then_blank formed within
first_shown x xs = go (kind x)
  where
    go : Kind x → (not (eqb x 0x20) && visible_then_blank (x ∷ xs)) ≡ formed (x ∷ xs)
    go (letter v a s n) = rw (v, n)
    go (space e) = rw e
    go (neither v a n) = rw (v, n)

-- the first eight and the last eight tell all
pub formed_of_parts : (f : ℕ → ℕ) → ((not (eqb (f 0) 0x20) && visible_then_blank (tab f 0 8)) && visible_then_blank (tab f 4 8)) ≡ formed (tab f 0 12)
formed_of_parts f =
    let s = not (eqb (f 0) 0x20) in
    let parts = ap₂ ◌&&◌ (by_neighbours (tab f 0 8)) (by_neighbours (tab f 4 8)) ∙ joined (f 4) (tab f 0 4) (tab f 5 3) (tab f 8 4) ∙ sym (by_neighbours (tab f 0 12)) in
    and_assoc s (visible_then_blank (tab f 0 8)) (visible_then_blank (tab f 4 8)) ∙ ap (λ (t : Bool). s && t) parts ∙ first_shown (f 0) (tab f 1 11)
