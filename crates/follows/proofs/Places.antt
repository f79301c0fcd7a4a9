-- Looking for a label from the front: what the place found says, and what a longer table changes. Assumes nothing.
use mathlib.Core.Bool.{Bool, true, false, cond}
use mathlib.Core.List.{[], ◌∷◌, ◌++◌}
use mathlib.Core.Path.{◌≡◌, refl, sym, ◌∙◌, ap, subst}
use Prim.Native.Nat.{ℕ, zero, suc, ◌+◌, ◌-◌, ◌≤◌, ◌<◌}
use native.Mathlib.Nat.{add-zero}
use native.Mathlib.Omega.{arith}
use lib.ListN.{length, get_or}
use borrow.Author.Tests.{eq-eqb}
use Rattle.paper.specs.declared.Board.{Board}
use Rattle.paper.specs.Bytes.{same_bytes}
use Rattle.paper.specs.Label.{Label, capitals, same_label}
use Rattle.paper.specs.Chain.{Boards, no_board, board, look_from, place_of}

pub same_bytes_lem : (l : Label) → same_bytes l l ≡ true
unfolding same_bytes
same_bytes_lem [] = refl
same_bytes_lem (x ∷ l) = simp (eq-eqb x x refl, same_bytes_lem l)

pub same_label_lem : (l : Label) → same_label l l ≡ true
unfolding same_label
same_label_lem l = same_bytes_lem (capitals l)

-- ---- one step
pub look_here : (r : ℕ) (l : Label) (b : Board) (bs : Boards) → same_label l b.label ≡ true → look_from r l (b ∷ bs) ≡ r
unfolding look_from
look_here r l b bs e = rw e

pub look_there : (r : ℕ) (l : Label) (b : Board) (bs : Boards) → same_label l b.label ≡ false → look_from r l (b ∷ bs) ≡ look_from (suc r) l bs
unfolding look_from
look_there r l b bs e = rw e

-- ---- what is found: the first equal one, or none
abbrev pub Differs : Label → Boards → ℕ → Type 0
Differs l bs i = same_label l (get_or bs i no_board).label ≡ false

pub data Looked (r : ℕ) (l : Label) (bs : Boards) : Type 0 where
  missing : look_from r l bs ≡ 0 → ((i : ℕ) → i < length bs → Differs l bs i) → Looked r l bs
  found : (i : ℕ) → i < length bs → look_from r l bs ≡ r + i → same_label l (get_or bs i no_board).label ≡ true → ((j : ℕ) → j < i → Differs l bs j) → Looked r l bs

pub looked : (r : ℕ) (l : Label) (bs : Boards) → Looked r l bs
unfolding look_from
looked r l [] = missing refl (λ i h. absurd (omega arith))
looked r l (b ∷ bs) = go (same_label l b.label) refl (looked (suc r) l bs)
  where
    earlier : (i : ℕ) → same_label l b.label ≡ false → ((j : ℕ) → j < i → Differs l bs j) → (j : ℕ) → j < suc i → Differs l (b ∷ bs) j
    earlier i e d zero h = e
    earlier i e d (suc j) h = d j (omega arith)

    go : (t : Bool) → same_label l b.label ≡ t → Looked (suc r) l bs → Looked r l (b ∷ bs)
    go true e k = found 0 (omega arith) (look_here r l b bs e ∙ sym (add-zero r)) e (λ j h. absurd (omega arith))
    go false e (missing m d) = missing (look_there r l b bs e ∙ m) (earlier (length bs) e d)
    go false e (found i h m s d) = found (suc i) (omega arith) (omega (arith, look_there r l b bs e)) s (earlier i e d)

-- the same of a place
module _ (l : Label) (bs : Boards) where
  pub place_most : place_of l bs ≤ length bs
  place_most = go (looked 1 l bs)
    where
      go : Looked 1 l bs → place_of l bs ≤ length bs
      go (missing m d) = omega arith
      go (found i h m s d) = omega arith

  pub place_same : 1 ≤ place_of l bs → same_label l (board bs (place_of l bs)).label ≡ true
  place_same h = go (looked 1 l bs)
    where
      go : Looked 1 l bs → same_label l (board bs (place_of l bs)).label ≡ true
      go (missing m d) = absurd (omega arith)
      go (found i k m s d) = let e : place_of l bs - 1 ≡ i = omega arith in subst (λ n. same_label l (get_or bs n no_board).label ≡ true) (sym e) s

  -- nothing earlier
  pub place_first : (i : ℕ) → 1 ≤ i → i < place_of l bs → same_label l (board bs i).label ≡ false
  place_first i h k = go (looked 1 l bs)
    where
      go : Looked 1 l bs → same_label l (board bs i).label ≡ false
      go (missing m d) = absurd (omega arith)
      go (found n o m s d) = d (i - 1) (omega arith)

  pub place_none : place_of l bs ≡ 0 → (i : ℕ) → 1 ≤ i → i ≤ length bs → same_label l (board bs i).label ≡ false
  place_none z i h k = go (looked 1 l bs)
    where
      go : Looked 1 l bs → same_label l (board bs i).label ≡ false
      go (missing m d) = d (i - 1) (omega arith)
      go (found n o m s d) = absurd (omega arith)

-- ---- more boards behind: a place that was found stays, and one that was not is looked for among them
abbrev or_else : ℕ → ℕ → ℕ
or_else zero n = n
or_else (suc m) n = suc m

look_on : (r : ℕ) (l : Label) (xs ys : Boards) → look_from (suc r) l (xs ++ ys) ≡ or_else (look_from (suc r) l xs) (look_from (suc r + length xs) l ys)
unfolding look_from
look_on r l [] ys = rw (add-zero (suc r))
look_on r l (b ∷ xs) ys = go (same_label l b.label) (look_on (suc r) l xs ys)
  where
    go : (t : Bool) → look_from (suc (suc r)) l (xs ++ ys) ≡ or_else (look_from (suc (suc r)) l xs) (look_from (suc (suc r) + length xs) l ys) →
        cond t (suc r) (look_from (suc (suc r)) l (xs ++ ys)) ≡ or_else (cond t (suc r) (look_from (suc (suc r)) l xs)) (look_from (suc r + suc (length xs)) l ys)
    go true ih = refl
    go false ih = let e : suc r + suc (length xs) ≡ suc (suc r) + length xs = omega arith in rw e ih

module _ (l : Label) (xs ys : Boards) where
  pub place_stays : 1 ≤ place_of l xs → place_of l (xs ++ ys) ≡ place_of l xs
  place_stays h = look_on 0 l xs ys ∙ go (place_of l xs) h
    where
      go : (p : ℕ) → 1 ≤ p → or_else p (look_from (1 + length xs) l ys) ≡ p
      go zero h = absurd (omega arith)
      go (suc p) h = refl

  pub place_behind : place_of l xs ≡ 0 → place_of l (xs ++ ys) ≡ look_from (suc (length xs)) l ys
  place_behind h = look_on 0 l xs ys ∙ ap (λ p. or_else p (look_from (1 + length xs) l ys)) h ∙ ap (λ n. look_from n l ys) (omega arith)
