-- A part of a buffer, lent and written over: what the buffer then holds, place by place, and the turns of a copy into it.
-- Assumes nothing.
use mathlib.Core.Path.{◌≡◌, refl, sym, ap, ◌∙◌, subst}
use mathlib.Core.List.{List, ◌++◌, append-nil, append_assoc}
use Prim.Native.Nat.{ℕ, suc, ◌+◌, ◌-◌, ◌≤◌, ◌<◌}
use native.Mathlib.Nat.{zero-add}
use native.Mathlib.Numerals.{add-one}
use native.Mathlib.Omega.{arith}
use borrow.Rule.Slice.PartMut.{put_mid}
use lib.ListN.{length, get_or, take, drop, set, length-append, length-take, length-drop, get_or-append}
use lib.Seq.{paste, paste-suc, drop-length, take-length, length-take-le, get_or-append-add, get_or-take, get_or-drop, take-append_seam, drop-append_seam, take-append-add, drop-append-add, drop-drop}
use Rattle.lemmas.specs.Over.{over}

-- what a lent part leaves: the callee was lent k places from a on and left ys there, which its contract says is zs
pub put_over : {A : Type 0} (a k : ℕ) (xs ys zs : List A) → ys ≡ zs → k ≡ length zs → put_mid a k xs ys ≡ over a zs xs
unfolding over
put_over a k xs ys zs p e = λ i. put_mid a (e i) xs (p i)

-- place by place
module _ {A : Type 0} (d : A) (a : ℕ) (ys xs : List A) (h : a + length ys ≤ length xs) where
  head : length (take a xs) ≡ a
  head = length-take-le a xs (omega arith)

  pub over_length : length (over a ys xs) ≡ length xs
  unfolding over
  over_length = simp (length-append, length-take, length-drop) (omega arith)

  pub over_before : (j : ℕ) → j < a → get_or (over a ys xs) j d ≡ get_or xs j d
  unfolding over
  over_before j l = get_or-append (take a xs) (ys ++ drop (length ys) (drop a xs)) d j (omega (arith, head)) ∙ get_or-take a xs j d l

  pub over_in : (j : ℕ) → j < length ys → get_or (over a ys xs) (a + j) d ≡ get_or ys j d
  unfolding over
  over_in j l =
      subst (λ (n : ℕ). get_or (take a xs ++ (ys ++ drop (length ys) (drop a xs))) (n + j) d ≡ get_or (ys ++ drop (length ys) (drop a xs)) j d) head
      (get_or-append-add (take a xs) (ys ++ drop (length ys) (drop a xs)) j d)
      ∙ get_or-append ys (drop (length ys) (drop a xs)) d j l

  pub over_after : (j : ℕ) → a + length ys ≤ j → get_or (over a ys xs) j d ≡ get_or xs j d
  unfolding over
  over_after j l =
      let k = j - (a + length ys) in
      let rest = drop (length ys) (drop a xs) in
      let e : j ≡ length (take a xs) + (length ys + k) = omega (arith, head) in
      let f : a + (length ys + k) ≡ j = omega arith in
      ap (λ (m : ℕ). get_or (over a ys xs) m d) e ∙ get_or-append-add (take a xs) (ys ++ rest) (length ys + k) d ∙ get_or-append-add ys rest k d
      ∙ get_or-drop (length ys) (drop a xs) k d
      ∙ get_or-drop a xs (length ys + k) d
      ∙ ap (λ (m : ℕ). get_or xs m d) f

-- ---- a copy from the front: `paste out 0 xs j` is `out` with the first j of xs over it
pub copy_one : {A : Type 0} (d : A) (out xs o : List A) (j : ℕ) (x : A) → j < length out → j < length xs → o ≡ paste out 0 xs j → x ≡ get_or xs j d → set o j x ≡ paste out 0 xs (j + 1)
copy_one {A} d out xs o j x ho hx p e =
    ap (λ (l : List A). set l j x) p ∙ ap (λ (y : A). set (paste out 0 xs j) j y) e
    ∙ subst (λ (m : ℕ). set (paste out 0 xs j) m (get_or xs j d) ≡ paste out 0 xs (suc j)) (zero-add j) (paste-suc out 0 xs j d (rw (zero-add j) ho) hx)
    ∙ ap (λ (m : ℕ). paste out 0 xs m) (sym (add-one j))

-- the whole copy, over a buffer of the same length
pub copied : {A : Type 0} (out xs : List A) (k : ℕ) → length out ≡ k → length xs ≡ k → paste out 0 xs k ≡ xs
copied {A} out xs k e f =
    subst (λ (n : ℕ). take k xs ++ drop n out ≡ xs) (sym (zero-add k))
    (subst (λ (n : ℕ). take n xs ++ drop k out ≡ xs) f (subst (λ (n : ℕ). take (length xs) xs ++ drop n out ≡ xs) e (rw (take-length xs, drop-length out, append-nil xs))))

-- ---- written behind what was written
module _ {A : Type 0} (a : ℕ) (ys zs xs : List A) (h : a ≤ length xs) where
  front : length (take a xs) ≡ a
  front = length-take-le a xs h

  rest : List A
  rest = drop (length ys) (drop a xs)

  pub over_then : over (a + length ys) zs (over a ys xs) ≡ over a (ys ++ zs) xs
  unfolding over rest
  over_then =
      let p = take a xs in
      let kept : take (a + length ys) (p ++ (ys ++ rest)) ≡ p ++ ys =
      subst (λ (n : ℕ). take (n + length ys) (p ++ (ys ++ rest)) ≡ p ++ ys) front
      (take-append-add p (ys ++ rest) (length ys) ∙ ap (λ (l : List A). p ++ l) (take-append_seam ys rest)) in
      let left : drop (a + length ys) (p ++ (ys ++ rest)) ≡ rest =
      subst (λ (n : ℕ). drop (n + length ys) (p ++ (ys ++ rest)) ≡ rest) front
      (drop-append-add p (ys ++ rest) (length ys) ∙ drop-append_seam ys rest) in
      ap (λ (l : List A). l ++ (zs ++ drop (length zs) (drop (a + length ys) (p ++ (ys ++ rest))))) kept
      ∙ ap (λ (l : List A). (p ++ ys) ++ (zs ++ drop (length zs) l)) left
      ∙ append_assoc p ys (zs ++ drop (length zs) rest)
      ∙ ap (λ (l : List A). p ++ l) (sym (append_assoc ys zs (drop (length zs) rest)))
      ∙ ap (λ (l : List A). p ++ ((ys ++ zs) ++ l)) (drop-drop (length zs) (length ys) (drop a xs) ∙ ap (λ (n : ℕ). drop n (drop a xs)) (sym (length-append ys zs)))

-- from the front, and over all of it
pub over_front : {A : Type 0} (ys xs : List A) → over 0 ys xs ≡ ys ++ drop (length ys) xs
unfolding over
over_front ys xs = refl

pub over_all : {A : Type 0} (ys xs : List A) → length ys ≡ length xs → over 0 ys xs ≡ ys
unfolding over
over_all {A} ys xs e = ap (λ (l : List A). ys ++ l) (ap (λ (n : ℕ). drop n xs) e ∙ drop-length xs) ∙ append-nil ys
