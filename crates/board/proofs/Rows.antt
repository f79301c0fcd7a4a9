-- Three phases in a part of twelve numbers: each stored where it is shown, and all three as the paper lists them. Assumes nothing.
use mathlib.Core.Path.{◌≡◌, refl, sym, ap, ◌∙◌, subst}
use mathlib.Core.List.{List, [], ◌∷◌, ◌++◌, append-nil}
use Prim.Native.Nat.{ℕ, suc, ◌+◌, ◌*◌, ◌%◌, ◌≤◌}
use native.Mathlib.Omega.{arith}
use borrow.Rule.Slice.PartMut.{put_mid}
use lib.IntN.{ℤ, pos}
use lib.ListN.{length, length-append, get_or, set, drop, drop_of_length-le}
use Rattle.lemmas.specs.Over.{over}
use Rattle.lemmas.specs.Table.{tab}
use Rattle.lemmas.proofs.Over.{put_over, over_then, over_all}
use Rattle.lemmas.proofs.Table.{each_at, tab_own}
use Rattle.turn.specs.declared.Num.{Num}
use Rattle.paper.specs.declared.Seq.{Seq}
use Rattle.paper.specs.Phase.{four, phases}
use Rattle.paper.specs.Answer.{flat}
use Rattle.board.specs.Put.{shown_at, laid}

-- what holds of twelve numbers spelled out, at each of the three phases, holds of every list of twelve at every phase
module _ (P : ℕ → List ℤ → Type 0) where
  abbrev Spelled : ℕ → Type 0
  Spelled ph = (f : ℕ → ℤ) → P ph (tab f 0 12)

  each_phase : Spelled 0 → Spelled 1 → Spelled 2 → (ph : ℕ) (xs : List ℤ) → ph ≤ 2 → length xs ≡ 12 → P ph xs
  each_phase a b c ph xs h e = subst (P ph) (sym (tab_own (pos 0) xs ∙ ap (tab (λ n. get_or xs n (pos 0)) 0) e)) (each_at Spelled 3 ph (omega arith) (a, (b, (c, tt))) (λ n. get_or xs n (pos 0)))

-- four stores
abbrev stores : ℕ → Num → List ℤ → List ℤ
stores ph n xs = set (set (set (set xs (4 * ph) n.x0) (4 * ph + 1) n.x1) (4 * ph + 2) n.x2) (4 * ph + 3) n.x3

pub stored : (n : Num) (ph : ℕ) (xs : List ℤ) → ph ≤ 2 → length xs ≡ 12 → stores ph n xs ≡ shown_at ph n xs
unfolding shown_at over
stored n = each_phase (λ ph xs. stores ph n xs ≡ shown_at ph n xs) (λ f. refl) (λ f. refl) (λ f. refl)

-- from any phase on, all three are shown
pub all_shown : (n : ℕ → Num) (f : ℕ) (xs : List ℤ) → f ≤ 2 → length xs ≡ 12 → laid f (λ i. n ((f + i) % 3)) xs ≡ flat (four (n 0) ∷ four (n 1) ∷ four (n 2) ∷ [])
unfolding laid shown_at over flat
all_shown n = each_phase (λ f xs. laid f (λ i. n ((f + i) % 3)) xs ≡ flat (four (n 0) ∷ four (n 1) ∷ four (n 2) ∷ [])) (λ g. refl) (λ g. refl) (λ g. refl)

-- ---- a part from the front and the part behind it, that together are all of xs
pub two_parts : (m n : ℕ) (xs : List ℤ) {us vs : List ℤ} (ys zs : List ℤ) → us ≡ ys → vs ≡ zs → m ≡ length ys → n ≡ length zs → m + n ≡ length xs → put_mid m n (put_mid 0 m xs us) vs ≡ ys ++ zs
two_parts m n xs {us} {vs} ys zs p q a b e =
    let at : m ≡ 0 + length ys = omega arith in
    put_over m n (put_mid 0 m xs us) vs zs q b ∙ ap (over m zs) (put_over 0 m xs us ys p a) ∙ ap (λ (k : ℕ). over k zs (over 0 ys xs)) at ∙ over_then 0 ys zs xs (omega arith)
    ∙ over_all (ys ++ zs) xs (length-append ys zs ∙ omega arith)

-- a number, and the part behind it
pub one_and_part : (n : ℕ) (d : ℤ) (xs : List ℤ) {x : ℤ} {us : List ℤ} (ys : List ℤ) → x ≡ d → us ≡ ys → length ys ≡ n → length xs ≡ suc n → put_mid 1 n (set xs 0 x) us ≡ d ∷ ys
one_and_part n d [] ys p q a e = absurd (omega arith)
one_and_part n d (y ∷ xs) ys p q a e =
    (λ i. p i ∷ (q i ++ drop n xs)) ∙ ap (λ (l : List ℤ). d ∷ (ys ++ l)) (drop_of_length-le xs {i = n} (omega arith)) ∙ ap (λ (l : List ℤ). d ∷ l) (append-nil ys)

pub phases_length : (p sj sk : ℕ) (X : Seq) → length (flat (phases p sj sk X)) ≡ 12
unfolding phases flat
phases_length p sj sk X = refl
