-- Words taken as bytes: what is done to a word at once is done to each of its bytes, where no byte reaches the next. So a trick on eight bytes is proved by computing it on each of 256. Assumes nothing.
use mathlib.Core.Path.{◌≡◌, refl, ap, ap₂, ◌∙◌}
use mathlib.Core.List.{List, [], ◌∷◌, map}
use Prim.Native.Nat.{ℕ, zero, suc, ◌+◌, ◌*◌, ◌/◌, ◌%◌, ◌^◌, ◌<◌}
use native.Mathlib.Omega.{arith}
use lib.Dec.{T, ltb, eqb, eqb→eq, ltb→lt}
use Rattle.lemmas.specs.Little.{little}
use Rattle.lemmas.specs.Bytewise.{little_endian, bytewise}
use Rattle.lemmas.proofs.Table.{every, every_at}
use Rattle.lemmas.proofs.Little.{little_back}

-- a rule that makes a byte of a byte, and two that agree on bytes: by computing them on all
abbrev pub Keeps : (ℕ → ℕ) → Type 0
Keeps f = (x : ℕ) → x < 256 → f x < 256

pub keeps : (f : ℕ → ℕ) → T (every (λ x. ltb (f x) 256) 0 256) → Keeps f
keeps f t x h = ltb→lt (f x) 256 (every_at (λ x. ltb (f x) 256) 256 x h t)

abbrev pub Agree : (ℕ → ℕ) → (ℕ → ℕ) → Type 0
Agree f g = (x : ℕ) → x < 256 → f x ≡ g x

pub agree : (f g : ℕ → ℕ) → T (every (λ x. eqb (f x) (g x)) 0 256) → Agree f g
agree f g t x h = eqb→eq (f x) (g x) (every_at (λ x. eqb (f x) (g x)) 256 x h t)

-- ---- a word is its bytes; rules that agree on bytes make the same word
map_nothing : (l : List ℕ) → map (λ x. x) l ≡ l
map_nothing [] = refl
map_nothing (x ∷ l) = ap {B = List ℕ} (λ r. x ∷ r) (map_nothing l)

pub bytewise_word : (n w : ℕ) → w < 256 ^ n → bytewise n (λ x. x) w ≡ w
bytewise_word n w h = ap little_endian (map_nothing (little n w)) ∙ little_back n w h

pub bytewise_same : (f g : ℕ → ℕ) → Agree f g → (n w : ℕ) → bytewise n f w ≡ bytewise n g w
unfolding little
bytewise_same f g e zero w = refl
bytewise_same f g e (suc n) w = ap₂ (λ (x m : ℕ). x + 256 * m) (e (w % 256) (omega arith)) (bytewise_same f g e n (w / 256))

-- ---- sums, an operation on bits
pub bytewise_sum : (f g : ℕ → ℕ) (n w : ℕ) → bytewise n f w + bytewise n g w ≡ bytewise n (λ x. f x + g x) w
unfolding little
bytewise_sum f g zero w = refl
bytewise_sum f g (suc n) w = omega (arith, bytewise_sum f g n (w / 256))

-- an operation that works on the k low bits and on the rest apart
abbrev pub Block : (ℕ → ℕ → ℕ) → Type 0
Block op = (k a b r s : ℕ) → r < 2 ^ k → s < 2 ^ k → op (a * 2 ^ k + r) (b * 2 ^ k + s) ≡ op a b * 2 ^ k + op r s

module _ (op : ℕ → ℕ → ℕ) (block : Block op) (none : op 0 0 ≡ 0) where
  high_first : (x m : ℕ) → x + 256 * m ≡ m * 2 ^ 8 + x
  high_first x m = omega arith

  pub bytewise_op : (f g : ℕ → ℕ) → Keeps f → Keeps g → (n w : ℕ) → op (bytewise n f w) (bytewise n g w) ≡ bytewise n (λ x. op (f x) (g x)) w
  unfolding little
  bytewise_op f g hf hg zero w = none
  bytewise_op f g hf hg (suc n) w =
      let x = w % 256 in
      let low : x < 256 = omega arith in
      ap₂ op (high_first (f x) (bytewise n f (w / 256))) (high_first (g x) (bytewise n g (w / 256)))
      ∙ block 8 (bytewise n f (w / 256)) (bytewise n g (w / 256)) (f x) (g x) (hf x low) (hg x low)
      ∙ omega (arith, bytewise_op f g hf hg n (w / 256))
