-- Twelve bytes compared as two numbers: the bytes are the same exactly if the numbers of the first eight and of the last four are. Assumes nothing.
use Rattle.std.proofs.Common.{◌≡◌, ℕ, zero, suc, Bool, false, ◌&&◌, eqb, List, [], ◌∷◌, length, sym, refl, ap, ◌∙◌, ap₂, w8, Fits, eq-eqb, ne_eqb}
use mathlib.Core.Bool.{and_assoc, and-true, and-false}
use Rattle.lemmas.specs.Bytewise.{little_endian}
use Rattle.lemmas.specs.Table.{tab}
use Rattle.lemmas.proofs.Little.{same_digit}
use Rattle.paper.specs.Bytes.{u8_at, same_bytes}

-- ---- n bytes from place i on
abbrev pub Bytes : (ℕ → ℕ) → Type 0
Bytes f = (i : ℕ) → Fits w8 (f i)

same_number : (f g : ℕ → ℕ) → Bytes f → Bytes g → (i n : ℕ) → eqb (little_endian (tab f i n)) (little_endian (tab g i n)) ≡ same_bytes (tab f i n) (tab g i n)
unfolding same_bytes
same_number f g hf hg i zero = refl
same_number f g hf hg i (suc n) =
    same_digit (f i) (g i) (little_endian (tab f (suc i) n)) (little_endian (tab g (suc i) n)) (hf i).fits (hg i).fits
    ∙ ap (λ (t : Bool). eqb (f i) (g i) && t) (same_number f g hf hg (suc i) n)

-- ---- twelve, as the first eight and the last four
joined : (f g : ℕ → ℕ) → (same_bytes (tab f 0 8) (tab g 0 8) && same_bytes (tab f 8 4) (tab g 8 4)) ≡ same_bytes (tab f 0 12) (tab g 0 12)
unfolding same_bytes
joined f g = simp and_assoc

abbrev pub first : (ℕ → ℕ) → ℕ
first f = little_endian (tab f 0 8)

abbrev pub last : (ℕ → ℕ) → ℕ
last f = little_endian (tab f 8 4)

pub same_words : (f g : ℕ → ℕ) {p q s t : ℕ} → Bytes f → Bytes g → p ≡ first f → q ≡ first g → s ≡ last f → t ≡ last g → (eqb p q && eqb s t) ≡ same_bytes (tab f 0 12) (tab g 0 12)
same_words f g hf hg p q s t = rw (p, q, s, t) (ap₂ ◌&&◌ (same_number f g hf hg 0 8) (same_number f g hf hg 8 4) ∙ joined f g)

-- ---- a label as the table of its bytes
tab_later : (f : ℕ → ℕ) (i n : ℕ) → tab f (suc i) n ≡ tab (λ j. f (suc j)) i n
tab_later f i zero = refl
tab_later f i (suc n) = ap {B = List ℕ} (λ l. f (suc i) ∷ l) (tab_later f (suc i) n)

tab_all : (l : List ℕ) → tab (u8_at l) 0 (length l) ≡ l
tab_all [] = refl
tab_all (x ∷ l) = ap {B = List ℕ} (λ r. x ∷ r) (tab_later (u8_at (x ∷ l)) 0 (length l) ∙ tab_all l)

-- what its type says of a label
abbrev pub Twelve : List ℕ → Type 0
Twelve l = (length l ≡ 12) × Bytes (u8_at l)

pub twelve : (l : List ℕ) → length l ≡ 12 → tab (u8_at l) 0 12 ≡ l
twelve l h = rw h at (tab_all l)

-- ---- two labels, whose words are p and q, the first eight bytes, and s and t, the last four
module _ (a b : List ℕ) {p q s t : ℕ} (ha : Twelve a) (hb : Twelve b) (ep : p ≡ first (u8_at a)) (eq : q ≡ first (u8_at b)) (es : s ≡ last (u8_at a)) (et : t ≡ last (u8_at b)) where
  by_words : (eqb p q && eqb s t) ≡ same_bytes a b
  by_words = same_words (u8_at a) (u8_at b) ha.1 hb.1 ep eq es et ∙ ap₂ same_bytes (twelve a ha.0) (twelve b hb.0)

  -- their ends tell them apart, or leave it to the first eight
  pub other_end : (s ≡ t → ⊥) → false ≡ same_bytes a b
  other_end d = sym (ap (λ (e : Bool). eqb p q && e) (ne_eqb s t d) ∙ and-false (eqb p q)) ∙ by_words

  pub same_end : s ≡ t → eqb p q ≡ same_bytes a b
  same_end e = sym (ap (λ (x : Bool). eqb p q && x) (eq-eqb s t e) ∙ and-true (eqb p q)) ∙ by_words
