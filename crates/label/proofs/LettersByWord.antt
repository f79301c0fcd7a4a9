-- Eight bytes told at once by a few operations on their word: what these do to a byte is computed on all 256. Assumes nothing.
use Rattle.std.proofs.Common.{◌≡◌, ℕ, zero, suc, ◌+◌, ◌*◌, ◌/◌, ◌%◌, ◌^◌, ◌<◌, ◌≤◌, Bool, true, false, cond, not, ◌&&◌, ◌||◌, eqb, leb, List, [], ◌∷◌, map, sym, refl, ap, ◌∙◌, ap₂, arith, eqb→eq, eqb-true}
use mathlib.Core.Bool.{and_assoc, and-false, or-true}
use lib.Bits.{bit_and, bit_or, bit_xor, and_block, or_block, xor_block, and_le_r, and_zero_r}
use borrow.Author.Tests.{eqb-false}
use Rattle.lemmas.specs.Little.{little}
use Rattle.lemmas.specs.Bytewise.{little_endian, bytewise}
use Rattle.lemmas.specs.Table.{tab}
use Rattle.lemmas.proofs.Bools.{both, untrue}
use Rattle.lemmas.proofs.Table.{every_at}
use Rattle.lemmas.proofs.Little.{same_digit, little_of}
use Rattle.lemmas.proofs.Bitwise.{and_and, none_masked}
use Rattle.lemmas.proofs.Bytewise.{Keeps, keeps, agree, Block, bytewise_word, bytewise_same, bytewise_sum, bytewise_op}
use Rattle.paper.specs.Bytes.{u8_at, within}
use Rattle.paper.specs.Label.{visible_then_blank, formed}
use Rattle.label.proofs.Neighbours.{allowed, shown, follows, next, tidy, by_neighbours, formed_of_parts}
use Rattle.label.proofs.Same.{Twelve, first, last, twelve}

-- ---- what is said of a byte in its bit 7
abbrev yes : Bool → ℕ
yes b = cond b 0x80 0

abbrev no : Bool → ℕ
no b = cond b 0 0x80

no_byte : (b : Bool) → no b < 256
no_byte true = omega arith
no_byte false = omega arith

no_tells : (b : Bool) → eqb (no b) 0 ≡ b
no_tells true = refl
no_tells false = refl

-- past the space
abbrev past : ℕ → ℕ
past y = y % 128 + 0x5F

past_tells : (y : ℕ) → bit_and (past y) 0x80 ≡ yes (shown y)
past_tells y = eqb→eq (bit_and (past y) 0x80) (yes (shown y)) (every_at (λ r. eqb (bit_and (r + 0x5F) 0x80) (yes (leb 0x21 r))) 128 (y % 128) (omega arith) tt)

-- a byte that is shown, behind one that is not
late_tells : (y x : ℕ) → eqb (bit_and (past y) (no (shown x))) 0 ≡ follows x y
late_tells y x = go (shown x)
  where
    told : (t : Bool) → eqb (yes t) 0 ≡ (not t || false)
    told true = refl
    told false = refl

    go : (s : Bool) → eqb (bit_and (past y) (no s)) 0 ≡ (not (shown y) || s)
    go true = ap (λ (n : ℕ). eqb n 0) (and_zero_r (past y)) ∙ sym (or-true (not (shown y)))
    go false = ap (λ (n : ℕ). eqb n 0) (past_tells y) ∙ told (shown y)

late_byte : (y x : ℕ) → bit_and (past y) (no (shown x)) < 256
late_byte y x = omega (arith, and_le_r (past y) (no (shown x)), no_byte (shown x))

-- ---- the words are 0 exactly if all neighbours are as they must be
abbrev outside_of : List ℕ → ℕ
outside_of l = little_endian (map (λ x. no (allowed x)) l)

abbrev past_of : List ℕ → ℕ
past_of l = little_endian (map past l)

abbrev hidden_of : List ℕ → ℕ
hidden_of l = little_endian (map (λ x. no (shown x)) l)

-- each byte of the one against the byte before it of the other
late_next : (x y : ℕ) (ys : List ℕ) → eqb (bit_and (past_of (y ∷ ys)) (hidden_of (x ∷ y ∷ ys))) 0 ≡ (follows x y && eqb (bit_and (past_of ys) (hidden_of (y ∷ ys))) 0)
late_next x y ys =
    let p = past y in
    let q = no (shown x) in
    let s = past_of ys in
    let h = hidden_of (y ∷ ys) in
    let high : (a m : ℕ) → a + 256 * m ≡ m * 2 ^ 8 + a = λ a m. omega arith in
    let apart : bit_and (p + 256 * s) (q + 256 * h) ≡ bit_and p q + 256 * bit_and s h =
    ap₂ bit_and (high p s) (high q h) ∙ and_block 8 s h p q (omega arith) (no_byte (shown x)) ∙ sym (high (bit_and p q) (bit_and s h)) in
    ap (λ (n : ℕ). eqb n 0) apart
    ∙ same_digit (bit_and p q) 0 (bit_and s h) 0 (late_byte y x) (omega arith)
    ∙ ap (λ (t : Bool). t && eqb (bit_and s h) 0) (late_tells y x)

outside_next : (x : ℕ) (xs : List ℕ) → eqb (outside_of (x ∷ xs)) 0 ≡ (allowed x && eqb (outside_of xs) 0)
outside_next x xs =
    same_digit (no (allowed x)) 0 (outside_of xs) 0 (no_byte (allowed x)) (omega arith) ∙ ap (λ (t : Bool). t && eqb (outside_of xs) 0) (no_tells (allowed x))

words_tell : (x : ℕ) (xs : List ℕ) → (eqb (outside_of (x ∷ xs)) 0 && eqb (bit_and (past_of xs) (hidden_of (x ∷ xs))) 0) ≡ tidy (x ∷ xs)
words_tell x [] = ap (λ (t : Bool). t && true) (outside_next x []) ∙ and_assoc (allowed x) true true
words_tell x (y ∷ ys) =
    let a = eqb (outside_of (y ∷ ys)) 0 in
    let l = eqb (bit_and (past_of ys) (hidden_of (y ∷ ys))) 0 in
    ap₂ ◌&&◌ (outside_next x (y ∷ ys)) (late_next x y ys) ∙ regroup (allowed x) (follows x y) a l ∙ ap (λ (t : Bool). allowed x && (follows x y && t)) (words_tell y ys)
  where
    regroup : (p q a l : Bool) → ((p && a) && (q && l)) ≡ (p && (q && (a && l)))
    regroup true true a l = refl
    regroup true false a l = and-false a
    regroup false q a l = refl

-- where all are, no byte has bit 7
high_none : (n w : ℕ) → tidy (little n w) ≡ true → bytewise n (λ x. bit_and x 0x80) w ≡ 0
unfolding little within
high_none zero w t = refl
high_none (suc n) w t =
    let x = w % 256 in
    let xs = little n (w / 256) in
    let h = both (allowed x) (next x xs && tidy xs) t in
    let rule : ℕ → ℕ = λ x. cond (allowed x) (bit_and x 0x80) 0 in
    let low : bit_and x 0x80 ≡ 0 = rw h.0 at (agree rule (λ x. 0) tt x (omega arith)) in
    omega (arith, low, high_none n (w / 256) (both (next x xs) (tidy xs) h.1).1)

-- ---- the steps of `formed::letters_then_spaces`
abbrev seven : ℕ → ℕ
seven x = bit_and x 0x7F

abbrev eighths : ℕ
eighths = 0x8080_8080_8080_8080

module _ (w : ℕ) (h : w < 256 ^ 8) where
  -- a value that is made of the word, byte by byte
  abbrev Is : ℕ → (ℕ → ℕ) → Type 0
  Is e f = e ≡ bytewise 8 f w

  word : Is w (λ x. x)
  word = sym (bytewise_word 8 w h)

  module _ {e d : ℕ} (f g : ℕ → ℕ) where
    plus : Is e f → Is d g → Is (e + d) (λ x. f x + g x)
    plus p q = ap₂ ◌+◌ p q ∙ bytewise_sum f g 8 w

    on : (op : ℕ → ℕ → ℕ) → Block op → op 0 0 ≡ 0 → Keeps f → Keeps g → Is e f → Is d g → Is (op e d) (λ x. op (f x) (g x))
    on op block none hf hg p q = ap₂ op p q ∙ bytewise_op op block none f g hf hg 8 w

  kept : Keeps (λ x. x)
  kept x l = l

  abbrev eighth : Keeps (λ x. 0x80)
  eighth = keeps (λ x. 0x80) tt

  high_is : Is (bit_and w eighths) (λ x. bit_and x 0x80)
  unfolding little
  high_is = on (λ x. x) (λ x. 0x80) bit_and and_block refl kept eighth word refl

  -- p, f and d, the word with a number added to each byte: past the space, from the space on, 0x7F
  module _ {p f d : ℕ} (ep : p ≡ (w + 0x5F5F_5F5F_5F5F_5F5F) % 2 ^ 64) (ef : f ≡ (w + 0x6060_6060_6060_6060) % 2 ^ 64) (ed : d ≡ (w + 0x0101_0101_0101_0101) % 2 ^ 64) where
    abbrev outside : ℕ
    outside = bit_or (bit_or (bit_xor f eighths) d) w

    abbrev late : ℕ
    late = bit_and (p / 256) (bit_xor p eighths)

    -- where no byte has bit 7, no sum reaches the next byte
    module _ (none : bit_and w eighths ≡ 0) where
      word_is : Is w seven
      word_is =
          let whole = bytewise_sum seven (λ x. bit_and x 0x80) 8 w ∙ bytewise_same (λ x. seven x + bit_and x 0x80) (λ x. x) (agree (λ x. seven x + bit_and x 0x80) (λ x. x) tt) 8 w ∙ sym word in
          omega (arith, whole, high_is, none)

      word_small : w ≤ 0x7F7F_7F7F_7F7F_7F7F
      unfolding little
      word_small =
          let same = word_is ∙ sym (on (λ x. x) (λ x. 0x7F) bit_and and_block refl kept (keeps (λ x. 0x7F) tt) word refl) in
          omega (arith, same, and_le_r w 0x7F7F_7F7F_7F7F_7F7F)

      added : {e : ℕ} (k m : ℕ) → Is m (λ x. k) → m ≤ eighths → e ≡ (w + m) % 2 ^ 64 → Is e (λ x. seven x + k)
      added k m em l ee =
          let fits : (w + m) % 2 ^ 64 ≡ w + m = omega (arith, word_small) in
          ee ∙ fits ∙ plus seven (λ x. k) word_is em

      past_is : p ≡ past_of (little 8 w)
      unfolding little
      past_is =
          let rule : ℕ → ℕ = λ x. seven x + 0x5F in
          added 0x5F 0x5F5F_5F5F_5F5F_5F5F refl (omega arith) ep ∙ bytewise_same rule past (agree rule past tt) 8 w

      -- a byte less
      behind_is : p / 256 ≡ past_of (little 7 (w / 256))
      unfolding little
      behind_is = ap (λ (n : ℕ). n / 256) past_is ∙ dropped (w % 256) (past_of (little 7 (w / 256)))
        where
          dropped : (x m : ℕ) → (past x + 256 * m) / 256 ≡ m
          dropped x m = omega arith

      hidden_is : bit_and (bit_xor p eighths) eighths ≡ hidden_of (little 8 w)
      unfolding little
      hidden_is =
          let other : ℕ → ℕ = λ x. bit_xor (past x) 0x80 in
          let rule : ℕ → ℕ = λ x. bit_and (other x) 0x80 in
          on other (λ x. 0x80) bit_and and_block refl (keeps other tt) eighth (on past (λ x. 0x80) bit_xor xor_block refl (keeps past tt) eighth past_is refl) refl
          ∙ bytewise_same rule (λ x. no (shown x)) (agree rule (λ x. no (shown x)) tt) 8 w

      outside_is : bit_and outside eighths ≡ outside_of (little 8 w)
      unfolding little within
      outside_is =
          let least : ℕ → ℕ = λ x. seven x + 0x60 in
          let below : ℕ → ℕ = λ x. bit_xor (least x) 0x80 in
          let delete : ℕ → ℕ = λ x. seven x + 0x01 in
          let two : ℕ → ℕ = λ x. bit_or (below x) (delete x) in
          let three : ℕ → ℕ = λ x. bit_or (two x) x in
          let rule : ℕ → ℕ = λ x. bit_and (three x) 0x80 in
          let a = on least (λ x. 0x80) bit_xor xor_block refl (keeps least tt) eighth (added 0x60 0x6060_6060_6060_6060 refl (omega arith) ef) refl in
          let b = on below delete bit_or or_block refl (keeps below tt) (keeps delete tt) a (added 0x01 0x0101_0101_0101_0101 refl (omega arith) ed) in
          let c = on two (λ x. x) bit_or or_block refl (keeps two tt) kept b word in
          on three (λ x. 0x80) bit_and and_block refl (keeps three tt) eighth c refl ∙ bytewise_same rule (λ x. no (allowed x)) (agree rule (λ x. no (allowed x)) tt) 8 w

      in_range : (eqb (bit_and outside eighths) 0 && eqb (bit_and late eighths) 0) ≡ visible_then_blank (little 8 w)
      unfolding little
      in_range =
          let late_is = and_and (p / 256) (bit_xor p eighths) eighths ∙ ap₂ bit_and behind_is hidden_is in
          ap₂ (λ (o l : ℕ). eqb o 0 && eqb l 0) outside_is late_is ∙ words_tell (w % 256) (little 7 (w / 256)) ∙ sym (by_neighbours (little 8 w))

    -- a byte that has bit 7 is outside, whatever the sums are
    past_range : eqb (bit_and w eighths) 0 ≡ false → (eqb (bit_and outside eighths) 0 && eqb (bit_and late eighths) 0) ≡ visible_then_blank (little 8 w)
    past_range e =
        let two = bit_or (bit_xor f eighths) d in
        let out = none_masked two w eighths ∙ ap (λ (t : Bool). eqb (bit_and two eighths) 0 && t) e ∙ and-false (eqb (bit_and two eighths) 0) in
        let not-tidy = untrue (tidy (little 8 w)) (λ t. eqb-false (bit_and w eighths) 0 e (high_is ∙ high_none 8 w t)) in
        ap (λ (t : Bool). t && eqb (bit_and late eighths) 0) out ∙ sym (by_neighbours (little 8 w) ∙ not-tidy)

    pub letters_then_spaces_is : eqb (bit_and (bit_or outside late) eighths) 0 ≡ visible_then_blank (little 8 w)
    letters_then_spaces_is = none_masked outside late eighths ∙ go (eqb (bit_and w eighths) 0) refl
      where
        go : (t : Bool) → eqb (bit_and w eighths) 0 ≡ t → (eqb (bit_and outside eighths) 0 && eqb (bit_and late eighths) 0) ≡ visible_then_blank (little 8 w)
        go true e = in_range (eqb-true (bit_and w eighths) 0 e)
        go false e = past_range e

-- ---- a label by its words: w, the first eight bytes, and v, the last four
module _ (l : List ℕ) (h : Twelve l) {w v : ℕ} (ew : w ≡ first (u8_at l)) (ev : v ≡ last (u8_at l)) where
  byte : (i : ℕ) → u8_at l i < 256
  byte i = (h.1 i).fits

  pub last_small : v < 0x1_0000_0000
  last_small = omega (arith, ev, byte 8, byte 9, byte 10, byte 11)

  last_eight : w / 0x1_0000_0000 + v * 0x1_0000_0000 ≡ little_endian (tab (u8_at l) 4 8)
  last_eight = rw (ew, ev) (omega (arith, byte 0, byte 1, byte 2, byte 3))

  pub formed_is : {a b : Bool} → a ≡ visible_then_blank (little 8 w) → b ≡ visible_then_blank (little 8 (w / 0x1_0000_0000 + v * 0x1_0000_0000))
      → ((not (eqb (u8_at l 0) 0x20) && a) && b) ≡ formed l
  formed_is ea eb =
      let bytes : (i : ℕ) → little 8 (little_endian (tab (u8_at l) i 8)) ≡ tab (u8_at l) i 8 = λ i. little_of (u8_at l) byte i 8 in
      let front = ea ∙ ap (λ (n : ℕ). visible_then_blank (little 8 n)) ew ∙ ap visible_then_blank (bytes 0) in
      let back = eb ∙ ap (λ (n : ℕ). visible_then_blank (little 8 n)) last_eight ∙ ap visible_then_blank (bytes 4) in
      ap₂ (λ (p q : Bool). (not (eqb (u8_at l 0) 0x20) && p) && q) front back ∙ formed_of_parts (u8_at l) ∙ ap formed (twelve l h.0)
