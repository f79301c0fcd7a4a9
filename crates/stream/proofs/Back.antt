-- What the bytes of an answer tell: of `solve` the bytes that it shows, and all elements; of `write` all of it, and all bytes of the output. Assumes nothing.
use mathlib.Core.Path.{◌≡◌, refl, sym, ap, ◌∙◌}
use mathlib.Core.List.{List, [], ◌∷◌, ◌++◌, append_assoc}
use Prim.Native.Nat.{ℕ, ◌^◌, ◌<◌}
use native.Mathlib.Omega.{arith}
use lib.IntN.{ℤ}
use lib.ListN.{length, take, drop}
use lib.Seq.{take-append_seam, drop-append_seam}
use mir.Syntax.{w64}
use mir.Val.{SFits}
use Rattle.lemmas.specs.Little.{little}
use Rattle.decimal.specs.Word.{word_of}
use Rattle.decimal.proofs.Stored.{little_length}
use Rattle.lemmas.proofs.Little.{same_number}
use Rattle.decimal.proofs.Back.{word_fits, same_word}
use Rattle.paper.specs.declared.Lent.{Lent}
use Rattle.paper.specs.declared.Lent.TheVariants.{NetworkBytes, FaultBytes, LabelBytes}
use Rattle.paper.specs.declared.Answer.{Answer}
use Rattle.paper.specs.declared.Written.{Written}
use Rattle.paper.proofs.Compare.{ordinal, same_ordinal}
use Rattle.stream.specs.Layout.{three_of, whose_of, part_of, found_of, head_of, elements_of, bytes_of, written_of}
use Rattle.stream.proofs.Pieces.{elements_length}

abbrev pub AllFit : List ℤ → Type 0
AllFit [] = Unit {0}
AllFit (z ∷ zs) = SFits w64 z × AllFit zs

-- the first piece, and the rest, where the two pieces in front are as long as each other
front : (x y u v : List ℕ) → length x ≡ length y → x ++ u ≡ y ++ v → x ≡ y
front x y u v l e = sym (take-append_seam x u) ∙ ap (take (length x)) e ∙ ap (λ (m : ℕ). take m (y ++ v)) l ∙ take-append_seam y v

behind : (x y u v : List ℕ) → length x ≡ length y → x ++ u ≡ y ++ v → u ≡ v
behind x y u v l e = sym (drop-append_seam x u) ∙ ap (drop (length x)) e ∙ ap (λ (m : ℕ). drop m (y ++ v)) l ∙ drop-append_seam y v

pub same_elements : (ys zs : List ℤ) → AllFit ys → AllFit zs → elements_of ys ≡ elements_of zs → ys ≡ zs
unfolding elements_of
same_elements [] [] f g e = refl
same_elements [] (z ∷ zs) f g e = absurd (omega (arith, ap length e, elements_length (z ∷ zs)))
same_elements (y ∷ ys) [] f g e = absurd (omega (arith, ap length e, elements_length (y ∷ ys)))
same_elements (y ∷ ys) (z ∷ zs) f g e =
    let l : length (little 8 (word_of y)) ≡ length (little 8 (word_of z)) = little_length 8 (word_of y) ∙ sym (little_length 8 (word_of z)) in
    let first : y ≡ z = same_word y z f.0 g.0 (same_number 8 (word_of y) (word_of z) (word_fits y f.0) (word_fits z g.0) (front (little 8 (word_of y)) (little 8 (word_of z)) (elements_of ys) (elements_of zs) l e)) in
    let rest : ys ≡ zs = same_elements ys zs f.1 g.1 (behind (little 8 (word_of y)) (little 8 (word_of z)) (elements_of ys) (elements_of zs) l e) in
    λ i. first i ∷ rest i

-- of the same answer, which says how many bytes it shows
module _ (a : Answer) (shown shown' : List ℕ) (ys zs : List ℤ) where
  pub same_answer : length shown ≡ a.part.len → length shown' ≡ a.part.len → AllFit ys → AllFit zs → bytes_of a shown ys ≡ bytes_of a shown' zs → (shown ≡ shown') × (ys ≡ zs)
  unfolding bytes_of head_of found_of part_of three_of little
  same_answer l m f g e =
      let k : length shown ≡ length shown' = l ∙ sym m in
      let n : length (little 4 (length ys)) ≡ length (little 4 (length zs)) = little_length 4 (length ys) ∙ sym (little_length 4 (length zs)) in
      let rest : shown ++ (little 4 (length ys) ++ elements_of ys) ≡ shown' ++ (little 4 (length zs) ++ elements_of zs) = sym (append_assoc shown (little 4 (length ys)) (elements_of ys)) ∙ ap (drop 32) e ∙ append_assoc shown' (little 4 (length zs)) (elements_of zs) in
      (front shown shown' _ _ k rest, same_elements ys zs f g (behind (little 4 (length ys)) (little 4 (length zs)) _ _ n (behind shown shown' _ _ k rest)))

-- ---- of `write`
whose_is : (a : Lent) → whose_of a ≡ ordinal a
unfolding whose_of
whose_is NetworkBytes = refl
whose_is FaultBytes = refl
whose_is LabelBytes = refl

same_whose : (a b : Lent) → whose_of a ≡ whose_of b → a ≡ b
same_whose a b e = same_ordinal a b (sym (whose_is a) ∙ e ∙ whose_is b)

whose_word : (a : Lent) → whose_of a < 256 ^ 4
unfolding whose_of
whose_word NetworkBytes = omega arith
whose_word FaultBytes = omega arith
whose_word LabelBytes = omega arith

-- its numbers are of four bytes
pub record Words (w : Written) : Type 0 where
  pub number_word : w.number < 256 ^ 4
  pub place_word : w.place < 256 ^ 4
  pub file_word : w.len < 256 ^ 4
  pub start_word : w.part.start < 256 ^ 4
  pub part_word : w.part.len < 256 ^ 4

module _ (v w : Written) (xs ys : List ℕ) (e : written_of v xs ≡ written_of w ys) where
  pub same_output : xs ≡ ys
  unfolding written_of part_of three_of little
  same_output = ap (drop 28) e

  pub same_written_lem : Words v → Words w → v ≡ w
  unfolding written_of part_of three_of little
  same_written_lem f g =
      let number = same_number 4 v.number w.number f.number_word g.number_word (ap (take 4) e) in
      let place = same_number 4 v.place w.place f.place_word g.place_word (ap (λ (s : List ℕ). take 4 (drop 4 s)) e) in
      let len = same_number 4 v.len w.len f.file_word g.file_word (ap (λ (s : List ℕ). take 4 (drop 8 s)) e) in
      let whose = same_whose v.part.whose w.part.whose (same_number 4 _ _ (whose_word v.part.whose) (whose_word w.part.whose) (ap (λ (s : List ℕ). take 4 (drop 12 s)) e)) in
      let start = same_number 4 v.part.start w.part.start f.start_word g.start_word (ap (λ (s : List ℕ). take 4 (drop 16 s)) e) in
      let many = same_number 4 v.part.len w.part.len f.part_word g.part_word (ap (λ (s : List ℕ). take 4 (drop 20 s)) e) in
      λ i. record { part = record { whose = whose i; start = start i; len = many i }; len = len i; place = place i; number = number i }
