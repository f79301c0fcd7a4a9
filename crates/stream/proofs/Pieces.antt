-- The layout piece by piece, as the code lays it down. Assumes nothing.
use mathlib.Core.Path.{◌≡◌, refl, sym, ap, ◌∙◌}
use mathlib.Core.Bool.{cond}
use mathlib.Core.List.{List, [], ◌∷◌, ◌++◌}
use mathlib.Core.Option.{Option, none, some}
use Prim.Native.Nat.{ℕ, suc, ◌+◌, ◌*◌, ◌≤◌, ◌<◌}
use native.Mathlib.Numerals.{add-one}
use native.Mathlib.Omega.{arith}
use lib.IntN.{ℤ, pos}
use lib.ListN.{length, drop, get_or, length-append, drop_of_length-le}
use lib.Seq.{drop-cons}
use mir.Syntax.{w64}
use mir.Val.{SFits}
use mir.Facts.{to_z-of_z}
use Rattle.lemmas.proofs.Words.{kept}
use Rattle.paper.specs.declared.Part.{Part}
use Rattle.paper.specs.declared.Answer.{Answer}
use Rattle.paper.specs.declared.Written.{Written}
use Rattle.paper.specs.declared.Refusal.{Refusal}
use Rattle.paper.specs.Return.{Said, refused_by}
use Rattle.lemmas.specs.Little.{little}
use Rattle.decimal.specs.Word.{word_of}
use Rattle.decimal.proofs.Stored.{little_length}
use Rattle.stream.specs.Layout.{three_of, whose_of, part_of, found_of, head_of, elements_of, bytes_of, written_of}
use Rattle.stream.specs.Said.{shown_of, said_of}

-- ---- what answers share
pub three_pieces : (a b c : ℕ) → three_of a b c ≡ little 4 a ++ (little 4 b ++ little 4 c)
unfolding three_of
three_pieces a b c = refl

pub part_pieces : (p : Part) {w : ℕ} → w ≡ whose_of p.whose → part_of p ≡ three_of w p.start p.len
unfolding part_of
part_pieces p e = ap (λ (w : ℕ). three_of w p.start p.len) (sym e)

-- ---- an answer's of `solve`
pub found_pieces : (a : Answer) → found_of a ≡ three_of a.number a.place a.n ++ little 8 a.amps
unfolding found_of
found_pieces a = refl

pub head_pieces : (a : Answer) (shown : List ℕ) (room : ℕ) → head_of a shown room ≡ found_of a ++ (part_of a.part ++ (shown ++ little 4 room))
unfolding head_of
head_pieces a shown room = refl

pub answer_pieces : (a : Answer) (shown : List ℕ) (zs : List ℤ) → bytes_of a shown zs ≡ head_of a shown (length zs) ++ elements_of zs
unfolding bytes_of
answer_pieces a shown zs = refl

-- ---- an answer's of `write`
pub written_pieces : (w : Written) (out : List ℕ) → written_of w out ≡ three_of w.number w.place w.len ++ (part_of w.part ++ (little 4 (length out) ++ out))
unfolding written_of
written_pieces w out = refl

-- ---- an answer's of `earth`
pub refused_pieces : (w : Refusal) (shown : List ℕ) → said_of (refused_by w) shown ≡ three_of w.number w.place 0 ++ (part_of w.part ++ shown)
unfolding said_of shown_of
refused_pieces w shown = refl

-- ---- the elements, from the first that is left on
module _ (zs : List ℤ) where
  -- the next, as it is read
  pub next_element : (i : ℕ) {w : ℕ} → i < length zs → SFits w64 (get_or zs i (pos 0)) → w ≡ word_of (kept (get_or zs i (pos 0)))
      → elements_of (drop i zs) ≡ little 8 w ++ elements_of (drop (i + 1) zs)
  unfolding elements_of
  next_element i {w} h f e =
      ap elements_of (drop-cons zs i (pos 0) h) ∙ ap (λ (m : ℕ). little 8 m ++ elements_of (drop (suc i) zs)) (sym (e ∙ ap word_of (to_z-of_z f)))
      ∙ ap (λ (m : ℕ). little 8 w ++ elements_of (drop m zs)) (sym (add-one i))

  pub no_element : (i : ℕ) → length zs ≤ i → elements_of (drop i zs) ≡ []
  unfolding elements_of
  no_element i h = ap elements_of (drop_of_length-le zs {i = i} h)

-- ---- how many bytes
pub elements_length : (zs : List ℤ) → length (elements_of zs) ≡ 8 * length zs
unfolding elements_of
elements_length [] = refl
elements_length (z ∷ zs) = length-append (little 8 (word_of z)) (elements_of zs) ∙ omega (arith, little_length 8 (word_of z), elements_length zs)

head_length : (a : Answer) (shown : List ℕ) (room : ℕ) → length (head_of a shown room) ≡ 36 + length shown
unfolding head_of found_of part_of three_of little
head_length a shown room = omega (arith, length-append shown (little 4 room), little_length 4 room)

pub bytes_length : (a : Answer) (shown : List ℕ) (zs : List ℤ) → length (bytes_of a shown zs) ≡ 36 + length shown + 8 * length zs
unfolding bytes_of
bytes_length a shown zs = length-append (head_of a shown (length zs)) (elements_of zs) ∙ omega (arith, head_length a shown (length zs), elements_length zs)

pub written_length : (w : Written) (out : List ℕ) → length (written_of w out) ≡ 28 + length out
unfolding written_of part_of three_of little
written_length w out = omega arith

pub said_length : (s : Said) (shown : List ℕ) → length (said_of s shown) ≡ 24 + length shown
unfolding said_of shown_of part_of three_of little
said_length s shown = go s.shown
  where
    go : (o : Option Part) → length (three_of s.number s.place (cond s.earthed 1 0) ++ (shown_of o ++ shown)) ≡ 24 + length shown
    go none = omega arith
    go (some p) = omega arith
