-- The file's layout piece by piece, as the code lays it down. Assumes nothing.
use mathlib.Core.Path.{◌≡◌, refl, sym, ap, ◌∙◌}
use mathlib.Core.List.{List, [], ◌∷◌, ◌++◌}
use Prim.Native.Nat.{ℕ, min, ◌+◌, ◌*◌, ◌≤◌, ◌<◌}
use native.Mathlib.Numerals.{add-one}
use native.Mathlib.Omega.{arith}
use lib.ListN.{length, take, drop, get_or, length-take, drop_of_length-le}
use lib.Seq.{drop-cons, take-take, take_all, take_at, drop_at, length-take-le}
use Rattle.paper.specs.declared.Head.{Head}
use Rattle.paper.specs.declared.Board.{Board}
use Rattle.paper.specs.Chain.{Boards}
use Rattle.paper.specs.File.{HD, BD}
use Rattle.paper.specs.Write.{u16_bytes, ohms_bytes, head_bytes, board_bytes, boards_bytes}
use Rattle.lemmas.specs.Over.{over}
use Rattle.decimal.specs.Wrote.{Room, Wrote}
use Rattle.decimal.specs.declared.Pen.{Pen}
use Rattle.decimal.specs.Writing.{Writes}
use Rattle.decimal.proofs.Pens.{Left, left_two}
use Rattle.writer.specs.OnPage.{OnPage}
use Rattle.writer.specs.RoundTrip.{AllTyped}
use Rattle.writer.proofs.File.{boards_long}
use Rattle.writer.proofs.InType.{all_take}

-- ---- four pieces more of a text that is written piece by piece
pub left_four : {pen p0 p1 p2 p3 p4 : Pen} {s t1 t2 t3 t4 u : List ℕ} → Left pen s p0 (t1 ++ (t2 ++ (t3 ++ (t4 ++ u)))) → Writes t1 p0 p1 → Writes t2 p1 p2 → Writes t3 p2 p3 → Writes t4 p3 p4
    → Left pen s p4 u
left_four l w1 w2 w3 w4 = left_two (left_two l w1 w2) w3 w4

-- ---- a head, and a board
pub head_pieces : (h : Head) → head_bytes h ≡ u16_bytes HD ++ (u16_bytes h.volts ++ (u16_bytes h.unit ++ u16_bytes h.boards))
unfolding head_bytes
head_pieces h = refl

pub board_pieces : (b : Board)
    → board_bytes b
    ≡ u16_bytes BD ++ (b.label ++ (b.feeder ++ ((b.kind ∷ []) ++ ((b.clock ∷ []) ++ (ohms_bytes b.z1 ++ (ohms_bytes b.z2 ++ (ohms_bytes b.z0 ++ ohms_bytes b.zn)))))))
unfolding board_bytes
board_pieces b = refl

-- ---- a label, from the first byte that is left on
pub next_letter : (l : List ℕ) (i : ℕ) → i < length l → drop i l ≡ (get_or l i 0 ∷ []) ++ drop (i + 1) l
next_letter l i h = drop-cons l i 0 h ∙ ap (λ (m : ℕ). get_or l i 0 ∷ drop m l) (sym (add-one i))

pub no_letter : (l : List ℕ) (i : ℕ) → length l ≤ i → drop i l ≡ []
no_letter l i h = drop_of_length-le l h

-- ---- boards, from the first that is left on
module _ (bs : Boards) where
  pub next_board : (i : ℕ) (d : Board) → i < length bs → boards_bytes (drop i bs) ≡ board_bytes (get_or bs i d) ++ boards_bytes (drop (i + 1) bs)
  unfolding boards_bytes
  next_board i d h = ap boards_bytes (drop-cons bs i d h) ∙ ap (λ (m : ℕ). board_bytes (get_or bs i d) ++ boards_bytes (drop m bs)) (sym (add-one i))

  pub no_board_lem : (i : ℕ) → length bs ≤ i → boards_bytes (drop i bs) ≡ []
  unfolding boards_bytes
  no_board_lem i h = ap boards_bytes (drop_of_length-le bs h)

-- the first 256 boards are the first of as many as there are, at most
pub first_256 : (bs : Boards) {n : ℕ} → n ≡ min 256 (length bs) → take n bs ≡ take 256 bs
first_256 bs {n} e = sym (take-take n 256 bs (omega (arith, e))) ∙ take_all n (take 256 bs) (omega (arith, length-take 256 bs, e))

-- ---- a page, with the first 256 of the boards given from byte 8 on
module _ (bs : Boards) (typed : AllTyped bs) (page : List ℕ) (long : length page ≡ 11272) where
  records_long : length (boards_bytes (take 256 bs)) ≡ 44 * min 256 (length bs)
  records_long = boards_long (take 256 bs) (all_take 256 bs typed) ∙ ap (λ (m : ℕ). 44 * m) (length-take 256 bs)

  pub page_fits : Room 8 (boards_bytes (take 256 bs)) page
  page_fits = record { fits = omega (arith, records_long, long) }

  pub laid_on : {later : List ℕ} {end : ℕ} → Wrote 8 (boards_bytes (take 256 bs)) page later end → OnPage bs (length bs) later
  unfolding over
  laid_on {later} w =
      let behind : List ℕ = drop (length (boards_bytes (take 256 bs))) (drop 8 page) in
      record {
        many = refl;
        typed = typed;
        laid =
            ap (λ (s : List ℕ). take (44 * min 256 (length bs)) (drop 8 s)) w.stands
            ∙ ap (take (44 * min 256 (length bs))) (drop_at (take 8 page) (boards_bytes (take 256 bs) ++ behind) 8 (length-take-le 8 page (omega (arith, long))))
            ∙ take_at (boards_bytes (take 256 bs)) behind (44 * min 256 (length bs)) records_long;
      }
