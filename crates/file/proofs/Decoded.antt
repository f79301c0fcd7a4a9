-- The boards, decoded in file order into a table of 256, each as a rule makes it; the lent part that a record is decoded from; and a board by its fields. Assumes nothing.
use mathlib.Core.List.{List, [], ◌∷◌, ◌++◌, map, map-append}
use mathlib.Core.Path.{◌≡◌, sym, ◌∙◌, ap}
use Prim.Native.Nat.{ℕ, ◌+◌, ◌-◌, ◌*◌, ◌≤◌, ◌<◌}
use native.Mathlib.Omega.{arith}
use native.Mathlib.Numerals.{add-one}
use lib.ListN.{length, take, drop, set, replicate, length-take, length-drop, length-map}
use lib.Seq.{take_all, take_at, length-take-le}
use Rattle.paper.specs.declared.Board.{Board}
use Rattle.paper.specs.declared.Ohms.{Ohms}
use Rattle.paper.specs.Bytes.{u8_at, bytes_at}
use Rattle.paper.specs.Label.{Label}
use Rattle.paper.specs.File.{head_of, ohms_at, board_of, boards_of}
use Rattle.node.specs.Tables.{table, empty_board}
use Rattle.node.proofs.Tables.{table_put, empty_table}
use Rattle.node.proofs.Records.{bytes_of, boards_count, before_next}

module _ (rule : Board → Board) (net : List ℕ) where
  -- the first i boards, each by the rule; and the table that holds them
  abbrev made : ℕ → List Board
  made i = map rule (take i (boards_of net))

  abbrev pub filled : ℕ → List Board
  filled i = table empty_board (made i)

  pub filled_none : {b : Board} → b ≡ empty_board → replicate 256 b ≡ filled 0
  filled_none e = empty_table empty_board e

  module _ (i : ℕ) where
    made_next : i < (head_of net).boards → made (i + 1) ≡ made i ++ (rule (board_of (bytes_of net i)) ∷ [])
    made_next h = ap made (add-one i) ∙ ap (map rule) (before_next net i h) ∙ map-append rule (take i (boards_of net)) (board_of (bytes_of net i) ∷ [])

    -- one more, of the bytes of its record
    pub filled_next : {t : List Board} {b : Board} → i < (head_of net).boards → (head_of net).boards ≤ 256 → t ≡ filled i → b ≡ rule (board_of (take 44 (drop (8 + 44 * i) net)))
        → set t i b ≡ filled (i + 1)
    filled_next h few e f =
        let n : length (made i) ≡ i = length-map (take i (boards_of net)) rule ∙ length-take-le i (boards_of net) (omega (arith, boards_count net)) in
        (λ j. set (e j) (sym n j) (f j)) ∙ table_put empty_board (made i) (rule (board_of (bytes_of net i))) (omega arith) ∙ ap (table empty_board) (sym (made_next h))

    -- after all of them: the table's first places
    pub filled_all : (n : ℕ) {t : List Board} → n ≡ (head_of net).boards → n ≤ i → t ≡ filled i → take n t ≡ map rule (boards_of net)
    unfolding table
    filled_all n e h f =
        ap (take n) (f ∙ ap (λ (bs : List Board). table empty_board (map rule bs)) (take_all i (boards_of net) (omega (arith, boards_count net, e))))
        ∙ take_at (map rule (boards_of net)) _ n (length-map (boards_of net) rule ∙ boards_count net ∙ sym e)

-- a lent part of a record's size
pub part_is : (net : List ℕ) (a : ℕ) → take (a + 44 - a) (drop a net) ≡ take 44 (drop a net)
part_is net a = let e : a + 44 - a ≡ 44 = omega arith in ap (λ (m : ℕ). take m (drop a net)) e

pub part_length : (net : List ℕ) (a : ℕ) → a + 44 ≤ length net → length (take (a + 44 - a) (drop a net)) ≡ 44
part_length net a h = simp (length-take, length-drop) (omega arith)

-- a board's record, field by field, so that a refusal names the field
pub by-fields : (s : List ℕ) {z1 z2 z0 zn : Ohms} {label feeder : Label} {kind clock : ℕ} → z1 ≡ ohms_at s 28 → z2 ≡ ohms_at s 32 → z0 ≡ ohms_at s 36 → zn ≡ ohms_at s 40
    → label ≡ bytes_at 12 s 2
    → feeder ≡ bytes_at 12 s 14
    → kind ≡ u8_at s 26
    → clock ≡ u8_at s 27
    → record { z1 = z1; z2 = z2; z0 = z0; zn = zn; label = label; feeder = feeder; kind = kind; clock = clock } ≡ board_of s
unfolding board_of
by-fields s e1 e2 e0 en l f k c = λ i. record { z1 = e1 i; z2 = e2 i; z0 = e0 i; zn = en i; label = l i; feeder = f i; kind = k i; clock = c i }
