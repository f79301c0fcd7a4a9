-- The file of boards, read: its head and its records are theirs. Assumes nothing.
use mathlib.Core.List.{List, [], ◌∷◌, ◌++◌}
use mathlib.Core.Path.{◌≡◌, refl, ◌∙◌, ap, ap₂}
use Prim.Native.Nat.{ℕ, ◌*◌, ◌≤◌}
use native.Mathlib.Omega.{arith}
use lib.ListN.{length, length-append}
use lib.Seq.{take_at, drop_at}
use Rattle.lemmas.specs.Little.{little}
use Rattle.paper.specs.declared.Head.{Head}
use Rattle.paper.specs.File.{mark_of, HD, head_of, file_size, records, records_of, decoded, boards_of}
use Rattle.paper.specs.Chain.{Boards}
use Rattle.paper.specs.Write.{head_bytes, board_bytes, boards_bytes, head_for, file_of}
use Rattle.writer.specs.RoundTrip.{AllTyped}
use Rattle.writer.proofs.Bytes.{two_back, board_length, board_back, head_length}

-- ---- the records, each by itself
unfoldable pub laid : Boards → List (List ℕ)
laid [] = []
laid (b ∷ bs) = board_bytes b ∷ laid bs

pub laid_boards : (bs : Boards) → AllTyped bs → decoded (laid bs) ≡ bs
unfolding laid decoded
laid_boards [] t = refl
laid_boards (b ∷ bs) (t, ts) = ap₂ ◌∷◌ (board_back b t) (laid_boards bs ts)

-- ---- and one behind the other
pub boards_long : (bs : Boards) → AllTyped bs → length (boards_bytes bs) ≡ 44 * length bs
unfolding boards_bytes
boards_long [] t = refl
boards_long (b ∷ bs) (t, ts) = omega (arith, length-append (board_bytes b) (boards_bytes bs), board_length b t, boards_long bs ts)

records_laid : (bs : Boards) → AllTyped bs → records (length bs) (boards_bytes bs) ≡ laid bs
unfolding records boards_bytes laid
records_laid [] t = refl
records_laid (b ∷ bs) (t, ts) =
    ap₂ ◌∷◌ (take_at (board_bytes b) (boards_bytes bs) 44 (board_length b t)) (ap (records (length bs)) (drop_at (board_bytes b) (boards_bytes bs) 44 (board_length b t)) ∙ records_laid bs ts)

-- ---- a head, with whatever behind it
pub front_head : (h : Head) (s : List ℕ) → h.volts ≤ 65535 → h.unit ≤ 65535 → h.boards ≤ 65535 → head_of (head_bytes h ++ s) ≡ h
unfolding head_of head_bytes little
front_head h s v u n = λ i. record { volts = two_back h.volts v i; unit = two_back h.unit u i; boards = two_back h.boards n i }

-- ---- the file
module _ (volts unit : ℕ) (bs : Boards) (ts : AllTyped bs) where
  abbrev file : List ℕ
  file = file_of volts unit bs

  pub file_long : length file ≡ file_size (length bs)
  unfolding file_of
  file_long = length-append (head_bytes (head_for volts unit bs)) (boards_bytes bs) ∙ omega (arith, head_length (head_for volts unit bs), boards_long bs ts)

  pub file_mark : mark_of file ≡ HD
  unfolding file_of head_bytes little
  file_mark = refl

  module _ (v : volts ≤ 65535) (u : unit ≤ 65535) (n : length bs ≤ 65535) where
    pub file_head : head_of file ≡ head_for volts unit bs
    unfolding file_of
    file_head = front_head (head_for volts unit bs) (boards_bytes bs) v u n

    pub file_records : records_of file ≡ laid bs
    unfolding records_of file_of head_bytes little
    file_records = ap (λ (h : Head). records h.boards (boards_bytes bs)) file_head ∙ records_laid bs ts

    pub file_boards : boards_of file ≡ bs
    unfolding boards_of
    file_boards = ap decoded file_records ∙ laid_boards bs ts
