-- 01, 'Files': the head, the boards and the fault, decoded. Decoding is total: what is missing or out of range is for the tests (Refusal). Assumes nothing.
use Rattle.std.specs.Prelude.{List, [], ◌∷◌, ℕ, zero, suc, ◌+◌, ◌*◌, ◌-◌, take, drop}
use Rattle.paper.specs.declared.Ohms.{Ohms}
use Rattle.paper.specs.declared.Head.{Head}
use Rattle.paper.specs.declared.Board.{Board}
use Rattle.paper.specs.declared.Fault.{Fault}
use Rattle.paper.specs.Bytes.{u8_at, u16_at, bytes_at}
use Rattle.paper.specs.Kind.{ohms}

-- "A two-byte mark stands before each record."
abbrev pub mark_of : List ℕ → ℕ
mark_of s = u16_at s 0

abbrev pub HD : ℕ
HD = 0x48 + 256 * 0x44

abbrev pub BD : ℕ
BD = 0x42 + 256 * 0x44

abbrev pub FT : ℕ
FT = 0x46 + 256 * 0x54

-- "Head, 8 bytes: mark "HD", volts u16 .., unit u16 .., N u16"
abbrev pub head_size : ℕ
head_size = 8

unfoldable pub head_of : List ℕ → Head
head_of s = record { volts = u16_at s 2; unit = u16_at s 4; boards = u16_at s 6 }

-- "Board, 44 bytes, N of them: mark "BD", label 12, feeder label 12, kind u8, clock u8, then r and x of z1, z2, z0, zn, each u16 counts"
abbrev pub board_size : ℕ
board_size = 44

-- "label 12"
abbrev pub label_size : ℕ
label_size = 12

abbrev pub ohms_at : List ℕ → ℕ → Ohms
ohms_at s i = ohms (u16_at s i) (u16_at s (i + 2))

unfoldable pub board_of : List ℕ → Board
board_of s =
    record {
      z1 = ohms_at s 28;
      z2 = ohms_at s 32;
      z0 = ohms_at s 36;
      zn = ohms_at s 40;
      label = bytes_at label_size s 2;
      feeder = bytes_at label_size s 14;
      kind = u8_at s 26;
      clock = u8_at s 27;
    }

-- "Fault, 20 bytes, lent apart: mark "FT", label 12, kind u8, phase u8, r and x of Zf, each u16"
abbrev pub fault_size : ℕ
fault_size = 20

unfoldable pub fault_of : List ℕ → Fault
fault_of s = record { zf = ohms_at s 16; label = bytes_at label_size s 2; kind = u8_at s 14; phase = u8_at s 15 }

-- ---- the records, one behind the other
-- "4 .. length not 8 + 44N"
abbrev pub file_size : ℕ → ℕ
file_size n = head_size + board_size * n

-- where record r stands, r from 1
abbrev pub start_of : ℕ → ℕ
start_of r = head_size + board_size * (r - 1)

unfoldable pub records : ℕ → List ℕ → List (List ℕ)
records zero s = []
records (suc n) s = take board_size s ∷ records n (drop board_size s)

unfoldable pub records_of : List ℕ → List (List ℕ)
records_of s = records (head_of s).boards (drop head_size s)

unfoldable pub decoded : List (List ℕ) → List Board
decoded [] = []
decoded (b ∷ bs) = board_of b ∷ decoded bs

-- "The call keeps the decoded boards in a table of its own"
unfoldable pub boards_of : List ℕ → List Board
boards_of s = decoded (records_of s)

unfoldable pub file_open : Unit {0}
unfolding head_of board_of fault_of records records_of decoded boards_of
file_open = tt
