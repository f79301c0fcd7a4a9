-- 02, R-1: 'Write the network file': its bytes, the refusals, and the caller's buffer afterwards. Assumes nothing.
use Rattle.std.specs.Prelude.{not, List, [], ◌∷◌, ◌++◌, ℕ, ltb, length, drop}
use Rattle.std.proofs.Math.Option.{Option, none, some}
use Rattle.lemmas.specs.Little.{little}
use Rattle.paper.specs.declared.Ohms.{Ohms}
use Rattle.paper.specs.declared.Head.{Head}
use Rattle.paper.specs.declared.Board.{Board}
use Rattle.paper.specs.declared.Refusal.{Refusal}
use Rattle.paper.specs.declared.Written.{Written}
use Rattle.paper.specs.Rows.{Row, row, first}
use Rattle.paper.specs.File.{HD, BD, file_size}
use Rattle.paper.specs.Chain.{Boards}
use Rattle.paper.specs.Refusal.{head_ranges, no_part, boards_rows}

-- ---- the file: the fields of 01, 'Files', in their order. "Little-endian."
abbrev pub u16_bytes : ℕ → List ℕ
u16_bytes n = little 2 n

abbrev pub ohms_bytes : Ohms → List ℕ
ohms_bytes z = u16_bytes z.r ++ u16_bytes z.x

unfoldable pub head_bytes : Head → List ℕ
head_bytes h = u16_bytes HD ++ (u16_bytes h.volts ++ (u16_bytes h.unit ++ u16_bytes h.boards))

unfoldable pub board_bytes : Board → List ℕ
board_bytes b =
    u16_bytes BD ++ (b.label ++ (b.feeder ++ ((b.kind ∷ b.clock ∷ []) ++ (ohms_bytes b.z1 ++ (ohms_bytes b.z2 ++ (ohms_bytes b.z0 ++ ohms_bytes b.zn))))))

unfoldable pub boards_bytes : Boards → List ℕ
boards_bytes [] = []
boards_bytes (b ∷ bs) = board_bytes b ++ boards_bytes bs

-- "N is the number of boards given."
abbrev pub head_for : ℕ → ℕ → Boards → Head
head_for volts unit bs = record { volts = volts; unit = unit; boards = length bs }

-- "from volts, unit and decoded boards"
unfoldable pub file_of : ℕ → ℕ → Boards → List ℕ
file_of volts unit bs = head_bytes (head_for volts unit bs) ++ boards_bytes bs

-- ---- the refusals
-- "20, output shorter than the file": of n boards
abbrev pub room_rows : ℕ → ℕ → List Row
room_rows n room = row 20 (ltb room (file_size n)) 0 no_part ∷ []

-- "with 3 and 6 to 11 in the reader's order", 21 with them (R-6: "R-1's writer refuses the same boards"); 20 "after all others"
unfoldable pub write_rows : ℕ → ℕ → Boards → ℕ → List Row
write_rows volts unit bs room = row 3 (not (head_ranges (head_for volts unit bs))) 0 no_part ∷ (boards_rows [] bs ++ room_rows (length bs) room)

abbrev pub write_refusal : ℕ → ℕ → Boards → ℕ → Option Refusal
write_refusal volts unit bs room = first (write_rows volts unit bs room)

-- ---- what the caller gets
-- accepted: the file's length
unfoldable pub write_answer : Option Refusal → ℕ → Written
write_answer none n = record { part = no_part; len = file_size n; place = 0; number = 0 }
write_answer (some r) n = record { part = r.part; len = 0; place = r.place; number = r.number }

unfoldable pub write_verdict : ℕ → ℕ → Boards → ℕ → Written
write_verdict volts unit bs room = write_answer (write_refusal volts unit bs room) (length bs)

-- "it fills the caller's buffer"; "A refusal writes nothing, and bytes after the file keep their values."
unfoldable pub fills : Option Refusal → List ℕ → List ℕ → List ℕ
fills none file out = file ++ drop (length file) out
fills (some r) file out = out

unfoldable pub write_leaves : ℕ → ℕ → Boards → List ℕ → List ℕ
write_leaves volts unit bs out = fills (write_refusal volts unit bs (length out)) (file_of volts unit bs) out

unfoldable pub write_open : Unit {0}
unfolding little head_bytes board_bytes boards_bytes file_of write_rows write_answer write_verdict fills write_leaves
write_open = tt
