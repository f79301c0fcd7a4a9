-- 02, R-1: figures of the writer, one table, proved as one theorem by computing. The files are typed out by hand (`Typed`) and not by the writer's own definitions. Assumes nothing.
use mathlib.Core.Path.{◌≡◌}
use mathlib.Core.Bool.{Bool, true, ◌&&◌}
use mathlib.Core.List.{List, [], ◌∷◌, ◌++◌}
use Prim.Native.Nat.{ℕ}
use lib.Dec.{T}
use lib.ListN.{replicate}
use Rattle.lemmas.proofs.Bools.{both_t}
use Rattle.paper.specs.declared.Ohms.{Ohms}
use Rattle.paper.specs.declared.Board.{Board}
use Rattle.paper.specs.declared.Written.{Written}
use Rattle.paper.specs.Bytes.{same_bytes}
use Rattle.paper.specs.Kind.{ohms}
use Rattle.paper.specs.Chain.{Boards}
use Rattle.paper.specs.Refusal.{no_part}
use Rattle.paper.specs.Answer.{paper}
use Rattle.paper.specs.Write.{write_verdict, write_leaves, write_open}
use Rattle.paper.proofs.Compare.{same_bytes→, same_written, same_written→}
use Rattle.paper.proofs.Typed.{head, bd, board, typed_open}

-- ---- a row: volts, unit, boards and a buffer of so many sevens; the answer, and the buffer afterwards
pub data Figure : Type 0 where
  write : ℕ → ℕ → Boards → ℕ → Written → List ℕ → Figure

abbrev sevens : ℕ → List ℕ
sevens n = replicate n 7

-- accepted: the file's length
abbrev taken : ℕ → Written
taken n = record { part = no_part; len = n; place = 0; number = 0 }

abbrev refused : ℕ → ℕ → Written
refused number place = record { part = no_part; len = 0; place = place; number = number }

-- a refusal: nothing is written
abbrev refuses : ℕ → ℕ → Boards → ℕ → ℕ → ℕ → Figure
refuses volts unit bs room number place = write volts unit bs room (refused number place) (sevens room)

-- ---- what it says, and how it is tested
abbrev pub Says : Figure → Type 0
Says (write v u bs room w later) = (write_verdict v u bs room ≡ w) × (write_leaves v u bs (sevens room) ≡ later)

abbrev pub All : List Figure → Type 0
All [] = Unit {0}
All (f ∷ fs) = Says f × All fs

abbrev says? : Figure → Bool
says? (write v u bs room w later) = same_written (write_verdict v u bs room) w && same_bytes (write_leaves v u bs (sevens room)) later

abbrev all? : List Figure → Bool
all? [] = true
all? (f ∷ fs) = says? f && all? fs

says→ : (f : Figure) → T (says? f) → Says f
says→ (write v u bs room w later) t =
    let h = both_t (same_written (write_verdict v u bs room) w) (same_bytes (write_leaves v u bs (sevens room)) later) t in
    (same_written→ (write_verdict v u bs room) w h.0, same_bytes→ (write_leaves v u bs (sevens room)) later h.1)

all→ : (fs : List Figure) → T (all? fs) → All fs
all→ [] t = tt
all→ (f ∷ fs) t = let h = both_t (says? f) (all? fs) t in (says→ f h.0, all→ fs h.1)

-- ---- the boards
abbrev j : ℕ → Ohms
j x = ohms 0 x

abbrev gen : Board
gen = board "GEN" "" 0 0 (j 20) (j 20) (j 5) (j 5)

abbrev hall : ℕ → ℕ → Ohms → Ohms → Board
hall kind clock z1 z2 = board "HALL" "GEN" kind clock z1 z2 (j 20) (j 0)

-- a source whose parts all differ, some over one byte
abbrev lop : Board
lop = board "GEN" "" 0 0 (ohms 3 2020) (ohms 1 1111) (ohms 259 5) (ohms 1 6)

-- the three boards of 01's figures, and their file
abbrev three : Boards
three = gen ∷ board "BOOTH-WEST-1" "GEN" 2 0 (ohms 30 10) (ohms 30 10) (ohms 90 30) (j 0) ∷ hall 4 11 (j 20) (j 20) ∷ []

abbrev file3 : List ℕ
file3 =
    head 230 1000 3 ++ (bd "GEN" "" 0 0 (j 20) (j 20) (j 5) (j 5) ++ (bd "BOOTH-WEST-1" "GEN" 2 0 (ohms 30 10) (ohms 30 10) (ohms 90 30) (j 0)
    ++ bd "HALL" "GEN" 4 11 (j 20) (j 20) (j 20) (j 0)))

-- ---- the table
unfoldable pub writes : List Figure
writes =
    -- 01's three boards, into a buffer that fits, and into a longer one: "bytes after the file keep their values"
    write 230 1000 three 140 (taken 140) file3
    ∷ write 230 1000 three 143 (taken 140) (file3 ++ sevens 3)
    -- 20, and nothing is written
    ∷ refuses 230 1000 three 139 20 0
    -- numbers over one byte, each in its place
    ∷ write 1000 259 (lop ∷ []) 52 (taken 52) (head 1000 259 1 ++ bd "GEN" "" 0 0 (ohms 3 2020) (ohms 1 1111) (ohms 259 5) (ohms 1 6))
    -- 3: "N is the number of boards given"
    ∷ refuses 230 1000 [] 8 3 0
    ∷ refuses 230 1000 (replicate 257 gen) 60 3 0
    -- 256 are not too many: the second is refused for its label
    ∷ refuses 230 1000 (replicate 256 gen) 60 7 2
    -- 3: volts, unit
    ∷ refuses 0 1000 (gen ∷ []) 52 3 0
    ∷ refuses 1001 1000 (gen ∷ []) 52 3 0
    ∷ refuses 230 9 (gen ∷ []) 52 3 0
    ∷ refuses 230 1001 (gen ∷ []) 52 3 0
    -- 6 to 11, at the record
    ∷ refuses 230 1000 (gen ∷ board "HA LL" "GEN" 2 0 (j 20) (j 20) (j 20) (j 0) ∷ []) 96 6 2
    ∷ refuses 230 1000 (gen ∷ board "GEN" "GEN" 2 0 (j 20) (j 20) (j 20) (j 0) ∷ []) 96 7 2
    ∷ refuses 230 1000 (gen ∷ board "HALL" "NOWHERE" 2 0 (j 20) (j 20) (j 20) (j 0) ∷ []) 96 8 2
    ∷ refuses 230 1000 (gen ∷ hall 4 10 (j 20) (j 20) ∷ []) 96 9 2
    ∷ refuses 230 1000 (gen ∷ hall 2 0 (j 20) (j 21) ∷ []) 96 10 2
    ∷ refuses 230 1000 (gen ∷ hall 2 0 (j 4076) (j 4076) ∷ []) 96 11 2
    -- 02, R-6: 21 at the record, behind 10 and before 11; a cable of zero length is written
    ∷ refuses 230 1000 (gen ∷ hall 3 0 (j 0) (j 0) ∷ []) 96 21 2
    ∷ refuses 230 1000 (gen ∷ hall 4 11 (j 0) (j 1) ∷ []) 96 10 2
    ∷ refuses 230 1000 (gen ∷ board "HALL" "GEN" 4 11 (j 0) (j 0) (j 0) (j 1366) ∷ []) 96 21 2
    ∷ refuses 230 1000 (gen ∷ hall 2 0 (j 4076) (j 4076) ∷ board "TENT" "GEN" 5 0 (j 0) (j 0) (j 0) (j 0) ∷ []) 140 11 2
    ∷ write 230 1000 (gen ∷ hall 2 0 (j 0) (j 0) ∷ []) 96 (taken 96) (head 230 1000 2 ++ (bd "GEN" "" 0 0 (j 20) (j 20) (j 5) (j 5) ++ bd "HALL" "GEN" 2 0 (j 0) (j 0) (j 20) (j 0)))
    ∷ refuses 230 1000 (gen ∷ hall 4 11 (j 0) (j 0) ∷ []) 0 21 2
    -- 02, R-3: label and feeder are written as they are typed; a label that differs from an earlier one in case alone is used
    ∷ write 230 1000 (gen ∷ board "Tent-1" "gEN" 2 0 (j 20) (j 20) (j 20) (j 0) ∷ []) 96 (taken 96) (head 230 1000 2 ++ (bd "GEN" "" 0 0 (j 20) (j 20) (j 5) (j 5) ++ bd "Tent-1" "gEN" 2 0 (j 20) (j 20) (j 20) (j 0)))
    ∷ refuses 230 1000 (gen ∷ board "Gen" "GEN" 2 0 (j 20) (j 20) (j 20) (j 0) ∷ []) 96 7 2
    -- two at once: 3 before 6, 7 before 8, an earlier record's 11 before a later one's 6, all before 20
    ∷ refuses 0 1000 (board "HA LL" "" 0 0 (j 20) (j 20) (j 5) (j 5) ∷ []) 52 3 0
    ∷ refuses 230 1000 (gen ∷ board "GEN" "NOWHERE" 2 0 (j 20) (j 20) (j 20) (j 0) ∷ []) 96 7 2
    ∷ refuses 230 1000 (board "GEN" "" 0 0 (j 20) (j 20) (j 0) (j 1366) ∷ board "HA LL" "GEN" 2 0 (j 20) (j 20) (j 20) (j 0) ∷ []) 96 11 1
    ∷ refuses 230 1000 (gen ∷ hall 2 0 (j 4076) (j 4076) ∷ []) 0 11 2
    ∷ refuses 230 1000 [] 0 3 0
    ∷ []

pub writes_hold : All writes
unfolding paper write_open typed_open writes
writes_hold = all→ writes tt
