-- A case of a stream of cases: its numbers, and what its buffers hold before it. Assumes nothing.
use Rattle.std.specs.Prelude.{List, ℕ, ◌+◌, ◌*◌, ◌%◌, ℤ, pos}
use Rattle.lemmas.specs.Table.{tab}
use Rattle.paper.specs.Bytes.{u16_at}
use Rattle.stream.specs.declared.case.Case.{Case}

-- its four numbers, each of four bytes, the lowest first
abbrev pub u32_at : List ℕ → ℕ → ℕ
u32_at s i = u16_at s i + 65536 * u16_at s (i + 2)

abbrev pub case_of : List ℕ → Case
case_of s = record { entry = u32_at s 0; room = u32_at s 4; first = u32_at s 8; second = u32_at s 12 }

-- what the buffer of a case that solves holds before it: no two elements alike, and none that an answer is likely to hold
abbrev pub mark_at : ℕ → ℤ
mark_at i = pos (1000003 * (i + 1))

unfoldable pub marks : ℕ → List ℤ
marks room = tab mark_at 0 room

-- what the output of a case that writes holds before it: no two bytes next to each other alike
abbrev pub byte_mark_at : ℕ → ℕ
byte_mark_at i = (7 * i + 3) % 256

unfoldable pub byte_marks : ℕ → List ℕ
byte_marks room = tab byte_mark_at 0 room
