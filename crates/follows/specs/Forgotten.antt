-- 02, R-6: "Files without such a record get the answers they got", and what a file with one gets: the statements (their proof: proofs/, `Forgotten`). Assumes nothing.
use Rattle.std.specs.Prelude.{true, false, cond, ◌&&◌, List, [], ◌∷◌, ◌++◌, ◌≡◌, ℕ, ◌≤◌, ◌<◌, eqb, ℤ, length}
use Rattle.paper.specs.declared.Part.{Part}
use Rattle.paper.specs.Label.{Label}
use Rattle.paper.specs.Rows.{Row, row, first}
use Rattle.paper.specs.File.{boards_of}
use Rattle.paper.specs.Chain.{Boards, board, place_of}
use Rattle.paper.specs.Refusal.{the_record, no_part, z1_forgotten, solve_rows, refusal}
use Rattle.paper.specs.Phase.{asked}
use Rattle.paper.specs.Answer.{after, written, answer, verdict}
use Rattle.paper.specs.Return.{earth_rows, earth_refusal, return_at, refused_or, earth_said}
use Rattle.paper.specs.Write.{file_of, write_rows, write_refusal, write_answer, write_verdict, fills, write_leaves}

-- ---- "such a record": none, or the first at place r
abbrev pub NoneForgotten : Boards → Type 0
NoneForgotten bs = (r : ℕ) → 1 ≤ r → r ≤ length bs → z1_forgotten (board bs r) ≡ false

pub record FirstForgotten (bs : Boards) (r : ℕ) : Type 0 where
  pub from : 1 ≤ r
  pub to : r ≤ length bs
  pub forgotten : z1_forgotten (board bs r) ≡ true
  pub earlier : (q : ℕ) → 1 ≤ q → q < r → z1_forgotten (board bs q) ≡ false

-- ---- the table of refusals: without the rows of a number
unfoldable pub without : ℕ → List Row → List Row
without n [] = []
without n (row m b p s ∷ rows) = let rest = without n rows in cond (eqb m n) rest (row m b p s ∷ rest)

-- its rows before the one of a number and a place
unfoldable pub rows_before : ℕ → ℕ → List Row → List Row
rows_before n r [] = []
rows_before n r (row m b p s ∷ rows) = let rest = rows_before n r rows in cond (eqb m n && eqb p r) [] (row m b p s ∷ rest)

-- those before 21 at place r, all of 21 left out, and behind them that one, broken
abbrev pub up_to21 : ℕ → Part → List Row → List Row
up_to21 r s rows = without 21 (rows_before 21 r rows) ++ (row 21 true r s ∷ [])

-- ---- "get the answers they got": what is answered, and the buffer afterwards, by the table without the row
pub record Got (net : List ℕ) : Type 0 where
  pub got_verdict : (flt : List ℕ) (room : ℕ) → verdict net flt room ≡ answer (first (without 21 (solve_rows net flt room))) (asked net flt)
  pub got_written : (flt : List ℕ) (buffer : List ℤ) → written net flt buffer ≡ after (first (without 21 (solve_rows net flt (length buffer)))) (asked net flt) buffer
  pub got_earth : (l : Label) → earth_said net l ≡ refused_or (first (without 21 (earth_rows net l))) (return_at (boards_of net) (place_of l (boards_of net)))

pub record GotFile (volts unit : ℕ) (bs : Boards) : Type 0 where
  pub got_write : (room : ℕ) → write_verdict volts unit bs room ≡ write_answer (first (without 21 (write_rows volts unit bs room))) (length bs)
  pub got_leaves : (out : List ℕ) → write_leaves volts unit bs out ≡ fills (first (without 21 (write_rows volts unit bs (length out)))) (file_of volts unit bs) out

-- ---- with such a record, the first at place r: refused by 21 there, or by a rule that stands before it in the table
pub record Named (net : List ℕ) (r : ℕ) : Type 0 where
  pub named_solve : (flt : List ℕ) (room : ℕ) → refusal net flt room ≡ first (up_to21 r (the_record r) (solve_rows net flt room))
  pub named_earth : (l : Label) → earth_refusal net l ≡ first (up_to21 r (the_record r) (earth_rows net l))

abbrev pub NamedFile : ℕ → ℕ → Boards → ℕ → Type 0
NamedFile volts unit bs r = (room : ℕ) → write_refusal volts unit bs room ≡ first (up_to21 r no_part (write_rows volts unit bs room))
