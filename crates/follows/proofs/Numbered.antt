-- What holds of every refusal: rows are numbered from 1, so a verdict's number is 0 exactly where nothing is refused; and a record is refused at its place, its own bytes shown. Assumes nothing.
use mathlib.Core.Bool.{true, false}
use mathlib.Core.List.{List, [], ◌∷◌, ◌++◌}
use mathlib.Core.Option.{Option, none, some}
use mathlib.Core.Path.{◌≡◌, refl, sym, ◌∙◌, ap, subst}
use Prim.Native.Nat.{ℕ, suc, ◌≤◌, ◌<◌}
use native.Mathlib.Omega.{arith}
use lib.Dec.{T, ltb, ltb→lt, lit<}
use lib.ListN.{length}
use Rattle.paper.specs.declared.Refusal.{Refusal}
use Rattle.paper.specs.File.{board_of, records_of, boards_of}
use Rattle.paper.specs.Chain.{Boards}
use Rattle.paper.specs.Rows.{Row, row, rows_at, first}
use Rattle.paper.specs.Refusal.{head_rows, board_tests, record_rows, in_order, records_rows, records_refusal, the_record, network_rows, fault_rows, solve_rows, refusal}
use Rattle.paper.specs.Phase.{asked}
use Rattle.paper.specs.Answer.{refused, answer, verdict}
use Rattle.follows.proofs.Rows.{Each, each_behind}

-- what holds of a refusal, where there is one
abbrev pub Of : (Refusal → Type 0) → Option Refusal → Type 0
Of P none = Unit {0}
Of P (some r) = P r

module _ (P : Refusal → Type 0) where
  -- and of a row's, if it is the one
  abbrev By : Row → Type 0
  By (row n b p s) = P (record { part = s; place = p; number = n })

  first_of : (rows : List Row) → Each By rows → Of P (first rows)
  unfolding first
  first_of [] h = tt
  first_of (row n true p s ∷ rows) h = h.0
  first_of (row n false p s ∷ rows) h = first_of rows h.1

  each_record : ((before : Boards) (s : List ℕ) → Each By (record_rows before s)) → (before : Boards) (recs : List (List ℕ)) → Each By (records_rows before recs)
  unfolding in_order
  each_record h before [] = tt
  each_record h before (s ∷ recs) = each_behind By (record_rows before s) _ (h before s) (each_record h (before ++ (board_of s ∷ [])) recs)

-- ---- of a record: a number, its place, and its own bytes
abbrev pub Recorded : Refusal → Type 0
Recorded w = (0 < w.number) × (1 ≤ w.place) × (w.part ≡ the_record w.place)

record_recorded : (before : Boards) (s : List ℕ) → Each (By Recorded) (record_rows before s)
unfolding record_rows rows_at board_tests
record_recorded before s = (by 5 tt, (by 6 tt, (by 7 tt, (by 8 tt, (by 9 tt, (by 10 tt, (by 21 tt, (by 11 tt, tt))))))))
  where
    by : (n : ℕ) → T (ltb 0 n) → Recorded (record { part = the_record (suc (length before)); place = suc (length before); number = n })
    by n t = (ltb→lt 0 n t, omega arith, refl)

pub records_recorded : (net : List ℕ) → Of Recorded (records_refusal [] (records_of net))
records_recorded net = first_of Recorded (records_rows [] (records_of net)) (each_record Recorded record_recorded [] (records_of net))

-- ---- of any: a number
abbrev Numbered : Refusal → Type 0
Numbered w = 0 < w.number

numbered : (rows : List Row) → Each (By Recorded) rows → Each (By Numbered) rows
numbered [] h = tt
numbered (row n b p s ∷ rows) h = (h.0.0, numbered rows h.1)

rows_numbered : (net flt : List ℕ) (room : ℕ) → Each (By Numbered) (solve_rows net flt room)
unfolding solve_rows network_rows head_rows fault_rows
rows_numbered net flt room =
    let recs = records_rows [] (records_of net) in
    each_behind (By Numbered) (network_rows net) (fault_rows (boards_of net) flt room)
    (each_behind (By Numbered) (head_rows net) recs (lit< tt, (lit< tt, (lit< tt, (lit< tt, tt)))) (numbered recs (each_record Recorded record_recorded [] (records_of net))))
    (lit< tt, (lit< tt, (lit< tt, (lit< tt, (lit< tt, (lit< tt, (lit< tt, tt)))))))

-- ---- so 0 is acceptance
pub accepted_by : (net flt : List ℕ) (room : ℕ) → (verdict net flt room).number ≡ 0 → refusal net flt room ≡ none
unfolding verdict answer refused
accepted_by net flt room h = go (refusal net flt room) refl
  where
    go : (r : Option Refusal) → refusal net flt room ≡ r → refusal net flt room ≡ none
    go none e = e
    go (some r) e =
        let n : 0 < r.number = subst (Of Numbered) e (first_of Numbered (solve_rows net flt room) (rows_numbered net flt room)) in
        let z : r.number ≡ 0 = sym (ap (λ (x : Option Refusal). (answer x (asked net flt)).number) e) ∙ h in
        absurd (omega arith)
