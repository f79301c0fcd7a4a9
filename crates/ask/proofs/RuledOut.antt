-- What each contract of this crate rules out: a call that it allows, and an answer that it does not. Assumes nothing.
use mathlib.Core.List.{List, [], ◌∷◌, ◌++◌}
use Prim.Native.Nat.{ℕ}
use lib.Dec.{lit≤}
use lib.ListN.{replicate}
use base.Fml.{Lft}
use Rattle.lemmas.proofs.RuledOut.{◌↛◌, RuledOut, ever, by_equation, list, lent}
use Rattle.paper.specs.declared.Fault.{Fault}
use Rattle.paper.specs.declared.Lent.{Lent}
use Rattle.paper.specs.declared.Lent.TheVariants.{FaultBytes}
use Rattle.std.specs.Prelude.{Result, Ok, Err}
use Rattle.paper.specs.declared.Refusal.{Refusal}
use Rattle.paper.specs.Rule.{or_refused}
use Rattle.paper.specs.Bytes.{part, bytes_open}
use Rattle.paper.specs.Kind.{ohms, kind_open}
use Rattle.paper.specs.File.{fault_of}
use Rattle.paper.specs.Rows.{first, rows_open}
use Rattle.paper.specs.Refusal.{refusal_open}
use Rattle.paper.proofs.Compare.{ordinal}
use Rattle.ask.specs.declared.question.Question.{Question}
use Rattle.ask.specs.Question.{accepted_question}
use Rattle.ask.specs.Steps.{unread_rows, board_rows, asked_at}
use Rattle.ask.specs.Ask.{ask_of}
use Rattle.ask.proofs.question.read_fault.Reads as read-fault
use Rattle.ask.proofs.question.at_board.Reads as at-board
use Rattle.ask.proofs.ask.Reads as ask

-- ---- answers told apart
abbrev why : Refusal → List ℕ
why w = w.number ∷ w.place ∷ ordinal w.part.whose ∷ w.part.start ∷ w.part.len ∷ []

abbrev told : Result Question Refusal → ℕ
told (Ok q) = list (0 ∷ q.k ∷ q.fault.label)
told (Err w) = list (why w)

abbrev read : Result Fault Refusal → ℕ
read (Ok f) = list (0 ∷ f.label)
read (Err w) = list (why w)

-- refused by the first bytes of one of the two that are lent
abbrev shown : Lent → ℕ → ℕ → ℕ → Refusal
shown w number place len = record { part = part w 0 len; place = place; number = number }

abbrev refuse : Lent → ℕ → ℕ → ℕ → Result Question Refusal
refuse w number place len = Err (shown w number place len)

abbrev accept : Fault → ℕ → Result Question Refusal
accept f k = Ok (accepted_question f k)

-- ---- faults at A by kind, phase and R; the bytes of a fault at A by kind, and of one at a
abbrev A : List ℕ
A = 65 ∷ replicate 11 32

abbrev fault : ℕ → ℕ → ℕ → Fault
fault k p r = record { zf = ohms r 0; label = A; kind = k; phase = p }

abbrev bytes : ℕ → List ℕ
bytes k = 0x46 ∷ 0x54 ∷ A ++ (k ∷ replicate 5 0)

abbrev small : List ℕ
small = 0x46 ∷ 0x54 ∷ 97 ∷ replicate 11 32 ++ (1 ∷ replicate 5 0)

-- ---- the contracts
pub at_board_not : RuledOut (at-board.Pre tt) (ever (at-board.Post tt)) (
    (fault 4 0 0, (3, (3, (85, tt)))) ↛ accept (fault 4 0 0) 3  -- kind_4_kept
    ∷ (fault 0 1 0, (3, (3, (85, tt)))) ↛ accept (fault 0 1 0) 3  -- three_phases_on_b
    ∷ (fault 1 0 1366, (3, (3, (85, tt)))) ↛ accept (fault 1 0 1366) 3  -- zf_of_1366
    ∷ (fault 1 0 0, (3, (3, (85, tt)))) ↛ refuse FaultBytes 18 0 20  -- eighteen_still_there
    ∷ (fault 1 0 0, (3, (3, (85, tt)))) ↛ refuse FaultBytes 18 3 20  -- eighteen_at_its_board
    ∷ (fault 1 0 0, (3, (3, (84, tt)))) ↛ refuse FaultBytes 19 0 20  -- no_room_shows_the_fault
    ∷ (fault 1 0 0, (3, (3, (84, tt)))) ↛ accept (fault 1 0 0) 3  -- room_for_12
    ∷ (fault 1 0 1366, (3, (3, (84, tt)))) ↛ refuse FaultBytes 19 0 0  -- nineteen_before_seventeen
    ∷ [])
unfolding asked_at board_rows or_refused rows_open refusal_open kind_open bytes_open
at_board_not =
    by_equation (λ a. asked_at a.0 a.1.0 a.1.1.0 a.1.1.1.0) told (λ a z e s. s)
    (lit≤ tt, (lit≤ tt, (lit≤ tt, (lit≤ tt, (lit≤ tt, (lit≤ tt, (lit≤ tt, (lit≤ tt, tt)))))))) tt

module _ (κ : Lft) where
  pub read_fault_not : RuledOut (read-fault.Pre (κ, tt)) (ever (read-fault.Post (κ, tt))) (
      (lent (bytes 0), tt) ↛ Err (shown FaultBytes 13 0 20)  -- mark_big_endian
      ∷ (lent (replicate 20 0), tt) ↛ Ok (fault_of (replicate 20 0))  -- mark_not_tested
      ∷ [])
  unfolding unread_rows or_refused fault_of rows_open bytes_open refusal_open
  read_fault_not = by_equation (λ a. or_refused (first (unread_rows a.0.now)) (fault_of a.0.now)) read (λ a z e s. s) (tt, (tt, tt)) tt

  pub ask_not : RuledOut (ask.Pre (κ, tt)) (ever (ask.Post (κ, tt))) (
      (lent (bytes 1), (1, (1, (37, tt)))) ↛ refuse FaultBytes 18 1 20  -- unearthed_set_refused
      ∷ (lent (bytes 1), (1, (1, (37, tt)))) ↛ accept (fault 1 0 0) 0  -- place_from_0
      ∷ (lent (bytes 1), (1, (1, (37, tt)))) ↛ refuse FaultBytes 14 0 20  -- board_1_not_found
      ∷ (lent (bytes 1), (0, (1, (37, tt)))) ↛ accept (fault 1 0 0) 0  -- no_board_taken
      ∷ (lent [], (1, (1, (37, tt)))) ↛ refuse FaultBytes 12 0 20  -- short_fault_shown_as_20
      ∷ (lent [], (0, (1, (37, tt)))) ↛ refuse FaultBytes 14 0 20  -- fourteen_before_twelve
      ∷ (lent small, (1, (1, (37, tt)))) ↛ accept (fault 1 0 0) 1  -- fault_in_capitals
      ∷ [])
  unfolding ask_of unread_rows board_rows or_refused fault_of rows_open refusal_open kind_open bytes_open
  ask_not =
      by_equation (λ a. ask_of a.0.now a.1.0 a.1.1.0 a.1.1.1.0) told (λ a z e s. s)
      (lit≤ tt, (lit≤ tt, (lit≤ tt, (lit≤ tt, (lit≤ tt, (lit≤ tt, (lit≤ tt, tt))))))) tt
