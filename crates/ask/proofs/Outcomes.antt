-- The rules of a fault, 12 and 13, then 14, then those at its board, are the paper's rows in their order; and each return of `ask` is what they say. Assumes nothing.
use mathlib.Core.Bool.{Bool, true, false, not}
use mathlib.Core.List.{List, ◌∷◌}
use mathlib.Core.Option.{Option}
use mathlib.Core.Path.{◌≡◌, refl, sym, ◌∙◌, ap}
use Prim.Native.Nat.{ℕ}
use lib.Dec.{eqb}
use lib.ListN.{length}
use borrow.Author.Tests.{eqb-true, not-false, eq-eqb, ne_eqb}
use Rattle.std.specs.Prelude.{Result, Ok, Err}
use Rattle.paper.specs.declared.Fault.{Fault}
use Rattle.paper.specs.declared.Refusal.{Refusal}
use Rattle.paper.specs.declared.Lent.TheVariants.{FaultBytes}
use Rattle.paper.specs.Bytes.{u16_at, part}
use Rattle.paper.specs.File.{FT, fault_of}
use Rattle.paper.specs.Chain.{Boards, place_of}
use Rattle.paper.specs.Rows.{Row, row, first}
use Rattle.paper.specs.Rule.{or_refused}
use Rattle.paper.specs.Refusal.{the_fault, fault_rows}
use Rattle.paper.proofs.Rules.{accepted_by, refused_by}
use Rattle.follows.proofs.Rows.{behind, ahead}
use Rattle.ask.specs.declared.question.Question.{Question}
use Rattle.ask.specs.Question.{accepted_question}
use Rattle.ask.specs.Steps.{unread_rows, board_rows, asked_at}
use Rattle.ask.specs.Ask.{ask_of}

-- the paper's: the first row that tests true, or the fault with the place of its board
abbrev pub paper_asks : Boards → List ℕ → ℕ → Result Question Refusal
paper_asks bs s room = or_refused (first (fault_rows bs s room)) (accepted_question (fault_of s) (place_of (fault_of s).label bs))

-- what is computed of the place is the paper's, where a fault of 20 bytes has its board there
pub is_paper : (bs : Boards) (s : List ℕ) (room k : ℕ) → (length s ≡ 20 → k ≡ place_of (fault_of s).label bs) → ask_of s k (length bs) room ≡ paper_asks bs s room
unfolding ask_of unread_rows board_rows fault_rows first or_refused
is_paper bs s room k k_is = go (not (eqb (length s) 20)) refl
  where
    -- the rows from 13 on
    later : ℕ → List Row
    later p = row 13 (not (eqb (u16_at s 0) FT)) 0 the_fault ∷ row 14 (eqb p 0) 0 the_fault ∷ board_rows (fault_of s) (length bs) room

    asks : Bool → ℕ → Result Question Refusal
    asks short p = or_refused (first (row 12 short 0 (part FaultBytes 0 (length s)) ∷ later p)) (accepted_question (fault_of s) p)

    go : (t : Bool) → not (eqb (length s) 20) ≡ t → asks t k ≡ asks t (place_of (fault_of s).label bs)
    go true e = refl
    go false e = ap (asks false) (k_is (eqb-true (length s) 20 (not-false _ e)))

-- ---- each return of the code
module _ (s : List ℕ) (k n room : ℕ) {d : Result Fault Refusal} (d-is : d ≡ or_refused (first (unread_rows s)) (fault_of s)) where
  abbrev rest : List Row
  rest = row 14 (eqb k 0) 0 the_fault ∷ board_rows (fault_of s) n room

  pub by_unread : {w : Refusal} → d ≡ Err w → Err w ≡ ask_of s k n room
  unfolding ask_of or_refused
  by_unread e = ap (λ (o : Option Refusal). or_refused o (accepted_question (fault_of s) k)) (sym (ahead (unread_rows s) rest (refused_by (first (unread_rows s)) (fault_of s) (sym d-is ∙ e))))

  module _ {f : Fault} (kept : d ≡ Ok f) where
    by_rest : ask_of s k n room ≡ or_refused (first rest) (accepted_question (fault_of s) k)
    unfolding ask_of
    by_rest = ap (λ (o : Option Refusal). or_refused o (accepted_question (fault_of s) k)) (behind (unread_rows s) rest (accepted_by (first (unread_rows s)) (fault_of s) (sym d-is ∙ kept)).0)

    pub by_14 : {w : Refusal} → k ≡ 0 → w ≡ record { part = the_fault; place = 0; number = 14 } → Err w ≡ ask_of s k n room
    unfolding first or_refused
    by_14 z e = ap Err e ∙ (λ i. or_refused (first (row 14 (sym (eq-eqb k 0 z) i) 0 the_fault ∷ board_rows (fault_of s) n room)) (accepted_question (fault_of s) k)) ∙ sym by_rest

    pub by_board : {q : Result Question Refusal} → (k ≡ 0 → ⊥) → q ≡ asked_at f k n room → q ≡ ask_of s k n room
    unfolding first asked_at
    by_board there e =
        e ∙ ap (λ (x : Fault). asked_at x k n room) (sym (accepted_by (first (unread_rows s)) (fault_of s) (sym d-is ∙ kept)).1)
        ∙ (λ i. or_refused (first (row 14 (sym (ne_eqb k 0 there) i) 0 the_fault ∷ board_rows (fault_of s) n room)) (accepted_question (fault_of s) k))
        ∙ sym by_rest
