-- 00, demand 3: "the answers, brought to the fault's side, obey Ohm's law in every record, Kirchhoff's current law at every board in all three sequences, the source's voltage and the fault's connection, with no
-- remainder. They are also the only values that do, given that a board with no earth return has zero-sequence voltage zero." 02, R-2 leaves some boards out of what is given (`Laws.Quiet`). Assumes nothing.
use Rattle.std.specs.Prelude.{List, ◌≡◌, ℕ, suc, ◌+◌, ◌*◌, ◌≤◌, ℤ, pos, ◌*ℤ◌, length}
use Rattle.paper.specs.Chain.{turn_of}
use Rattle.paper.specs.Phase.{Asked, asked, the_d, phase}
use Rattle.paper.specs.Answer.{written, verdict}
use Rattle.laws.specs.Values.{Values, answers, Everywhere, Same, SameValues}
use Rattle.laws.specs.Laws.{Laws, Quiet}
use Rattle.laws.specs.Seen.{number_at, place_of_board, D_seen, seen}

-- values over D that obey the laws, and that alone do ("Rival values in demand 3 stand over any positive whole divisor"; here nothing is asked of E)
pub record Only (q : Asked) (D : ℤ) (w : Values) : Type 0 where
  pub positive : (n : ℕ) × (D ≡ pos (suc n))
  pub lawful : Laws q D w
  pub quiet : Quiet q w
  pub alone : (E : ℤ) (v : Values) → Laws q E v → Quiet q v → SameValues q E v D w

-- values over E that a buffer shows, in every phase
module _ (q : Asked) (E : ℤ) (v : Values) (xs : List ℤ) where
  open q use {boards, fault, k}

  pub record Shown : Type 0 where
    pub shown_W : Everywhere q (λ r. (ph : ℕ) → ph ≤ 2 → Same E (phase fault.phase (turn_of boards r) (turn_of boards k) (v.W r) ph) (D_seen xs) (number_at xs (place_of_board r + 4 * ph)))
    pub shown_I : Everywhere q (λ r. (ph : ℕ) → ph ≤ 2 → Same E (phase fault.phase (turn_of boards r) (turn_of boards k) (v.I r) ph) (D_seen xs) (number_at xs (place_of_board r + 12 + 4 * ph)))
    pub shown_F : (ph : ℕ) → ph ≤ 2 → Same E (phase fault.phase 0 0 v.F ph) (D_seen xs) (number_at xs (1 + 4 * ph))

-- ---- demand 3, of the answers of demand 2
abbrev pub Demand : Type 0
Demand = (net flt : List ℕ) (room : ℕ) → (verdict net flt room).number ≡ 0 → Only (asked net flt) (the_d (asked net flt)) (answers (asked net flt))

-- ---- and of the buffer that the caller holds afterwards
abbrev pub DemandSeen : Type 0
DemandSeen =
    (net flt : List ℕ) (buffer : List ℤ) → (verdict net flt (length buffer)).number ≡ 0
    → Only (asked net flt) (pos 3 *ℤ D_seen (written net flt buffer)) (seen (asked net flt) (written net flt buffer))

abbrev pub DemandShown : Type 0
DemandShown =
    (net flt : List ℕ) (buffer : List ℤ) → (verdict net flt (length buffer)).number ≡ 0
    → (E : ℤ) (v : Values) → Laws (asked net flt) E v → Quiet (asked net flt) v → Shown (asked net flt) E v (written net flt buffer)
