-- What the contract of `solve` comes to, for its reader. Assumes nothing.
use mathlib.Core.List.{List, ◌++◌}
use mathlib.Core.Option.{Option, none, some}
use mathlib.Core.Path.{◌≡◌, refl, sym, ◌∙◌, ap}
use Prim.Native.Nat.{ℕ, ◌+◌, ◌≤◌}
use native.Mathlib.Omega.{arith}
use lib.IntN.{ℤ, pos}
use lib.ListN.{length, get_or, drop}
use Rattle.lemmas.specs.Over.{over}
use Rattle.lemmas.proofs.Over.{over_front, over_length, over_after}
use Rattle.paper.specs.declared.Answer.{Answer}
use Rattle.paper.specs.declared.Refusal.{Refusal}
use Rattle.paper.specs.File.{boards_of}
use Rattle.paper.specs.Refusal.{answer_size, refusal}
use Rattle.paper.specs.Phase.{Asked, asked, phases, fault_currents}
use Rattle.paper.specs.Answer.{flat, numbers, after, written, accepted, refused, answer, verdict}
use Rattle.follows.proofs.Given.{question}
use Rattle.follows.proofs.Laid.{boards_size}

-- ---- "two results that its contract allows are proved equal": r and out are what a call may return and leave
abbrev pub Allowed : List ℕ → List ℕ → List ℤ → Answer → List ℤ → Type 0
Allowed net flt buffer r out = (r ≡ verdict net flt (length buffer)) × (out ≡ written net flt buffer)

pub same_answer : (net flt : List ℕ) (buffer : List ℤ) (r s : Answer) (out left : List ℤ) → Allowed net flt buffer r out → Allowed net flt buffer s left → (r ≡ s) × (out ≡ left)
same_answer net flt buffer r s out left a b = (a.0 ∙ sym b.0, a.1 ∙ sym b.1)

-- ---- refused: "nothing is written"
module _ (net flt : List ℕ) {why : Refusal} where
  pub refused_verdict : (room : ℕ) → refusal net flt room ≡ some why → verdict net flt room ≡ refused why
  unfolding verdict answer
  refused_verdict room e = ap (λ (o : Option Refusal). answer o (asked net flt)) e

  pub refused_written : (buffer : List ℤ) → refusal net flt (length buffer) ≡ some why → written net flt buffer ≡ buffer
  unfolding written after
  refused_written buffer e = ap (λ (o : Option Refusal). after o (asked net flt) buffer) e

-- ---- accepted: the numbers, over the front of the buffer
-- thirteen of the fault, and 24 of each board
pub numbers_length : (q : Asked) → length (numbers q) ≡ answer_size (length q.boards)
unfolding numbers flat fault_currents phases
numbers_length q = omega (arith, boards_size q 1 (length q.boards))

module _ (net flt : List ℕ) where
  pub accepted_verdict : (room : ℕ) → refusal net flt room ≡ none → verdict net flt room ≡ accepted (asked net flt)
  unfolding verdict answer
  accepted_verdict room e = ap (λ (o : Option Refusal). answer o (asked net flt)) e

  pub accepted_written : (buffer : List ℤ) → refusal net flt (length buffer) ≡ none → written net flt buffer ≡ over 0 (numbers (asked net flt)) buffer
  unfolding written after
  accepted_written buffer e =
      ap (λ (o : Option Refusal). after o (asked net flt) buffer) e ∙ ap (λ (m : ℕ). numbers (asked net flt) ++ drop m buffer) (sym (numbers_length (asked net flt)))
      ∙ sym (over_front (numbers (asked net flt)) buffer)

-- ---- in both: as long as it was, and "What lies after place 12 + 24N keeps its old values."
module _ (net flt : List ℕ) (buffer : List ℤ) where
  numbers_size : length (numbers (asked net flt)) ≡ answer_size (length (boards_of net))
  unfolding asked
  numbers_size = numbers_length (asked net flt)

  -- there is room for the numbers of an accepted question
  enough : refusal net flt (length buffer) ≡ none → 0 + length (numbers (asked net flt)) ≤ length buffer
  enough e = omega (arith, numbers_size, (question net flt (length buffer) e).room_enough)

  pub written_length : length (written net flt buffer) ≡ length buffer
  written_length = go (refusal net flt (length buffer)) refl
    where
      go : (o : Option Refusal) → refusal net flt (length buffer) ≡ o → length (written net flt buffer) ≡ length buffer
      go none e = ap length (accepted_written net flt buffer e) ∙ over_length (pos 0) 0 (numbers (asked net flt)) buffer (enough e)
      go (some r) e = ap length (refused_written net flt buffer e)

  pub rest_kept : (d : ℤ) (i : ℕ) → answer_size (length (boards_of net)) ≤ i → get_or (written net flt buffer) i d ≡ get_or buffer i d
  rest_kept d i h = go (refusal net flt (length buffer)) refl
    where
      go : (o : Option Refusal) → refusal net flt (length buffer) ≡ o → get_or (written net flt buffer) i d ≡ get_or buffer i d
      go none e = ap (λ (l : List ℤ). get_or l i d) (accepted_written net flt buffer e) ∙ over_after d 0 (numbers (asked net flt)) buffer (enough e) i (omega (arith, numbers_size))
      go (some r) e = ap (λ (l : List ℤ). get_or l i d) (refused_written net flt buffer e)
