-- What the contract of this crate rules out: a call that it allows, and an answer that it does not. Assumes nothing.
use mathlib.Core.Bool.{true}
use mathlib.Core.List.{[], ◌∷◌}
use base.Fml.{Lft}
use denote.Bor.{Bor}
use Rattle.lemmas.proofs.RuledOut.{◌↛◌, RuledOut, ever, by_equation, bool, list}
use Rattle.paper.specs.declared.Ohms.{Ohms}
use Rattle.paper.specs.Kind.{ohms, same_ohms}
use Rattle.paper.specs.declared.Rule.TheVariants.{HeadMark, Sum, FaultLength, FaultImpedance, ShortBuffer, Forgotten}
use Rattle.paper.specs.Rule.{number_of}
use Rattle.paper.proofs.OhmsPartialEq.eq.Reads as eq
use Rattle.paper.proofs.Rule.number.Reads as number
use Rattle.paper.proofs.NumFromOhms.from.Reads as from
use Rattle.paper.proofs.Part.of_record.Reads as of-record
use Rattle.paper.specs.Refusal.{the_record}
use lib.Dec.{lit≤}
use Rattle.turn.proofs.Told.{told as number_told}
use Rattle.turn.specs.Number.{complex_n}
use Rattle.paper.specs.Fault.{num_of}
use lib.IntN.{pos}
use Rattle.paper.proofs.Refusal.at_the_front.Reads as front
use Prim.Native.Nat.{ℕ}
use Rattle.paper.specs.Bytes.{part}
use Rattle.paper.specs.declared.Lent.{Lent}
use Rattle.paper.specs.declared.Lent.TheVariants.{NetworkBytes, FaultBytes}
use Rattle.paper.specs.declared.Refusal.{Refusal}
use Rattle.paper.proofs.Compare.{ordinal}

pub of_record_not : RuledOut (of-record.Pre tt) (ever (of-record.Post tt)) (
    (1, tt) ↛ part NetworkBytes 0 44  -- record_without_the_head
    ∷ (2, tt) ↛ part NetworkBytes 96 44  -- part_of_the_next
    ∷ (2, tt) ↛ part NetworkBytes 52 52  -- part_to_the_place
    ∷ [])
of_record_not = by_equation (λ a. the_record a.0) (λ p. list (ordinal p.whose ∷ p.start ∷ p.len ∷ [])) (λ a z e s. s) (lit≤ tt, (lit≤ tt, (lit≤ tt, tt))) tt

-- R + jX
pub from_not : RuledOut (from.Pre tt) (ever (from.Post tt)) (
    (ohms 1 2, tt) ↛ complex_n (pos 2) (pos 1)  -- parts_exchanged
    ∷ (ohms 1 2, tt) ↛ complex_n (pos 1) (pos 1)  -- resistance_twice
    ∷ [])
unfolding num_of
from_not = by_equation (λ a. num_of a.0) number_told (λ a z e s. s) (tt, (tt, tt)) tt

pub number_not : RuledOut (number.Pre tt) (ever (number.Post tt)) (
    (ShortBuffer, tt) ↛ 18  -- eighteen_used_again
    ∷ (Forgotten, tt) ↛ 11  -- numbered_in_the_order_of_the_tests
    ∷ (Sum, tt) ↛ 10  -- one_less
    ∷ (FaultLength, tt) ↛ 1  -- fault_as_a_network
    ∷ [])
number_not = by_equation (λ a. number_of a.0) (λ n. n) (λ a z e s. s) (tt, (tt, (tt, (tt, tt)))) tt

-- an impedance that is looked at
abbrev seen : Ohms → Bor Ohms
seen z = record { ref_ptr = (0, 0); now = z }

-- an impedance is another's where both parts are, and none where both are 0
module _ (κ : Lft) where
  pub eq_not : RuledOut (eq.Pre (κ, (κ, tt))) (ever (eq.Post (κ, (κ, tt)))) (
      (seen (ohms 1 2), (seen (ohms 1 3), tt)) ↛ true  -- same_by_one_part
      ∷ (seen (ohms 1 2), (seen (ohms 2 1), tt)) ↛ true  -- same_by_the_other_part
      ∷ (seen (ohms 1 0), (seen (ohms 0 0), tt)) ↛ true  -- zero_by_one_part
      ∷ (seen (ohms 0 1), (seen (ohms 0 0), tt)) ↛ true  -- zero_by_r_twice
      ∷ [])
  unfolding same_ohms
  eq_not = by_equation (λ a. same_ohms a.0.now a.1.0.now) bool (λ a z e s. s) (tt, (tt, (tt, (tt, tt)))) tt

abbrev shown : Lent → ℕ → ℕ → ℕ → Refusal
shown w number place len = record { part = part w 0 len; place = place; number = number }

pub at_the_front_not : RuledOut (front.Pre tt) (ever (front.Post tt)) (
    (FaultImpedance, (FaultBytes, (20, tt))) ↛ shown NetworkBytes 17 0 20  -- refusal_shows_the_network
    ∷ (FaultImpedance, (FaultBytes, (20, tt))) ↛ shown FaultBytes 17 1 20  -- refusal_with_place
    ∷ (HeadMark, (NetworkBytes, (8, tt))) ↛ shown NetworkBytes 2 0 7  -- refusal_shows_a_byte_less
    ∷ [])
at_the_front_not = by_equation (λ a. shown a.1.0 (number_of a.0) 0 a.1.1.0) (λ w. list (w.number ∷ w.place ∷ ordinal w.part.whose ∷ w.part.start ∷ w.part.len ∷ [])) (λ a z e s. s) (tt, (tt, (tt, tt))) tt
