-- What each contract of this crate rules out: a call that it allows, and an answer that it does not. Assumes nothing.
use mathlib.Core.List.{List, [], ◌∷◌}
use Prim.Native.Nat.{ℕ, ◌+◌}
use native.Mathlib.Omega.{arith}
use base.Fml.{Lft}
use Rattle.std.specs.Prelude.{Ok, Err}
use denote.Ref.{Bor}
use Rattle.paper.specs.declared.Lent.TheVariants.{NetworkBytes, FaultBytes, LabelBytes}
use Rattle.paper.specs.declared.Part.{Part}
use Rattle.paper.specs.declared.Refusal.{Refusal}
use Rattle.paper.specs.declared.Answer.{Answer}
use Rattle.paper.specs.Bytes.{part, cut}
use Rattle.paper.specs.Refusal.{the_record}
use Rattle.paper.specs.Answer.{refused}
use Rattle.paper.specs.declared.EarthReturn.TheVariants.{Stopped}
use Rattle.paper.specs.Return.{said}
use Rattle.paper.proofs.Compare.{ordinal}
use Rattle.lemmas.proofs.RuledOut.{◌↛◌, RuledOut, ever, by, by_equation, list}
use Rattle.verdict.specs.Shown.{lent}
use Rattle.verdict.specs.Said.{part_said}
use Rattle.verdict.proofs.refused.Reads as refused_call
use Rattle.verdict.proofs.accepted.Reads as accepted
use Rattle.verdict.proofs.shown.shown.Reads as shown
use Rattle.verdict.proofs.said.part_said.Reads as part-said

-- ---- amps, part, place, N, number
abbrev answer : ℕ → Part → ℕ → ℕ → ℕ → Answer
answer amps p place n number = record { amps = amps; part = p; place = place; n = n; number = number }

abbrev fields : Answer → ℕ
fields a = list (a.amps ∷ ordinal a.part.whose ∷ a.part.start ∷ a.part.len ∷ a.place ∷ a.n ∷ a.number ∷ [])

abbrev why : Refusal
why = record { part = part FaultBytes 3 4; place = 2; number = 5 }

-- ---- bytes that stand somewhere: block, place in it
abbrev stand : ℕ → ℕ → List ℕ → Bor (List ℕ)
stand block place s = record { ref_ptr = (block, place); now = s }

abbrev net : Bor (List ℕ)
net = stand 1 10 (1 ∷ 97 ∷ 3 ∷ 4 ∷ [])

abbrev flt : Bor (List ℕ)
flt = stand 2 20 (5 ∷ 6 ∷ 7 ∷ 8 ∷ [])

abbrev told : ℕ → ℕ → List ℕ → ℕ
told block place s = list (block ∷ place ∷ s)

-- ---- the contracts
pub refused_not : RuledOut (refused_call.Pre tt) (ever (refused_call.Post tt)) (
    (why, tt) ↛ answer 0 (part FaultBytes 3 4) 0 0 5  -- place_dropped
    ∷ (why, tt) ↛ answer 0 (part NetworkBytes 0 8) 2 0 5  -- part_dropped
    ∷ (why, tt) ↛ answer 0 (part FaultBytes 3 4) 2 1 5  -- refused_with_n
    ∷ [])
unfolding refused
refused_not = by_equation (λ a. refused a.0) fields (λ a z e s. s) (tt, (tt, (tt, tt))) tt

pub accepted_not : RuledOut (accepted.Pre tt) (ever (accepted.Post tt)) (
    (9, (2, (3, tt))) ↛ answer 9 (part NetworkBytes 52 44) 2 3 19  -- accepted_by_a_number
    ∷ (9, (2, (3, tt))) ↛ answer 9 (part NetworkBytes 96 44) 2 3 0  -- record_behind
    ∷ [])
accepted_not = by_equation (λ a. answer a.0 (the_record a.1.0) a.1.0 a.1.1.0 0) fields (λ a z e s. s) (omega arith, (omega arith, tt)) tt

pub part_said_not : RuledOut (part-said.Pre tt) (ever (part-said.Post tt)) (
    (Err why, tt) ↛ part NetworkBytes 0 0  -- refusal_shows_nothing
    ∷ (Err why, tt) ↛ part FaultBytes 0 7  -- refusal_shows_all_before
    ∷ (Ok (Stopped 2), tt) ↛ part NetworkBytes 52 44  -- answer_shows_the_record
    ∷ [])
unfolding said
part_said_not = by_equation (λ a. part_said (said a.0).shown) (λ p. list (ordinal p.whose ∷ p.start ∷ p.len ∷ [])) (λ a z e s. s) (tt, (tt, (tt, tt))) tt

module _ (κ : Lft) where
  pub shown_not : RuledOut (shown.Pre (κ, tt)) (ever (shown.Post (κ, tt))) (
      (net, (flt, (part FaultBytes 1 2, tt))) ↛ stand 1 11 (97 ∷ 3 ∷ [])  -- network_bytes_for_a_fault
      ∷ (net, (flt, (part NetworkBytes 1 2, tt))) ↛ stand 1 11 (97 ∷ [])  -- shown_one_byte_short
      ∷ (net, (flt, (part NetworkBytes 1 2, tt))) ↛ stand 1 10 (97 ∷ 3 ∷ [])  -- shown_from_the_front
      ∷ (net, (flt, (part NetworkBytes 1 2, tt))) ↛ stand 1 11 (65 ∷ 3 ∷ [])  -- shown_in_capitals
      ∷ (net, (flt, (part NetworkBytes 1 2, tt))) ↛ stand 2 21 (6 ∷ 7 ∷ [])  -- shown_of_the_other
      ∷ (net, (flt, (part LabelBytes 1 2, tt))) ↛ stand 1 11 (97 ∷ 3 ∷ [])  -- network_bytes_for_a_label
      ∷ [])
  shown_not =
      by (λ z. told z.ref_ptr.0 z.ref_ptr.1 z.now)
      (λ a. let p = a.1.1.0 in let s = lent p.whose a.0 a.1.0 in told s.ref_ptr.0 (s.ref_ptr.1 + p.start) (cut s.now p.start p.len))
      (λ a z s i. told (s.1.block i) (s.1.offset i) (s.1.bytes i))
      (omega arith, (omega arith, (omega arith, (omega arith, (omega arith, (omega arith, tt)))))) tt
