-- For whoever calls `judge`: what its outcome says of the paper's refusal. Assumes nothing.
use mathlib.Core.List.{List, []}
use mathlib.Core.Option.{none, some}
use mathlib.Core.Path.{◌≡◌, sym, ◌∙◌, ap, subst}
use Prim.Native.Nat.{ℕ}
use Rattle.std.specs.Prelude.{Ok, Err}
use Rattle.paper.specs.declared.Refusal.{Refusal}
use Rattle.paper.specs.Label.{Label}
use Rattle.paper.specs.File.{records_of, boards_of}
use Rattle.paper.specs.Chain.{place_of}
use Rattle.paper.specs.Refusal.{records_refusal}
use Rattle.paper.specs.Rule.{or_refused}
use Rattle.paper.proofs.Rules.{accepted_by, refused_by}
use Rattle.follows.proofs.Numbered.{Of, Recorded, records_recorded}
use Rattle.records.specs.declared.Judged.{Judged}
use Rattle.records.specs.Judging.{judgement}

module _ (net : List ℕ) (l : Label) {r : Judged} (e : r ≡ judgement net l) where
  outcome : r.outcome ≡ or_refused (records_refusal [] (records_of net)) tt
  unfolding judgement
  outcome = ap (λ (x : Judged). x.outcome) e

  pub asked : r.asked ≡ place_of l (boards_of net)
  unfolding judgement
  asked = ap (λ (x : Judged). x.asked) e

  pub all_kept : {u : Unit {0}} → r.outcome ≡ Ok u → records_refusal [] (records_of net) ≡ none
  all_kept k = (accepted_by (records_refusal [] (records_of net)) tt (sym outcome ∙ k)).0

  pub first_broken : {w : Refusal} → r.outcome ≡ Err w → records_refusal [] (records_of net) ≡ some w
  first_broken k = refused_by (records_refusal [] (records_of net)) tt (sym outcome ∙ k)

  -- it is a record's, at its place, which is no 0, with its bytes
  pub recorded : {w : Refusal} → r.outcome ≡ Err w → Recorded w
  recorded k = subst (Of Recorded) (first_broken k) (records_recorded net)
