-- The network, accepted or refused: each return of the reader is what the paper says. Assumes nothing.
use mathlib.Core.List.{List, []}
use mathlib.Core.Option.{Option, none, some}
use mathlib.Core.Path.{◌≡◌, sym, ◌∙◌, ap}
use Prim.Native.Nat.{ℕ}
use Rattle.std.specs.Prelude.{Result, Ok, Err}
use Rattle.paper.specs.declared.Head.{Head}
use Rattle.paper.specs.declared.Refusal.{Refusal}
use Rattle.paper.specs.Rows.{first}
use Rattle.paper.specs.Label.{Label}
use Rattle.paper.specs.File.{head_of, records_of}
use Rattle.paper.specs.Refusal.{head_rows, records_rows, records_refusal, network_rows, network_refusal}
use Rattle.paper.specs.Rule.{or_refused}
use Rattle.paper.proofs.Rules.{accepted_by, refused_by}
use Rattle.records.specs.declared.Judged.{Judged}
use Rattle.network.specs.Network.{accepted_network, network_of}
use Rattle.follows.proofs.Rows.{some_none, behind, ahead}
use Rattle.records.specs.Judging.{judgement}
use Rattle.records.proofs.Said.{asked, all_kept, first_broken}

module _ (s : List ℕ) (l : Label) where
  -- refused: what the table then holds is nobody's
  refused_network : {X : Type 0} {w : Refusal} → network_refusal s ≡ some w → (Err w ≡ network_of s l) × (network_refusal s ≡ none → X)
  unfolding network_of or_refused
  refused_network e = (ap (λ (o : Option Refusal). or_refused o (accepted_network s l)) (sym e), λ k. absurd (some_none (sym e ∙ k)))

  -- what was read of the head
  module _ {d : Result Head Refusal} (d-is : d ≡ or_refused (first (head_rows s)) (head_of s)) where
    pub head_right : {h : Head} → d ≡ Ok h → (first (head_rows s) ≡ none) × (head_of s ≡ h)
    head_right e = accepted_by (first (head_rows s)) (head_of s) (sym d-is ∙ e)

    pub read_head : {X : Type 0} {w : Refusal} → d ≡ Err w → (Err w ≡ network_of s l) × (network_refusal s ≡ none → X)
    unfolding network_rows
    read_head e = refused_network (ahead (head_rows s) (records_rows [] (records_of s)) (refused_by (first (head_rows s)) (head_of s) (sym d-is ∙ e)))

    module _ {h : Head} {j : Judged} (kept : d ≡ Ok h) (j-is : j ≡ judgement s l) where
      by_records : network_refusal s ≡ records_refusal [] (records_of s)
      unfolding network_rows
      by_records = behind (head_rows s) (records_rows [] (records_of s)) (head_right kept).0

      pub read_refused : {X : Type 0} {w : Refusal} → j.outcome ≡ Err w → (Err w ≡ network_of s l) × (network_refusal s ≡ none → X)
      read_refused e = refused_network (by_records ∙ first_broken s l j-is e)

      pub read_accepted : {X : Type 0} {u : Unit {0}} → j.outcome ≡ Ok u → (records_refusal [] (records_of s) ≡ none → X)
          → (Ok (record { head = h; k = j.asked }) ≡ network_of s l) × (network_refusal s ≡ none → X)
      unfolding network_of or_refused
      read_accepted e x = (
        (λ i. Ok (record { head = sym (head_right kept).1 i; k = asked s l j-is i })) ∙ ap (λ (o : Option Refusal). or_refused o (accepted_network s l)) (sym (by_records ∙ all_kept s l j-is e)),
        λ n. x (all_kept s l j-is e),
      )
