-- For whoever calls `ask`: what its answer says of the paper's rows. Assumes nothing.
use mathlib.Core.List.{List}
use mathlib.Core.Option.{none, some}
use mathlib.Core.Path.{◌≡◌, sym}
use Prim.Native.Nat.{ℕ}
use Rattle.std.specs.Prelude.{Ok, Err}
use Rattle.paper.specs.declared.Refusal.{Refusal}
use Rattle.paper.specs.File.{fault_of}
use Rattle.paper.specs.Chain.{Boards, place_of}
use Rattle.paper.specs.Rows.{first}
use Rattle.paper.specs.Refusal.{fault_rows}
use Rattle.paper.proofs.Rules.{accepted_by, refused_by}
use Rattle.ask.specs.declared.question.Question.{Question}
use Rattle.ask.specs.Question.{accepted_question}
use Rattle.ask.proofs.Outcomes.{paper_asks}

module _ (bs : Boards) (s : List ℕ) (room : ℕ) where
  -- accepted: no row tests true, and the fault and its place are those of the bytes
  pub kept : {q : Question} → paper_asks bs s room ≡ Ok q → (first (fault_rows bs s room) ≡ none) × (q ≡ accepted_question (fault_of s) (place_of (fault_of s).label bs))
  kept h = let k = accepted_by (first (fault_rows bs s room)) (accepted_question (fault_of s) (place_of (fault_of s).label bs)) h in (k.0, sym k.1)

  -- refused: the first row that tests true
  pub broken : {r : Refusal} → paper_asks bs s room ≡ Err r → first (fault_rows bs s room) ≡ some r
  broken h = refused_by (first (fault_rows bs s room)) (accepted_question (fault_of s) (place_of (fault_of s).label bs)) h
