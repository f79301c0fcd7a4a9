-- Each outcome of a call, from the facts in the shape in which the branches have them: what the reader gave, what asking gave. Assumes nothing.
use mathlib.Core.Bool.{Bool, cond}
use mathlib.Core.List.{List}
use mathlib.Core.Option.{none, some}
use mathlib.Core.Path.{◌≡◌, refl, sym, ◌∙◌, ap}
use Prim.Native.Nat.{ℕ, ◌≤◌}
use native.Mathlib.Omega.{arith}
use lib.IntN.{ℤ}
use lib.Dec.{eqb}
use lib.ListN.{length}
use borrow.Author.Tests.{eq-eqb}
use Rattle.std.specs.Prelude.{Result, Ok, Err}
use Rattle.lemmas.specs.Over.{over}
use Rattle.paper.specs.declared.Answer.{Answer}
use Rattle.paper.specs.declared.Refusal.{Refusal}
use Rattle.paper.specs.Bytes.{bytes_at}
use Rattle.paper.specs.Label.{Label, spaces}
use Rattle.paper.specs.File.{fault_of, boards_of}
use Rattle.paper.specs.Chain.{place_of}
use Rattle.paper.specs.Rows.{first}
use Rattle.paper.specs.Refusal.{the_record, network_rows, network_refusal, fault_rows, answer_size, solve_rows, refusal}
use Rattle.paper.specs.Phase.{asked}
use Rattle.paper.specs.Amps.{amps}
use Rattle.paper.specs.Answer.{numbers, accepted, refused}
use Rattle.follows.proofs.Rows.{behind, ahead}
use Rattle.follows.proofs.Given.{question}
use Rattle.node.specs.declared.Node.{Node}
use Rattle.node.specs.Node.{no_node}
use Rattle.node.specs.Tables.{table, nodes_of}
use Rattle.network.specs.declared.Network.{Network}
use Rattle.network.specs.Network.{accepted_network, network_of}
use Rattle.network.proofs.Kept.{network_kept, network_broken, network_boards}
use Rattle.ask.specs.declared.question.Question.{Question}
use Rattle.ask.specs.Question.{accepted_question}
use Rattle.ask.specs.Ask.{ask_of}
use Rattle.ask.proofs.Outcomes.{paper_asks, is_paper}
use Rattle.ask.proofs.Laws.{kept, broken}
use Rattle.answer.specs.Posed.{Posed}
use Rattle.solve.proofs.Ready.{accepted_ready}
use Rattle.solve.proofs.Promised.{Allowed, refused_verdict, refused_written, accepted_verdict, accepted_written}

-- ---- the network's own refusals: it was read
pub refused_network_lem : (net flt : List ℕ) (room : ℕ) (l : Label) {g : Result Network Refusal} {why : Refusal} → g ≡ network_of net l → g ≡ Err why → refusal net flt room ≡ some why
unfolding solve_rows
refused_network_lem net flt room l read h = ahead (network_rows net) (fault_rows (boards_of net) flt room) (network_broken net l read h)

-- ---- it was accepted, as g, and a is what was answered when it was asked
pub record Asking (net flt : List ℕ) (room : ℕ) (g : Network) (a : Result Question Refusal) : Type 0 where
  pub label : Label
  pub label_is : label ≡ cond (eqb (length flt) 20) (bytes_at 12 flt 2) spaces
  pub read : Ok g ≡ network_of net label
  pub told : a ≡ ask_of flt g.k g.head.boards room

module _ {net flt : List ℕ} {room : ℕ} {g : Network} {a : Result Question Refusal} (b : Asking net flt room g a) where
  as_read : (network_refusal net ≡ none) × (g ≡ accepted_network net b.label)
  as_read = network_kept net b.label b.read refl

  -- the place is that of the fault's label, where the fault has 20 bytes
  as_placed : length flt ≡ 20 → g.k ≡ place_of (fault_of flt).label (boards_of net)
  unfolding fault_of
  as_placed e = ap (λ (x : Network). x.k) as_read.1 ∙ ap (λ (l : Label). place_of l (boards_of net)) (b.label_is ∙ ap (λ (t : Bool). cond t (bytes_at 12 flt 2) spaces) (eq-eqb (length flt) 20 e))

  pub as_counted : g.head.boards ≡ length (boards_of net)
  as_counted = network_boards net b.label b.read refl

  -- so what is asked of it is what the paper asks
  as_told : a ≡ paper_asks (boards_of net) flt room
  as_told = b.told ∙ ap (λ (n : ℕ). ask_of flt g.k n room) as_counted ∙ is_paper (boards_of net) flt room g.k as_placed

  by_fault : refusal net flt room ≡ first (fault_rows (boards_of net) flt room)
  unfolding solve_rows
  by_fault = behind (network_rows net) (fault_rows (boards_of net) flt room) as_read.0

  -- 12 to 19
  pub refused_fault : {why : Refusal} → a ≡ Err why → refusal net flt room ≡ some why
  refused_fault h = by_fault ∙ broken (boards_of net) flt room (sym as_told ∙ h)

  -- none is broken, and the call holds the question
  module _ {q : Question} (heard : a ≡ Ok q) where
    as_kept : (first (fault_rows (boards_of net) flt room) ≡ none) × (q ≡ accepted_question (fault_of flt) (place_of (fault_of flt).label (boards_of net)))
    as_kept = kept (boards_of net) flt room (sym as_told ∙ heard)

    pub none_broken : refusal net flt room ≡ none
    none_broken = by_fault ∙ as_kept.0

    -- the nodes are there where the network is accepted
    pub as_posed : {nodes : List Node} → (network_refusal net ≡ none → nodes ≡ table no_node (nodes_of (boards_of net))) → Posed (asked net flt) g.head nodes q.fault q.k
    unfolding asked
    as_posed filled =
        record {
          ready = accepted_ready net flt room none_broken;
          same_head = ap (λ (x : Network). x.head) as_read.1;
          nodes_are = filled as_read.0;
          same_fault = ap (λ (x : Question). x.fault) as_kept.1;
          same_place = ap (λ (x : Question). x.k) as_kept.1;
        }

    pub room_there : answer_size g.head.boards ≤ room
    room_there = omega (arith, as_counted, (question net flt room none_broken).room_enough)

-- ---- what is returned and left
module _ (net flt : List ℕ) (buffer : List ℤ) where
  pub refuses : {r : Answer} {why : Refusal} → refusal net flt (length buffer) ≡ some why → r ≡ refused why → Allowed net flt buffer r buffer
  refuses e r-is = (r-is ∙ sym (refused_verdict net flt (length buffer) e), sym (refused_written net flt buffer e))

  pub accepts : {r : Answer} {a k n : ℕ} {out : List ℤ} → refusal net flt (length buffer) ≡ none → r ≡ record { amps = a; part = the_record k; place = k; n = n; number = 0 }
      → a ≡ amps (asked net flt) → k ≡ (asked net flt).k → n ≡ length (boards_of net) → out ≡ over 0 (numbers (asked net flt)) buffer → Allowed net flt buffer r out
  unfolding accepted asked
  accepts e r-is a-is k_is n-is out-is = (
    r-is ∙ (λ i. record { amps = a-is i; part = the_record (k_is i); place = k_is i; n = n-is i; number = 0 }) ∙ sym (accepted_verdict net flt (length buffer) e),
    out-is ∙ sym (accepted_written net flt buffer e),
  )
