-- The text of an answer, by the answer's number. Assumes nothing.
use mathlib.Core.List.{List, ◌++◌}
use mathlib.Core.Option.{Option, none, some}
use mathlib.Core.Path.{◌≡◌, sym, ap, ◌∙◌}
use Prim.Native.Nat.{ℕ, ◌+◌, ◌*◌, ◌≤◌}
use native.Mathlib.Omega.{arith}
use lib.IntN.{ℤ}
use lib.ListN.{length, drop}
use Rattle.paper.specs.declared.Answer.{Answer}
use Rattle.paper.specs.declared.Refusal.{Refusal}
use Rattle.paper.specs.File.{head_of, fault_of, boards_of}
use Rattle.paper.specs.Refusal.{refusal, answer_size}
use Rattle.paper.specs.Phase.{Asked, asked, the_d, fault_currents}
use Rattle.paper.specs.Amps.{amps}
use Rattle.paper.specs.Answer.{numbers, after, written, accepted, refused, answer, verdict}
use Rattle.follows.proofs.Accepted.{Network, Question, accepted_network_lem, accepted_fault, boards_length}
use Rattle.lines.specs.Lines.{refused_text}
use Rattle.lines.specs.Boards.{boards_lying}
use Rattle.follows.proofs.Laid.{behind_top}
use Rattle.text.specs.Text.{top_lines, boards_lines, accepted_text, text_of, room, printed}
use Rattle.text.specs.Lying.{top_lying, Answered}
use Rattle.follows.proofs.Numbered.{accepted_by}
use Rattle.text.proofs.Lying.{top_lying_lem, boards_lying_lem, numbers_size}

module _ (net flt : List ℕ) {a : Answer} (v : a ≡ verdict net flt room) where
  q : Asked
  q = asked net flt

  -- ---- refused
  refused_by_lem : (o : Option Refusal) → a ≡ answer o q → (a.number ≡ 0 → ⊥) → text_of o q ≡ refused_text a.number a.place
  unfolding answer accepted refused text_of
  refused_by_lem none e h = absurd (h (ap (λ (x : Answer). x.number) e))
  refused_by_lem (some r) e h = sym (ap (λ (x : Answer). refused_text x.number x.place) e)

  pub refused_text_lem : (a.number ≡ 0 → ⊥) → printed net flt ≡ refused_text a.number a.place
  unfolding printed verdict q
  refused_text_lem h = refused_by_lem (refusal net flt room) v h

  -- ---- accepted
  module _ (z : a.number ≡ 0) where
    taken : refusal net flt room ≡ none
    taken = accepted_by net flt room (ap (λ (x : Answer). x.number) (sym v) ∙ z)

    is_accepted : a ≡ accepted q
    unfolding verdict answer q
    is_accepted = v ∙ ap (λ (o : Option Refusal). answer o q) taken

    question : Question net flt room
    question = accepted_fault net flt room taken

    network : Network net
    network = accepted_network_lem net question.network

    counted : a.n ≡ length (boards_of net)
    unfolding accepted asked q
    counted = ap (λ (x : Answer). x.n) is_accepted

    pub count_is : a.n ≡ (head_of net).boards
    count_is = counted ∙ boards_length net

    pub network_size : length net ≡ 8 + 44 * a.n
    network_size = omega (arith, network.size, count_is)

    pub fault_size_lem : length flt ≡ 20
    fault_size_lem = question.fault_size_lem

    module _ {zs : List ℤ} (w : Answered net flt zs) where
      rest : List ℤ
      rest = drop (answer_size (length (boards_of net))) w.old

      lie : zs ≡ numbers q ++ rest
      unfolding written after asked q rest
      lie = w.is ∙ ap (λ (n : ℕ). after (refusal net flt n) q w.old) w.size ∙ ap (λ (o : Option Refusal). after o q w.old) taken

      pub numbers_fit : 13 + 24 * a.n ≤ length zs
      unfolding asked q
      numbers_fit = omega (arith, numbers_size q rest, counted, ap length lie)

      pub accepted_text_lem : printed net flt ≡ top_lying (fault_of flt) a.amps zs ++ boards_lying (boards_of net) (drop 13 zs)
      unfolding printed text_of accepted_text accepted asked q
      accepted_text_lem =
          let top : top_lying (fault_of flt) a.amps zs ≡ top_lines (fault_of flt) (amps q) (the_d q) (fault_currents q) =
          ap (λ (x : Answer). top_lying (fault_of flt) x.amps zs) is_accepted ∙ ap (top_lying (fault_of flt) (amps q)) lie ∙ top_lying_lem q rest (fault_of flt) (amps q) in
          let boards : boards_lying (boards_of net) (drop 13 zs) ≡ boards_lines q 1 (boards_of net) =
          ap (λ (x : List ℤ). boards_lying (boards_of net) (drop 13 x)) lie ∙ ap (boards_lying (boards_of net)) (behind_top q rest) ∙ boards_lying_lem q rest 1 (boards_of net) in
          ap (λ (o : Option Refusal). text_of o q) taken ∙ sym (λ i. top i ++ boards i)
