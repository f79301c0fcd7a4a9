-- A turn of the reader's loop, in the code's own terms: what it reads is the record's, and so its step goes on or refuses the network. Assumes nothing.
use mathlib.Core.List.{List, []}
use mathlib.Core.Option.{Option, none, some}
use mathlib.Core.Path.{◌≡◌, sym, ◌∙◌, ap, subst}
use Prim.Native.Nat.{ℕ, suc, ◌+◌, ◌*◌, ◌≤◌, ◌<◌}
use native.Mathlib.Numerals.{add-one}
use native.Mathlib.Omega.{arith}
use lib.ListN.{length, get_or, set}
use Rattle.paper.specs.declared.Board.{Board}
use Rattle.paper.specs.Bytes.{u16_at}
use Rattle.paper.specs.declared.Refusal.{Refusal}
use Rattle.paper.specs.File.{mark_of, board_of, records_of, boards_of}
use Rattle.paper.specs.Chain.{no_board, place_of}
use Rattle.paper.specs.Refusal.{records_refusal, the_record}
use Rattle.label.specs.declared.places.Place.{Place}
use Rattle.label.specs.Places.{no_place, place_with, places_of}
use Rattle.label.proofs.PlacesLaws.{places_at}
use Rattle.node.specs.declared.Node.{Node}
use Rattle.std.specs.Prelude.{Result, Ok, Err}
use Rattle.paper.specs.declared.Rule.{Rule}
use Rattle.paper.specs.Rule.{number_of, or_refused}
use Rattle.node.specs.Node.{node_of, no_node, UpSmall}
use Rattle.records.specs.Rules.{earlier, fed_by, step_of}
use Rattle.node.specs.Tables.{table, nodes_from, nodes_of}
use Rattle.follows.proofs.Rows.{some_none}
use Rattle.node.proofs.Records.{count, bytes_of, boards_count, board_at, mark_at_lem}
use Rattle.records.proofs.Reading.{Read, read_all, before, feeder, up_is, up_small, step_refused, step_passes}

module _ (net : List ℕ) (i : ℕ) (nodes : List Node) (h : i < count net) (read : Read net i nodes) (few : count net ≤ 256) where
  abbrev pub b : Board
  b = board_of (bytes_of net i)

  abbrev pub own : ℕ
  own = place_of b.label (boards_of net)

  abbrev pub fed : ℕ
  fed = place_of b.feeder (boards_of net)

  -- what the turn reads
  place_read : {l : List Place} → l ≡ places_of (boards_of net) → get_or l i no_place ≡ place_with place_of (boards_of net) b
  place_read e =
      ap (λ (x : List Place). get_or x i no_place) e ∙ places_at (boards_of net) i (omega (arith, boards_count net)) (omega (arith, boards_count net))
      ∙ ap (place_with place_of (boards_of net)) (board_at net no_board i h)

  -- the feeder's node, as the code picks it
  pub up_read : {l : List Place} {up : Node} → l ≡ places_of (boards_of net) → up ≡ fed_by (earlier (i + 1) (get_or l i no_place).fed) nodes → up ≡ node_of (before net i nodes h read) (feeder net i nodes h read)
  up_read p e = e ∙ (λ j. fed_by (earlier (add-one i j) (place_read p j).fed) nodes) ∙ up_is net i nodes h read

  module _ {up : Node} (up_right : up ≡ node_of (before net i nodes h read) (feeder net i nodes h read)) where
    pub up_fits : UpSmall up
    up_fits = up_small net i nodes h read up few up_right

    -- the step, and what the code gives it
    module _ {s : Result Node Rule} {mark : ℕ} {read_board : Board} {l : List Place} (m : mark ≡ u16_at net (8 + 44 * i)) (d : read_board ≡ b) (p : l ≡ places_of (boards_of net))
        (s-is : s ≡ step_of (i + 1) mark read_board (get_or l i no_place).own (get_or l i no_place).fed up) where
      right : s ≡ step_of (suc i) (mark_of (bytes_of net i)) b own fed up
      right = s-is ∙ (λ j. step_of (add-one i j) (m j) (d j) (place_read p j).own (place_read p j).fed up) ∙ (λ j. step_of (suc i) (mark_at_lem net i j) b own fed up)

      pub goes_on : {node : Node} → s ≡ Ok node → Read net (i + 1) (set nodes i node)
      goes_on {node} e = subst (λ (k : ℕ). Read net k (set nodes i node)) (sym (add-one i)) (step_passes net i nodes h read few up up_right (sym right ∙ e))

      -- a rule refuses the network, and what is left in the table then is nobody's
      pub refuses : {rule : Rule} {w : Refusal} {X : Type 0} → s ≡ Err rule → w ≡ record { part = the_record (i + 1); place = i + 1; number = number_of rule }
          → (Err w ≡ or_refused {A = Unit {0}} (records_refusal [] (records_of net)) tt) × (records_refusal [] (records_of net) ≡ none → X)
      unfolding or_refused
      refuses {rule} {w} e w-is = (
        ap Err (w-is ∙ (λ j. record { part = the_record (add-one i j); place = add-one i j; number = number_of rule })) ∙ ap (λ (o : Option Refusal). or_refused o tt) (sym broken),
        λ n. absurd (some_none (sym broken ∙ n)),
      )
        where
          broken : records_refusal [] (records_of net) ≡ some (record { part = the_record (suc i); place = suc i; number = number_of rule })
          broken = step_refused net i nodes h read few up up_right (sym right ∙ e)

-- ---- and at the end all are kept
pub all_read : (net : List ℕ) {i : ℕ} {nodes : List Node} → Read net i nodes → count net ≤ i
    → (Ok tt ≡ or_refused {A = Unit {0}} (records_refusal [] (records_of net)) tt) × (nodes ≡ table no_node (nodes_of (boards_of net)))
unfolding or_refused
all_read net {i} r h = (
  ap (λ (o : Option Refusal). or_refused o tt) (sym (read_all net r h)),
  let m : i ≡ length (boards_of net) = omega (arith, r.to, boards_count net) in r.are ∙ ap (λ (m : ℕ). table no_node (nodes_from (boards_of net) 1 m)) m,
)
