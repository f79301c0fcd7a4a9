-- What the contract of `read` rules out: a call that it allows, and an answer that it does not. Assumes nothing.
use mathlib.Core.List.{List, [], ◌∷◌, ◌++◌}
use mathlib.Core.Path.{◌≡◌, refl, ap}
use Prim.Native.Nat.{ℕ}
use lib.ListN.{drop}
use base.Fml.{Lft}
use denote.Bor.{Bor}
use denote.MutBor.{MutBor}
use Rattle.lemmas.proofs.RuledOut.{◌↛◌, RuledOut, ends, by_parts, list, lists, lent, lent_out}
use Rattle.std.specs.Prelude.{Result, Ok, Err, map, replicate}
use Rattle.paper.specs.declared.Refusal.{Refusal}
use Rattle.paper.specs.declared.Lent.TheVariants.{NetworkBytes}
use Rattle.paper.specs.Bytes.{part}
use Rattle.paper.specs.Label.{Label}
use Rattle.paper.specs.File.{boards_of}
use Rattle.paper.specs.Refusal.{network_refusal}
use Rattle.paper.specs.Rule.{or_refused}
use Rattle.paper.specs.Answer.{paper}
use Rattle.paper.proofs.Typed.{head, label, typed_open}
use Rattle.paper.proofs.Figures.{j, records, gen, booth, net3}
use Rattle.paper.proofs.ForgottenFigures.{hall, forgetful, overgrown}
use Rattle.node.specs.declared.Node.{Node}
use Rattle.node.specs.Node.{node_of, start_of, no_node}
use Rattle.node.specs.Tables.{table, nodes_from, nodes_of}
use Rattle.node.proofs.Told.{row_of}
use Rattle.node.proofs.Tables.{empty_table}
use Rattle.network.specs.declared.Network.{Network}
use Rattle.network.specs.Network.{accepted_network, network_of}
use Rattle.network.proofs.read.Reads as read

-- ---- a network told by its boards and the place of the one that is asked for, or by why it is refused
abbrev told : Result Network Refusal → ℕ
told (Ok g) = list (0 ∷ g.head.boards ∷ g.k ∷ [])
told (Err w) = list (w.number ∷ w.place ∷ w.part.start ∷ w.part.len ∷ [])

-- 01's network, read, with a board at a place; and a refusal
abbrev at : ℕ → Result Network Refusal
at k = Ok (record { head = (accepted_network net3 []).head; k = k })

abbrev refuse : ℕ → ℕ → ℕ → ℕ → Result Network Refusal
refuse number place start len = Err (record { part = part NetworkBytes start len; place = place; number = number })

-- the booth twice: 7 at record 3
abbrev twice : List ℕ
twice = head 230 1000 3 ++ gen ++ booth ++ booth

-- 02, R-6: 01's network with a cable of zero length to the hall
abbrev no_length : List ℕ
no_length = head 230 1000 3 ++ gen ++ booth ++ hall 2 0 (j 0) (j 0) (j 0) (j 0)

-- ---- a call, and its answer with what is left in the table
abbrev Call : Type 0
Call = Bor (List ℕ) × (Label × (MutBor (List Node) × Unit {0}))

abbrev no_nodes : List Node
no_nodes = replicate 256 no_node

abbrev asked : List ℕ → Label → Call
asked net l = (lent net, (l, (lent_out no_nodes, tt)))

abbrev leaves : List ℕ → Label → Result Network Refusal → List Node → Result Network Refusal × Call
leaves net l g nodes = (g, (lent net, (l, (lent_out nodes, tt))))

abbrev filled : List ℕ → List Node
filled net = table no_node (nodes_of (boards_of net))

abbrev rows_of : List Node → List (List ℕ)
rows_of nodes = map row_of nodes

module _ (κ κ' : Lft) where
  none_yet : no_nodes ≡ table no_node []
  none_yet = empty_table no_node refl

  pub read_not : RuledOut (read.Pre (κ, (κ', tt))) (ends (read.Post (κ, (κ', tt)))) (
      asked net3 (label "HALL") ↛ leaves net3 (label "HALL") (refuse 4 0 0 8) (filled net3)  -- refuses_everything
      ∷ asked [] (label "HALL") ↛ leaves [] (label "HALL") (refuse 2 0 0 0) no_nodes  -- short_is_two
      ∷ asked (0 ∷ drop 1 net3) (label "HALL") ↛ leaves (0 ∷ drop 1 net3) (label "HALL") (refuse 2 0 0 9) no_nodes  -- head_of_9
      ∷ asked (net3 ++ (0 ∷ [])) (label "HALL") ↛ leaves (net3 ++ (0 ∷ [])) (label "HALL") (at 3) (filled net3)  -- length_not_tested
      ∷ asked twice (label "HALL") ↛ leaves twice (label "HALL") (refuse 7 3 52 44) no_nodes  -- record_too_early
      ∷ asked twice (label "GEN") ↛ leaves twice (label "GEN") (at 1) (filled twice)  -- record_not_judged
      ∷ asked net3 (label "HALL") ↛ leaves net3 (label "HALL") (at 2) (filled net3)  -- board_from_0
      ∷ asked net3 (label "NOBODY") ↛ leaves net3 (label "NOBODY") (at 1) (filled net3)  -- source_for_nobody
      ∷ asked net3 (label "hall") ↛ leaves net3 (label "hall") (at 0) (filled net3)  -- fault_as_typed
      ∷ asked net3 (label "HALL") ↛ leaves net3 (label "HALL") (at 3) no_nodes  -- no_nodes_left
      ∷ asked net3 (label "HALL") ↛ leaves net3 (label "HALL") (at 3) (filled twice)  -- nodes_of_another
      ∷ asked forgetful (label "HALL") ↛ leaves forgetful (label "HALL") (at 3) (filled forgetful)  -- forgotten_taken
      ∷ asked forgetful (label "HALL") ↛ leaves forgetful (label "HALL") (refuse 21 0 96 44) no_nodes  -- twenty_one_at_place_0
      ∷ asked forgetful (label "HALL") ↛ leaves forgetful (label "HALL") (refuse 21 3 0 8) no_nodes  -- twenty_one_shows_the_head
      ∷ asked overgrown (label "HALL") ↛ leaves overgrown (label "HALL") (refuse 11 3 96 44) no_nodes  -- twenty_one_after_eleven
      ∷ asked no_length (label "HALL") ↛ leaves no_length (label "HALL") (refuse 21 3 96 44) no_nodes  -- twenty_one_for_a_cable
      ∷ [])
  unfolding paper network_of or_refused typed_open records table nodes_from node_of start_of
  read_not =
      by_parts (λ z. told z.0) (λ a. told (network_of a.0.now a.1.0))
      (λ a. network_refusal a.0.now) (λ z. lists (rows_of z.1.1.1.0.now)) (λ a. lists (rows_of (filled a.0.now)))
      (λ a z s. (ap told s.0, λ e. ap (λ (ns : List Node). lists (rows_of ns)) (s.1 e)))
      (none_yet, (none_yet, (none_yet, (none_yet, (none_yet, (none_yet, (none_yet, (none_yet, (none_yet, (none_yet, (none_yet, (none_yet, (none_yet, (none_yet, (none_yet, (none_yet, tt)))))))))))))))) tt
