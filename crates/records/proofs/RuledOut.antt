-- What each contract of this crate rules out: a call that it allows, and an answer that it does not. Assumes nothing.
use mathlib.Core.Bool.{false}
use mathlib.Core.List.{List, [], ◌∷◌, ◌++◌}
use mathlib.Core.Path.{refl, ap}
use Prim.Native.Nat.{ℕ}
use lib.Dec.{T, leb, lit≤}
use lib.ListN.{replicate, set}
use base.Fml.{Lft}
use Rattle.lemmas.proofs.RuledOut.{◌↛◌, RuledOut, ever, ends, by_parts, by_equation, bool, list, lists, lent, lent_out}
use Rattle.paper.specs.declared.Ohms.{Ohms}
use Rattle.paper.specs.declared.Board.{Board}
use Rattle.paper.specs.declared.Refusal.{Refusal}
use Rattle.paper.specs.declared.Rule.{Rule}
use Rattle.paper.specs.declared.Rule.TheVariants.{Feeder, Impedance, Sum, Forgotten}
use Rattle.paper.specs.Rule.{number_of as the_number, rule_of, unless, or_refused}
use Rattle.std.specs.Prelude.{Result, Ok, Err, map}
use Rattle.paper.proofs.Told.{small}
use Rattle.paper.specs.Bytes.{bytes_open}
use Rattle.paper.specs.Label.{label_open}
use Rattle.paper.specs.Kind.{ohms, kind_open}
use Rattle.paper.specs.File.{BD, records_of, boards_of}
use Rattle.paper.specs.Answer.{paper}
use Rattle.paper.proofs.Typed.{label, typed_open}
use Rattle.paper.proofs.Figures.{records, net1}
use Rattle.paper.specs.Refusal.{records_refusal, the_record, refusal_open}
use Rattle.node.specs.declared.Node.{Node}
use Rattle.node.specs.Node.{node_of, start_of, no_node, OwnSmall, UpSmall, with_zero, node_from, node_over}
use Rattle.node.specs.Tables.{table, nodes_from, nodes_of}
use Rattle.node.proofs.Told.{row_of}
use Rattle.node.proofs.Tables.{empty_table}
use Rattle.records.specs.declared.Judged.{Judged}
use Rattle.records.specs.declared.rules.Entry.{Entry}
use Rattle.records.specs.declared.sums.Joined.{Joined}
use Rattle.records.specs.Rules.{fed_wrong, broken, number_of, earlier, step_of, fed_by}
use Rattle.records.specs.Judging.{judgement}
use Rattle.records.proofs.sums.node_over.Reads as node_over
use Rattle.records.proofs.sums.Joined.node.Reads as node-of
use Rattle.records.proofs.rules.Entry.earlier.Reads as earlier-at
use Rattle.records.proofs.rules.Entry.step.Reads as step
use Rattle.records.proofs.fed_by.Reads as fed-by
use Rattle.records.proofs.judge.Reads as judge

-- ---- nodes and boards
abbrev node : Ohms → Ohms → Ohms → ℕ → ℕ → ℕ → ℕ → Node
node z1 z2 z0 f h s t = record { z1 = z1; z2 = z2; z0 = z0; feeder = f; head = h; start = s; turn = t }

abbrev zero : Ohms
zero = ohms 0 0

abbrev j1 : Ohms
j1 = ohms 0 1

abbrev j2 : Ohms
j2 = ohms 0 2

abbrev entered : ℕ → ℕ → Ohms → Ohms → Ohms → Board
entered k c z1 z2 z0 = record { z1 = z1; z2 = z2; z0 = z0; zn = zero; label = 65 ∷ replicate 11 32; feeder = 66 ∷ replicate 11 32; kind = k; clock = c }

abbrev board : ℕ → ℕ → Ohms → Board
board k c z2 = entered k c j1 z2 j1

-- with z1 zero
abbrev forgotten : ℕ → ℕ → Ohms → Ohms → Board
forgotten k c z2 z0 = entered k c zero z2 z0

-- a node above; one without earth return; two with a sum that is one short of too much
abbrev up : Node
up = node j1 j1 j1 0 1 1 0

abbrev up_zero : Node
up_zero = node j1 j1 zero 0 1 0 0

abbrev up_most : Node
up_most = node (ohms 0 4095) j1 j1 0 1 1 0

abbrev up_most0 : Node
up_most0 = node j1 j1 (ohms 0 4095) 0 1 1 0

-- a record as it was read
abbrev entry : ℕ → Board → ℕ → ℕ → Entry
entry r b own fed = record { r = r; mark = BD; b = b; own = own; fed = fed }

-- a record judged, told by the number of its rule, or by 0 and its node
abbrev told : Result Node Rule → ℕ
told (Ok n) = list (0 ∷ row_of n)
told (Err rule) = list (the_number rule ∷ [])

-- a network of one record without a mark; judged, told by its rule, its place and its bytes
abbrev net : List ℕ
net = replicate 6 0 ++ (1 ∷ replicate 45 0)

abbrev judged : ℕ → Result (Unit {0}) Refusal → Judged
judged k o = record { asked = k; outcome = o }

abbrev refuse : ℕ → ℕ → Refusal
refuse r n = record { part = the_record 1; place = r; number = n }

abbrev outcome : Result (Unit {0}) Refusal → List ℕ
outcome (Ok u) = []
outcome (Err w) = w.number ∷ w.place ∷ w.part.start ∷ w.part.len ∷ []

abbrev verdict : Judged → ℕ
verdict z = list (z.asked ∷ outcome z.outcome)

-- ---- what the contracts ask
pub own_small : (k c x : ℕ) → T (leb c 11) → T (leb x 4095) → OwnSmall (board k c (ohms 0 x))
own_small k c x h h2 = record { own1 = small tt; own2 = small h2; own0 = small tt; own_n = small tt; own_clock = lit≤ h }

pub up_small : (x x0 s : ℕ) → T (leb x 4095) → T (leb x0 4095) → UpSmall (node (ohms 0 x) j1 (ohms 0 x0) 0 1 s 0)
up_small x x0 s h h0 = record { up1 = small h; up2 = small tt; up0 = small h0; up_turn = lit≤ tt }

-- a record and its feeder's node
abbrev joined : (b : Board) (above : Node) → OwnSmall b → UpSmall above → Joined
joined b above o u = record { b = b; up = above; own_small = o; up_small = u }

-- ---- the contracts
pub node_over_not : RuledOut (node_over.Pre tt) (ever (node_over.Post tt)) (
    (node (ohms 4096 0) zero zero 0 0 0 0, tt) ↛ false  -- sum_of_4096
    ∷ (node zero zero (ohms 4096 0) 0 1 1 0, tt) ↛ false  -- z0_sum_untested
    ∷ [])
unfolding node_over kind_open
node_over_not = by_equation (λ a. node_over a.0) bool (λ a z e s. s) (tt, (tt, tt)) tt

pub node_not : RuledOut (node-of.Pre tt) (ever (node-of.Post tt)) (
    (joined (board 4 1 j1) up (own_small 4 1 1 tt tt) (up_small 1 1 1 tt tt), (2, (1, tt))) ↛ node j2 j2 j1 1 1 1 1  -- kind_4_goes_on
    ∷ (joined (board 2 0 j1) up_zero (own_small 2 0 1 tt tt) (up_small 1 0 0 tt tt), (2, (1, tt))) ↛ node j2 j2 j1 1 1 1 0  -- missing_return_is_zero
    ∷ (joined (board 2 0 j2) up (own_small 2 0 2 tt tt) (up_small 1 1 1 tt tt), (2, (1, tt))) ↛ node j2 j2 j2 1 1 1 0  -- z2_of_z1
    ∷ (joined (board 3 0 j1) up (own_small 3 0 1 tt tt) (up_small 1 1 1 tt tt), (2, (1, tt))) ↛ node j2 j2 j2 1 2 1 0  -- kind_3_heads_a_part
    ∷ (joined (board 5 0 j1) up_zero (own_small 5 0 1 tt tt) (up_small 1 0 0 tt tt), (2, (1, tt))) ↛ node j2 j2 zero 1 1 0 0  -- kind_5_joins
    ∷ [])
unfolding node_from with_zero kind_open
node_not = by_equation (λ a. node_from a.1.0 a.0.b a.1.1.0 a.0.up) (λ n. list (row_of n)) (λ a z e s. s) (tt, (tt, (tt, (tt, (tt, tt))))) tt

pub earlier_not : RuledOut (earlier-at.Pre tt) (ever (earlier-at.Post tt)) (
    (entry 3 (board 2 0 j1) 3 2, tt) ↛ 0  -- no_feeder
    ∷ (entry 3 (board 2 0 j1) 3 3, tt) ↛ 3  -- own_feeder
    ∷ [])
unfolding earlier
earlier_not = by_equation (λ a. earlier a.0.r a.0.fed) (λ n. n) (λ a z e s. s.0) (tt, (tt, tt)) tt

pub step_not : RuledOut (step.Pre tt) (ever (step.Post tt)) (
    (entry 2 (board 2 0 j1) 1 1, (up, tt)) ↛ Err Feeder  -- seven_said_eight
    ∷ (entry 2 (board 2 0 j1) 2 3, (up, tt)) ↛ Ok (node j2 j2 j2 0 1 1 0)  -- feeder_later_too
    ∷ (entry 2 (board 2 0 j2) 2 1, (up, tt)) ↛ Err Sum  -- ten_said_eleven
    ∷ (entry 2 (board 2 0 j1) 2 1, (up_most, tt)) ↛ Err Impedance  -- eleven_said_ten
    ∷ (entry 2 (forgotten 3 0 j1 j1) 2 1, (up, tt)) ↛ Err Forgotten  -- ten_said_twenty_one
    ∷ (entry 2 (forgotten 3 0 zero j1) 2 1, (up, tt)) ↛ Err Impedance  -- twenty_one_said_ten
    ∷ (entry 2 (forgotten 3 0 zero j1) 2 1, (up_most0, tt)) ↛ Err Sum  -- twenty_one_said_eleven
    ∷ (entry 2 (forgotten 2 0 zero zero) 2 1, (up, tt)) ↛ Err Forgotten  -- twenty_one_of_a_cable
    ∷ (entry 2 (forgotten 3 0 zero j1) 2 1, (up, tt)) ↛ Ok (node j1 j1 j2 1 1 1 0)  -- kind_3_forgotten_kept
    ∷ (entry 2 (forgotten 4 1 zero j1) 2 1, (up, tt)) ↛ Ok (node j1 j1 j1 1 2 2 1)  -- kind_4_forgotten_kept
    ∷ (entry 2 (forgotten 5 0 zero zero) 2 1, (up, tt)) ↛ Ok (node j1 j1 zero 1 2 0 0)  -- kind_5_forgotten_kept
    ∷ (entry 2 (forgotten 3 0 zero j1) 2 1, (up, tt)) ↛ Ok no_node  -- twenty_one_with_a_node
    ∷ [])
unfolding step_of unless rule_of earlier node_over node_from with_zero broken number_of fed_wrong kind_open label_open bytes_open refusal_open
step_not =
    by_equation (λ a. step_of a.0.r a.0.mark a.0.b a.0.own a.0.fed a.1.0) told (λ a z e s. s)
    ((lit≤ tt, up_small 1 1 1 tt tt), ((lit≤ tt, up_small 1 1 1 tt tt), ((lit≤ tt, up_small 1 1 1 tt tt), ((lit≤ tt, up_small 4095 1 1 tt tt), ((lit≤ tt, up_small 1 1 1 tt tt), ((lit≤ tt, up_small 1 1 1 tt tt), ((lit≤ tt, up_small 1 4095 1 tt tt), ((lit≤ tt, up_small 1 1 1 tt tt), ((lit≤ tt, up_small 1 1 1 tt tt), ((lit≤ tt, up_small 1 1 1 tt tt), ((lit≤ tt, up_small 1 1 1 tt tt), ((lit≤ tt, up_small 1 1 1 tt tt), tt)))))))))))) tt

-- ---- the records judged, with a table that says no node
abbrev nobody : List ℕ
nobody = replicate 12 32

-- a table that says no node, and one that says the source's at a place
abbrev no_nodes : List Node
no_nodes = replicate 256 no_node

abbrev source_at : ℕ → List Node
source_at i = set no_nodes i (node_of (boards_of net1) 1)

abbrev rows_of : List Node → List (List ℕ)
rows_of nodes = map row_of nodes

-- two nodes that are told apart
abbrev first : Node
first = node (ohms 1 2) (ohms 3 4) (ohms 5 6) 0 1 1 0

abbrev second : Node
second = node (ohms 11 12) (ohms 13 14) (ohms 15 16) 1 1 1 11

module _ (κ : Lft) where
  pub fed_by_not : RuledOut (fed-by.Pre (κ, tt)) (ever (fed-by.Post (κ, tt))) (
      (2, (lent (first ∷ second ∷ []), tt)) ↛ first  -- node_before
      ∷ (2, (lent (first ∷ second ∷ []), tt)) ↛ node (ohms 13 14) (ohms 11 12) (ohms 15 16) 1 1 1 11  -- sequences_exchanged
      ∷ (1, (lent (first ∷ second ∷ []), tt)) ↛ node (ohms 1 2) (ohms 3 4) (ohms 5 6) 1 0 1 0  -- head_for_feeder
      ∷ [])
  unfolding fed_by
  fed_by_not = by_equation (λ a. fed_by a.0 a.1.0.now) (λ n. list (row_of n)) (λ a z e s. s) (lit≤ tt, (lit≤ tt, (lit≤ tt, tt))) tt

module _ (κ κ' : Lft) where
  pub judge_not : RuledOut (judge.Pre (κ, (κ', tt))) (ends (judge.Post (κ, (κ', tt)))) (
      (lent net, (1, (nobody, (lent_out no_nodes, tt)))) ↛ (judged 0 (Err (refuse 2 5)), (lent net, (1, (nobody, (lent_out no_nodes, tt)))))  -- counted_from_0
      ∷ (lent net, (1, (nobody, (lent_out no_nodes, tt)))) ↛ (judged 0 (Err (refuse 0 5)), (lent net, (1, (nobody, (lent_out no_nodes, tt)))))  -- place_from_0
      ∷ (lent net, (1, (nobody, (lent_out no_nodes, tt)))) ↛ (judged 1 (Err (refuse 1 5)), (lent net, (1, (nobody, (lent_out no_nodes, tt)))))  -- source_for_nobody
      ∷ (lent net, (1, (nobody, (lent_out no_nodes, tt)))) ↛ (judged 0 (Err (record { part = the_record 2; place = 1; number = 5 })), (lent net, (1, (nobody, (lent_out no_nodes, tt)))))  -- bytes_of_the_next
      ∷ (lent net1, (1, (label "gen", (lent_out no_nodes, tt)))) ↛ (judged 0 (Ok tt), (lent net1, (1, (label "gen", (lent_out (source_at 0), tt)))))  -- asked_as_typed
      ∷ (lent net1, (1, (nobody, (lent_out no_nodes, tt)))) ↛ (judged 0 (Ok tt), (lent net1, (1, (nobody, (lent_out no_nodes, tt)))))  -- no_nodes_left
      ∷ (lent net1, (1, (nobody, (lent_out no_nodes, tt)))) ↛ (judged 0 (Ok tt), (lent net1, (1, (nobody, (lent_out (source_at 1), tt)))))  -- node_one_row_on
      ∷ [])
  unfolding judgement or_refused paper typed_open records table nodes_from node_of start_of
  judge_not =
      by_parts (λ z. verdict z.0) (λ a. verdict (judgement a.0.now a.1.1.0))
      (λ a. records_refusal [] (records_of a.0.now)) (λ z. lists (rows_of z.1.1.1.1.0.now)) (λ a. lists (rows_of (table no_node (nodes_of (boards_of a.0.now)))))
      (λ a z s. (ap verdict s.0, λ e. ap (λ (ns : List Node). lists (rows_of ns)) (s.1 e)))
      (((refl, lit≤ tt, refl), empty_table no_node refl), (((refl, lit≤ tt, refl), empty_table no_node refl), (((refl, lit≤ tt, refl), empty_table no_node refl), (((refl, lit≤ tt, refl), empty_table no_node refl), (((refl, lit≤ tt, refl), empty_table no_node refl), (((refl, lit≤ tt, refl), empty_table no_node refl), (((refl, lit≤ tt, refl), empty_table no_node refl), tt))))))) tt
