-- Each return of `earth`, from the facts in the shape in which the branches have them, is what the paper says. Assumes nothing.
use mathlib.Core.Bool.{Bool, true, false, not, cond, ◌||◌, or-true}
use mathlib.Core.List.{List}
use mathlib.Core.Option.{Option, none}
use mathlib.Core.Path.{◌≡◌, refl, sym, ◌∙◌, ap}
use Prim.Native.Nat.{ℕ, suc, ◌-◌, ◌≤◌, ◌<◌}
use native.Mathlib.Omega.{arith}
use lib.Dec.{eqb}
use lib.ListN.{length, get_or}
use borrow.Author.Tests.{eq-eqb, ne_eqb, eqb-true}
use Rattle.std.specs.Prelude.{Result, Ok, Err}
use Rattle.paper.specs.declared.Refusal.{Refusal}
use Rattle.paper.specs.declared.Lent.TheVariants.{LabelBytes}
use Rattle.paper.specs.Bytes.{bytes_at, part}
use Rattle.paper.specs.Label.{Label, spaces}
use Rattle.paper.specs.File.{boards_of}
use Rattle.paper.specs.Chain.{Boards, place_of, part_head, Earth, no_earth, earth_at, earth_of, is_none}
use Rattle.paper.specs.Rows.{first}
use Rattle.paper.specs.Refusal.{network_rows, network_refusal}
use Rattle.paper.specs.Return.{Said, earth_return_from, none_stopped_at, refused_by, label_rows, earth_rows, return_of, return_at, refused_or, earth_said}
use Rattle.follows.proofs.Rows.{behind, ahead}
use Rattle.follows.proofs.Parts.{head_between}
use Rattle.follows.proofs.Places.{place_most}
use Rattle.follows.proofs.Spelt.{all_bytes}
use Rattle.node.specs.declared.Node.{Node}
use Rattle.node.specs.Node.{start_of, node_of, no_node}
use Rattle.node.specs.Tables.{table, nodes_of}
use Rattle.node.proofs.Tables.{in_table}
use Rattle.network.specs.declared.Network.{Network}
use Rattle.network.specs.Network.{network_of}
use Rattle.network.proofs.Kept.{network_kept, network_broken, network_boards, network_few}
use Rattle.return_path.specs.Return.{said_by}
use Rattle.return_path.proofs.Asked.{answered}

-- ---- a node's two returns
pub by_head : (n : Node) → n.start ≡ 0 → none_stopped_at n.head ≡ said_by n
by_head n e = rw (eq-eqb n.start 0 e) refl

pub by_start : (n : Node) → (n.start ≡ 0 → ⊥) → earth_return_from n.start ≡ said_by n
by_start n f = rw (ne_eqb n.start 0 f) refl

-- the node of a board says what the paper says of the board
node_says : (bs : Boards) (k : ℕ) → 1 ≤ k → said_by (node_of bs k) ≡ return_at bs k
unfolding node_of start_of return_at is_none return_of
node_says bs k l = go (earth_of bs k)
  where
    go : (e : Earth) → cond (eqb (cond (is_none e) 0 (part_head bs k)) 0) (none_stopped_at (part_head bs k)) (earth_return_from (cond (is_none e) 0 (part_head bs k))) ≡ return_of e (part_head bs k)
    go no_earth = refl
    go (earth_at e) = let h = head_between bs k l in rw (ne_eqb (part_head bs k) 0 (omega arith)) refl

module _ (net : List ℕ) (l : Label) where
  abbrev bs : Boards
  bs = boards_of net

  -- ---- the network's own refusals: it was read
  pub says_network : (w : Label) {g : Result Network Refusal} {why : Refusal} → g ≡ network_of net w → g ≡ Err why → refused_by why ≡ earth_said net l
  unfolding earth_said earth_rows refused_or
  says_network w read h = sym (ap (λ (o : Option Refusal). refused_or o (return_at bs (place_of l bs))) (ahead (network_rows net) (label_rows bs l) (network_broken net w read h)))

  -- ---- it was read and accepted as g, and k is where the label was found that the bytes say
  module _ (w : Label) {r : Result Network Refusal} {g : Network} {k : ℕ} (w-is : w ≡ cond (eqb (length l) 12) (bytes_at 12 l 0) spaces) (read : r ≡ network_of net w) (taken : r ≡ Ok g) (k_is : k ≡ g.k) where
    kept : network_refusal net ≡ none
    kept = (network_kept net w read taken).0

    k_at : length l ≡ 12 → k ≡ place_of l bs
    k_at e =
        k_is ∙ ap (λ (x : Network). x.k) (network_kept net w read taken).1
        ∙ ap (λ (x : Label). place_of x bs) (w-is ∙ ap (λ (t : Bool). cond t (bytes_at 12 l 0) spaces) (eq-eqb (length l) 12 e) ∙ all_bytes l 12 e)

    -- 14: it has not twelve bytes, or no board has it
    pub says_unknown : {s : Said} → (length l ≡ 12 → k ≡ 0) → s ≡ refused_by (record { part = part LabelBytes 0 (length l); place = 0; number = 14 }) → s ≡ earth_said net l
    unfolding earth_said earth_rows refused_or label_rows first
    says_unknown h e = e ∙ sym (rw (behind (network_rows net) (label_rows bs l) kept, unknown (eqb (length l) 12) refl) refl)
      where
        unknown : (t : Bool) → eqb (length l) 12 ≡ t → (not (eqb (length l) 12) || eqb (place_of l bs) 0) ≡ true
        unknown true q =
            let twelve = eqb-true (length l) 12 q in
            ap (λ (m : ℕ). not (eqb (length l) 12) || eqb m 0) (sym (k_at twelve) ∙ h twelve) ∙ or-true (not (eqb (length l) 12))
        unknown false q = rw q refl

    -- its board is found: the node that is read off is the board's
    module _ (twelve : length l ≡ 12) (from_1 : 1 ≤ k) where
      among : k ≤ length bs
      among = omega (arith, k_at twelve, place_most l bs)

      pub in_nodes : k - 1 < 256
      in_nodes = omega (arith, among, from_1, network_boards net w read taken, network_few net w read taken)

      pub says_node : {s : Said} {ns : List Node} → (network_refusal net ≡ none → ns ≡ table no_node (nodes_of bs)) → s ≡ said_by (get_or ns (k - 1) no_node) → s ≡ earth_said net l
      says_node rows e =
          e ∙ ap (λ (ns : List Node). said_by (get_or ns (k - 1) no_node)) (rows kept)
          ∙ ap said_by (in_table bs (k - 1) (omega (arith, among, from_1)) ∙ ap (node_of bs) up)
          ∙ node_says bs k from_1
          ∙ ap (return_at bs) (k_at twelve)
          ∙ sym (answered net l (record { network = kept; label_size_lem = twelve; from = omega (arith, k_at twelve, from_1) }))
        where
          up : suc (k - 1) ≡ k
          up = omega (arith, from_1)
