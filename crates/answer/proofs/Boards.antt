-- The pass over the boards, turn by turn: what it knows of a board is the paper's. Assumes nothing.
use mathlib.Core.Bool.{Bool, true, false, not, cond}
use mathlib.Core.List.{List, ◌++◌, append-nil, append_assoc}
use mathlib.Core.Path.{◌≡◌, refl, sym, ◌∙◌, ap, subst}
use Prim.Native.Nat.{ℕ, zero, suc, ◌+◌, ◌*◌, ◌-◌, ◌≤◌, ◌<◌}
use native.Mathlib.Omega.{arith}
use native.Mathlib.Numerals.{add-one}
use lib.Dec.{eqb}
use lib.IntN.{ℤ, pos}
use lib.ListN.{length, length-take, length-drop, length-set, get_or, set, take, drop, take-append-drop}
use lib.Seq.{get_or-set_same, get_or-set_other}
use Rattle.lemmas.specs.Over.{over}
use borrow.Rule.Slice.PartMut.{put_mid}
use borrow.Author.Tests.{eqb-true, eqb-false}
use Rattle.lemmas.proofs.Over.{put_over, over_then, over_length}
use Rattle.paper.specs.Bytes.{one_of}
use Rattle.paper.specs.Chain.{feeder_of, chain, part_head, joined, unearthed, Z1, Z2, Z0, turn_of}
use Rattle.paper.specs.Phase.{Asked, the_d, the_i, lift, current, phases, board_voltages, record_currents}
use Rattle.paper.specs.Answer.{flat, of_board, of_boards}
use Rattle.follows.proofs.Chain.{feeder_earlier}
use Rattle.follows.proofs.Shared.{earthed_is}
use Rattle.follows.proofs.Laid.{board_size_lem, boards_size}
use Rattle.fits.proofs.Sizes.{Ranged}
use Rattle.fits.proofs.Fits.{shares_small, the_d_small, the_i_plane, lift_plane}
use Rattle.node.specs.declared.Node.{Node}
use Rattle.node.specs.Node.{start_of, node_of, no_node}
use Rattle.node.specs.Tables.{nodes_of}
use Rattle.node.proofs.Tables.{table_length, nodes_length, in_table}
use Rattle.node.proofs.Starts.{starts_nowhere}
use Rattle.fault.specs.Short.{shorted_of}
use Rattle.fault.proofs.Asked.{shorted_is, voltage_is}
use Rattle.chain.proofs.Climb.{mark_is}
use Rattle.chain.specs.declared.share.Shared.{Shared}
use Rattle.chain.specs.Share.{no_share, shared_of, share_from, shared_in, with_share}
use Rattle.chain.proofs.Shares.{share_none, share_next, read_back}
use Rattle.chain.specs.Carried.{carried_of}
use Rattle.board.specs.declared.front.Faulted.{Faulted}
use Rattle.board.specs.Faulted.{faulted_from, FaultSmall}
use Rattle.board.specs.Numbers.{left_of, passed_of, numbers_of, ShareSmall}
use Rattle.answer.specs.Ready.{Ready}
use Rattle.answer.specs.Passing.{Passing}

-- ---- a question that is ready
module _ (q : Asked) (ready : Ready q) where
  open q use {head, boards, fault, k}

  pub ranged : Ranged (Z1 boards k) (Z2 boards k) (Z0 boards k) fault.zf
  ranged = let s = ready.sums_in k ready.k_from ready.k_to in record { upto1 = s.sum1; upto2 = s.sum2; upto0 = s.sum0; uptof = ready.zf_in }

  -- the fault at its board
  abbrev pub here : Faulted
  here = record { i = the_i q; lift = lift q; d = the_d q; head = part_head boards k; turn = turn_of boards k; phase = fault.phase; earthed = not (unearthed boards k) }

  pub faulted_is : faulted_from (node_of boards k) fault ≡ here
  unfolding faulted_from node_of
  faulted_is =
      (λ i. let s = shorted_of (Z1 boards k) (Z2 boards k) (Z0 boards k) fault.zf fault.kind (returns i) in
      record { i = s.i; lift = s.lift; d = s.d; head = part_head boards k; turn = turn_of boards k; phase = fault.phase; earthed = returns i })
      ∙ (λ i. record { i = (shorted_is q i).i; lift = (shorted_is q i).lift; d = (shorted_is q i).d; head = part_head boards k; turn = turn_of boards k; phase = fault.phase; earthed = not (unearthed boards k) })
    where
      returns : not (eqb (start_of boards k) 0) ≡ not (unearthed boards k)
      returns = ap not (starts_nowhere boards k ready.k_from)

  here_small : FaultSmall here
  here_small =
      record { d_small = the_d_small q ranged; i_small = the_i_plane q ranged; lift_small = lift_plane q ranged; turn_small = (ready.sums_in k ready.k_from ready.k_to).turns; phase_to = ready.phase_to }

  pub fault_small : {f : Faulted} → f ≡ faulted_from (node_of boards k) fault → FaultSmall f
  fault_small e = subst FaultSmall (sym (e ∙ faulted_is)) here_small

  -- what a board shares fits
  pub share_small : (j : ℕ) → 1 ≤ j → j ≤ length boards → ShareSmall (shared_of boards k j)
  unfolding shared_of
  share_small j h l =
      let s = ready.sums_in j h l in
      let u = shares_small q {j = j} (record { sum1 = s.sum1; sum2 = s.sum2; sum0 = s.sum0 }) in
      record { share1 = u.share1; share2 = u.share2; share0 = u.share0 }

  -- ---- a board's numbers are the paper's
  pub numbers_are : (j : ℕ) → numbers_of here (one_of j (chain boards k)) (node_of boards j) (shared_of boards k j) ≡ of_board q j
  unfolding numbers_of left_of passed_of carried_of node_of shared_of joined of_board board_voltages record_currents current
  numbers_are j =
      λ i. flat (phases fault.phase (turn_of boards j) (turn_of boards k) (voltage_is q j i))
      ++ flat (phases fault.phase (turn_of boards j) (turn_of boards k) (carried_of (one_of j (chain boards k)) (earthed_is boards k j i) (the_i q)))

-- ---- the numbers of the boards, one behind the other
module _ (q : Asked) where
  boards_next : (r n : ℕ) → of_boards q r (suc n) ≡ of_boards q r n ++ of_board q (r + n)
  unfolding of_boards
  boards_next r zero = let e : r ≡ r + 0 = omega arith in append-nil (of_board q r) ∙ ap (of_board q) e
  boards_next r (suc n) =
      let e : suc r + n ≡ r + suc n = omega arith in
      ap (λ l. of_board q r ++ l) (boards_next (suc r) n ∙ ap (λ m. of_boards q (suc r) n ++ of_board q m) e) ∙ sym (append_assoc (of_board q r) (of_boards q (suc r) n) (of_board q (r + suc n)))

-- ---- a turn
module _ {q : Asked} {nodes : List Node} {n : ℕ} {on : List Bool} {f : Faulted} (p : Passing q nodes n on f) where
  open q use {boards, fault, k}

  -- after j turns: what the boards passed share stands in their nodes, and the nodes ahead are as they were
  pub record Turned (out₀ out : List ℤ) (now : List Node) (j : ℕ) : Type 0 where
    pub places : length now ≡ 256
    pub passed : (i : ℕ) → i < j → shared_in (get_or now i no_node) ≡ shared_of boards k (suc i)
    pub ahead : (i : ℕ) → j ≤ i → get_or now i no_node ≡ get_or nodes i no_node
    pub written : out ≡ over 13 (of_boards q 1 j) out₀

  pub no_turn : (out : List ℤ) → Turned out out nodes 0
  unfolding of_boards over
  no_turn out =
      let few = p.ready.few in
      record {
        places = ap length p.nodes_are ∙ table_length no_node (nodes_of boards) (omega (arith, nodes_length boards 1 (length boards)));
        passed = λ i h. absurd (omega arith);
        ahead = λ i h. refl;
        written = sym (take-append-drop 13 out);
      }

  pub keeps_length : {out₀ out : List ℤ} {now : List Node} {j : ℕ} → j ≤ n → 13 + 24 * n ≤ length out₀ → Turned out₀ out now j → length out ≡ length out₀
  keeps_length {out₀} {j = j} h room t = ap length t.written ∙ over_length (pos 0) 13 (of_boards q 1 j) out₀ (omega (arith, boards_size q 1 j))

  -- what the tables say of board j + 1
  node_of_lem : (j : ℕ) → j < n → get_or nodes j no_node ≡ node_of boards (suc j)
  node_of_lem j h = ap (λ l. get_or l j no_node) p.nodes_are ∙ in_table boards j (omega (arith, p.all))

  mark_at_lem : (j : ℕ) → j < n → get_or on j false ≡ one_of (suc j) (chain boards k)
  mark_at_lem j h =
      let a = p.all in
      let l = p.ready.few in
      ap (λ l. get_or l j false) p.marks_are ∙ mark_is boards nodes (λ i b. node_of_lem i (omega arith)) k j p.ready.k_to (omega arith)

  module _ {j : ℕ} (h : j < n) {out₀ out : List ℤ} {now : List Node} (t : Turned out₀ out now j) {node : Node} (d : node ≡ get_or now j no_node) where
    -- its node is not passed yet
    node_is : node ≡ node_of boards (suc j)
    node_is = d ∙ t.ahead j (omega arith) ∙ node_of_lem j h

    feeder_is : node.feeder ≡ feeder_of boards (suc j)
    unfolding node_of
    feeder_is = ap (λ (m : Node). m.feeder) node_is

    -- its feeder stands before it
    pub feeder_before : node.feeder ≤ j
    feeder_before = omega (arith, feeder_is, feeder_earlier boards j)

    pub up_is : {up : Shared} → up ≡ cond (eqb node.feeder 0) no_share (shared_in (get_or now (node.feeder - 1) no_node)) → up ≡ shared_of boards k (feeder_of boards (suc j))
    up_is {up} u = go (eqb node.feeder 0) refl u
      where
        go : (c : Bool) → eqb node.feeder 0 ≡ c → up ≡ cond c no_share (shared_in (get_or now (node.feeder - 1) no_node)) → up ≡ shared_of boards k (feeder_of boards (suc j))
        go true e u =
            let z = eqb-true node.feeder 0 e in
            let g = feeder_is in
            let d : 0 ≡ feeder_of boards (suc j) = omega arith in
            u ∙ sym (share_none boards k) ∙ ap (shared_of boards k) d
        go false e u =
            let z = eqb-false node.feeder 0 e in
            let b = feeder_earlier boards j in
            let g = feeder_is in
            let d : suc (node.feeder - 1) ≡ feeder_of boards (suc j) = omega arith in
            u ∙ t.passed (node.feeder - 1) (omega arith) ∙ ap (shared_of boards k) d

    -- the record is what it is
    pub share_is : {here : Bool} {head : ℕ} {up s : Shared} → here ≡ get_or on j false → head ≡ f.head → up ≡ shared_of boards k (feeder_of boards (suc j)) → s ≡ share_from here node head up → s ≡ shared_of boards k (suc j)
    share_is e b u c = c ∙ (λ i. share_from ((e ∙ mark_at_lem j h) i) (node_is i) ((b ∙ heading) i) (u i)) ∙ share_next boards k p.ready.k_from j
      where
        heading : f.head ≡ part_head boards k
        heading = ap (λ (g : Faulted). g.head) (p.faulted_is ∙ faulted_is q p.ready)

    pub turn_fits : node.turn ≤ 2816
    unfolding node_of
    turn_fits = let a = p.all in let e = ap (λ (m : Node). m.turn) node_is in omega (arith, (p.ready.sums_in (suc j) (omega arith) (omega arith)).turns)

    pub shares_fit : {s : Shared} → s ≡ shared_of boards k (suc j) → ShareSmall s
    shares_fit e = let a = p.all in subst ShareSmall (sym e) (share_small q p.ready (suc j) (omega arith) (omega arith))

    -- what it shares stands in its node, and its numbers behind those before
    pub goes_on : {s : Shared} {here : Bool} {part : List ℤ} {now' : List Node} (m : ℕ) → m ≡ 24 → 13 + 24 * n ≤ length out₀ → s ≡ shared_of boards k (suc j) → here ≡ get_or on j false
        → now' ≡ set now j (with_share node s) → part ≡ numbers_of f here node s → Turned out₀ (put_mid (13 + 24 * j) m out part) now' (j + 1)
    goes_on {s} {here} {part} m size room e o put c =
        record {
          places = ap length put ∙ length-set now j (with_share node s) ∙ t.places;
          passed = λ i l. ap (λ (ns : List Node). shared_in (get_or ns i no_node)) put ∙ are i l;
          ahead = λ i l. ap (λ (ns : List Node). get_or ns i no_node) put ∙ get_or-set_other now j i (with_share node s) no_node (λ x. omega arith) ∙ t.ahead i (omega arith);
          written = behind;
        }
      where
        are : (i : ℕ) → i < j + 1 → shared_in (get_or (set now j (with_share node s)) i no_node) ≡ shared_of boards k (suc i)
        are i l = go (eqb i j) refl
          where
            go : (c : Bool) → eqb i j ≡ c → shared_in (get_or (set now j (with_share node s)) i no_node) ≡ shared_of boards k (suc i)
            go true g =
                let m = eqb-true i j g in
                let a = p.all in
                let x = p.ready.few in
                let y = t.places in
                ap (λ (r : ℕ). shared_in (get_or (set now j (with_share node s)) r no_node)) m ∙ ap shared_in (get_or-set_same now j (with_share node s) no_node (omega arith)) ∙ read_back node s ∙ e
                ∙ ap (λ (r : ℕ). shared_of boards k (suc r)) (sym m)
            go false g = let m = eqb-false i j g in ap shared_in (get_or-set_other now j i (with_share node s) no_node m) ∙ t.passed i (omega arith)

        numbers : part ≡ of_board q (suc j)
        numbers = c ∙ (λ i. numbers_of ((p.faulted_is ∙ faulted_is q p.ready) i) ((o ∙ mark_at_lem j h) i) (node_is i) (e i)) ∙ numbers_are q p.ready (suc j)

        before : List ℤ
        before = of_boards q 1 j

        place : 13 + 24 * j ≡ 13 + length before
        place = omega (arith, boards_size q 1 j)

        next : suc j ≡ 1 + j
        next = omega arith

        behind : put_mid (13 + 24 * j) m out part ≡ over 13 (of_boards q 1 (j + 1)) out₀
        behind =
            put_over (13 + 24 * j) m out part (of_board q (suc j)) numbers (size ∙ sym (board_size_lem q (suc j)))
            ∙ (λ i. over (place i) (of_board q (suc j)) (t.written i))
            ∙ over_then 13 before (of_board q (suc j)) out₀ (omega arith)
            ∙ ap (λ m. over 13 (before ++ of_board q m) out₀) next
            ∙ ap (λ l. over 13 l out₀) (sym (boards_next q 1 j))
            ∙ ap (λ m. over 13 (of_boards q 1 m) out₀) (sym (add-one j))

-- a board's part of the buffer
pub part_length : (a : ℕ) (xs : List ℤ) → a + 24 ≤ length xs → length (take (a + 24 - a) (drop a xs)) ≡ 24
part_length a xs h = simp (length-take, length-drop) (omega arith)
