-- The reader's loop: after i records they have passed, their boards are sound, and the nodes of the table are theirs. Assumes nothing.
use mathlib.Core.Bool.{Bool, true, false, cond}
use mathlib.Core.List.{List, [], ◌∷◌, ◌++◌}
use mathlib.Core.Option.{none, some}
use mathlib.Core.Path.{◌≡◌, refl, sym, ◌∙◌, ap, subst}
use Prim.Native.Nat.{ℕ, suc, ◌+◌, ◌-◌, ◌≤◌, ◌<◌}
use native.Mathlib.Decide.{dec_le}
use native.Mathlib.Omega.{arith}
use lib.Dec.{ltb, eqb, lit≤}
use lib.ListN.{length, get_or, take, drop, set}
use lib.Seq.{length-take-le}
use borrow.Author.Tests.{lt-ltb, le-ltb, eq-eqb, ne_eqb, eqb-true}
use Rattle.paper.specs.declared.Board.{Board}
use Rattle.paper.specs.declared.Refusal.{Refusal}
use Rattle.paper.specs.Label.{Label}
use Rattle.paper.specs.Kind.{ohms}
use Rattle.paper.specs.File.{mark_of, board_of, boards_of, records_of}
use Rattle.paper.specs.Chain.{Boards, look_from, place_of, feeder_of, earth_of, is_none, turn_of}
use Rattle.paper.specs.Rows.{first}
use Rattle.paper.specs.Refusal.{feeder_wrong, sum_wrong, records_refusal, record_rows, the_record}
use Rattle.follows.proofs.Places.{place_most}
use Rattle.paper.specs.Bounds.{AtMost}
use Rattle.follows.proofs.Chain.{Z1_none, Z2_none, turn_none}
use Rattle.follows.proofs.Parts.{head_none, Z0_none}
use Rattle.follows.proofs.Before.{feeder_before, head_before, earth_before, turn_before, Z1_before, Z2_before, Z0_before}
use Rattle.follows.proofs.Fit.{Fit, fit}
use Rattle.follows.proofs.Sound.{Sound, sound_none, sum_wrong_is, going_on, sound_next, Tested, Z0_small, turn_small}
use Rattle.node.specs.declared.Node.{Node}
use Rattle.std.specs.Prelude.{Result, Ok, Err}
use Rattle.paper.specs.declared.Rule.{Rule}
use Rattle.paper.specs.Rule.{number_of as the_number, rule_of, unless}
use Rattle.paper.proofs.Rules.{kept_by, broken_by}
use Rattle.node.specs.Node.{start_of, node_of, node_from, node_over, no_node, UpSmall}
use Rattle.records.specs.Rules.{broken, earlier, fed_by, step_of}
use Rattle.node.specs.Tables.{table, nodes_from}
use Rattle.records.proofs.Behind.{place_earlier, place_not_earlier, node_next}
use Rattle.records.proofs.Record.{own_test, fed_test, broken_named, record_broken, record_over, record_passes, Kept, all_kept}
use Rattle.node.proofs.Tables.{table_at, table_put, nodes_length, nodes_at, nodes_next}
use Rattle.node.proofs.Records.{count, bytes_of, boards_count, before_next, all_boards, Passed, passed_none, passed_next, passed_refused, passed_all}

-- ---- nodes
pub node_none : (bs : Boards) → node_of bs 0 ≡ no_node
unfolding node_of start_of feeder_of look_from earth_of is_none
node_none bs = λ i. record { z1 = Z1_none bs i; z2 = Z2_none bs i; z0 = Z0_none bs i; feeder = 0; head = head_none bs i; start = 0; turn = turn_none bs i }

-- a board's node looks at no later board
pub node_before : (before rest : Boards) (r : ℕ) → r ≤ length before → node_of (before ++ rest) r ≡ node_of before r
unfolding node_of start_of
node_before before rest r h =
    λ i. record {
      z1 = Z1_before before rest r h i;
      z2 = Z2_before before rest r h i;
      z0 = Z0_before before rest r h i;
      feeder = feeder_before before rest r h i;
      head = head_before before rest r h i;
      start = cond (is_none (earth_before before rest r h i)) 0 (head_before before rest r h i);
      turn = turn_before before rest r h i;
    }

-- ---- the feeder's place among the boards before, from its first place among all
pub earlier_is : (before : Boards) (b : Board) (rest : Boards) (l : Label) → earlier (suc (length before)) (place_of l (before ++ (b ∷ rest))) ≡ place_of l before
unfolding earlier
earlier_is before b rest l = go (dec_le 1 fed) (dec_le fed (length before))
  where
    fed : ℕ
    fed = place_of l (before ++ (b ∷ rest))

    go : Dec (1 ≤ fed) → Dec (fed ≤ length before) → cond (ltb fed (suc (length before))) fed 0 ≡ place_of l before
    go (yes p) (yes q) = rw (lt-ltb fed (suc (length before)) (omega arith)) (sym (place_earlier before b rest l p q))
    go (yes p) (no q) = rw (le-ltb fed (suc (length before)) (omega arith)) (sym (place_not_earlier before b rest l (λ h k. q k)))
    go (no p) q =
        let e : fed ≡ 0 = omega arith in
        rw (lt-ltb fed (suc (length before)) (omega arith)) (e ∙ sym (place_not_earlier before b rest l (λ h k. p h)))

-- ---- the sums of a sound board fit their words, and those of no board
sound_up : (bs : Boards) → Sound bs → (k : ℕ) → 1 ≤ k → k ≤ length bs → turn_of bs k ≤ 2805 → UpSmall (node_of bs k)
unfolding node_of
sound_up bs s k h l t = let a = s k h l in record { up1 = a.Z1_small; up2 = a.Z2_small; up0 = Z0_small bs s k h l; up_turn = t }

none_up : UpSmall no_node
none_up =
    let nothing : AtMost 4095 (ohms 0 0) = record { r_most = lit≤ tt; x_most = lit≤ tt } in
    record { up1 = nothing; up2 = nothing; up0 = nothing; up_turn = lit≤ tt }

-- ---- the loop
module _ (net : List ℕ) where
  abbrev bs : Boards
  bs = boards_of net

  pub record Read (i : ℕ) (nodes : List Node) : Type 0 where
    pub to : i ≤ count net
    pub passed : Passed net i
    pub sound : Sound (take i bs)
    pub are : nodes ≡ table no_node (nodes_from bs 1 i)

  pub read_none : Read 0 (table no_node [])
  unfolding nodes_from
  read_none = record { to = omega arith; passed = passed_none net; sound = sound_none; are = refl }

  pub read_all : {i : ℕ} {nodes : List Node} → Read i nodes → count net ≤ i → records_refusal [] (records_of net) ≡ none
  read_all {i} r h = passed_all net i (omega (arith, r.to)) r.passed

  module _ (i : ℕ) (nodes : List Node) (h : i < count net) (read : Read i nodes) where
    abbrev pub before : Boards
    before = take i bs

    abbrev s : List ℕ
    s = bytes_of net i

    abbrev b : Board
    b = board_of s

    abbrev rest : Boards
    rest = drop (suc i) bs

    so_far : length before ≡ i
    so_far = length-take-le i bs (omega (arith, boards_count net))

    split : bs ≡ before ++ (b ∷ rest)
    split = all_boards net i h

    abbrev own : ℕ
    own = place_of b.label bs

    abbrev fed : ℕ
    fed = place_of b.feeder bs

    abbrev pub feeder : ℕ
    feeder = earlier (suc i) fed

    pub feeder_is : feeder ≡ place_of b.feeder before
    feeder_is = (λ j. earlier (suc (sym so_far j)) (place_of b.feeder (split j))) ∙ earlier_is before b rest b.feeder

    pub feeder_to : feeder ≤ i
    feeder_to = omega (arith, feeder_is, place_most b.feeder before, so_far)

    -- the feeder's node, off the table
    pub up_is : fed_by feeder nodes ≡ node_of before feeder
    unfolding fed_by
    up_is = go (dec_le 1 feeder)
      where
        go : Dec (1 ≤ feeder) → cond (eqb feeder 0) no_node (get_or nodes (feeder - 1) no_node) ≡ node_of before feeder
        go (yes p) =
            let e : 1 + (feeder - 1) ≡ feeder = omega arith in
            let g = feeder_to in
            rw (ne_eqb feeder 0 (λ z. omega arith))
            (ap (λ (l : List Node). get_or l (feeder - 1) no_node) read.are ∙ table_at no_node (nodes_from bs 1 i) (feeder - 1) no_node (omega (arith, nodes_length bs 1 i))
            ∙ nodes_at no_node bs 1 i (feeder - 1) (omega arith)
            ∙ ap (node_of bs) e
            ∙ ap (λ (l : Boards). node_of l feeder) split
            ∙ node_before before (b ∷ rest) feeder (omega (arith, so_far)))
        go (no f) = let e : feeder ≡ 0 = omega arith in rw (eq-eqb feeder 0 e) (sym (node_none before) ∙ ap (node_of before) (sym e))

    -- the feeder is sound, or there is none
    pub up_small : (up : Node) → count net ≤ 256 → up ≡ node_of before feeder → UpSmall up
    up_small up few e = subst UpSmall (sym e) (go (dec_le 1 feeder))
      where
        go : Dec (1 ≤ feeder) → UpSmall (node_of before feeder)
        go (yes p) =
            let f = feeder_to in
            sound_up before read.sound feeder p (omega (arith, so_far)) (omega (arith, turn_small before read.sound feeder (omega (arith, so_far))))
        go (no f) =
            let e : 0 ≡ feeder = omega arith in
            subst UpSmall (sym (node_none before) ∙ ap (node_of before) e) none_up

    -- ---- this record's step
    abbrev stepped : Node → Result Node Rule
    stepped up = step_of (suc i) (mark_of s) b own fed up

    abbrev refusal_of : ℕ → Refusal
    refusal_of n = record { part = the_record (suc i); place = suc i; number = n }

    -- the paper's rules speak of the boards before, this record and the rest
    broken_is : broken (suc (length before)) (mark_of s) b (place_of b.label (before ++ (b ∷ rest))) (place_of b.feeder (before ++ (b ∷ rest))) ≡ broken (suc i) (mark_of s) b own fed
    broken_is = λ j. broken (suc (so_far j)) (mark_of s) b (place_of b.label (sym split j)) (place_of b.feeder (sym split j))

    at_place : {n : ℕ} → first (record_rows before s) ≡ some (record { part = the_record (suc (length before)); place = suc (length before); number = n }) → records_refusal [] (records_of net) ≡ some (refusal_of n)
    at_place {n} e = passed_refused net i h read.passed (e ∙ ap (λ (m : ℕ). some (record { part = the_record (suc m); place = suc m; number = n })) so_far)

    module _ (few : count net ≤ 256) (up : Node) (up_right : up ≡ node_of before feeder) where
      abbrev node : Node
      node = node_from (suc i) b feeder up

      abbrev m : ℕ
      m = broken (suc i) (mark_of s) b own fed

      -- with 5 to 10 and 21 kept, the record is as the paper has it behind those before
      module _ (e : m ≡ 0) where
        k : Kept (suc (length before)) (mark_of s) b (place_of b.label (before ++ (b ∷ rest))) (place_of b.feeder (before ++ (b ∷ rest)))
        k = all_kept (suc (length before)) (mark_of s) b (place_of b.label (before ++ (b ∷ rest))) (place_of b.feeder (before ++ (b ∷ rest))) (broken_is ∙ e)

        fits_alone : Fit (suc (length before)) b
        fits_alone = fit (suc (length before)) b k.label_kept k.kind_kept k.impedance_kept

        fed_right : feeder_wrong before b ≡ false
        fed_right = sym (fed_test before b rest) ∙ k.fed_kept

        node_behind : (l : Boards) → node ≡ node_of (before ++ (b ∷ l)) (suc (length before))
        node_behind l =
            (λ j. node_from (suc (sym so_far j)) b feeder (up_right j)) ∙ (λ j. node_from (suc (length before)) b (feeder_is j) (node_of before (feeder_is j)))
            ∙ node_next before b l (λ t. going_on before b fits_alone fed_right)

        node_is : node ≡ node_of bs (suc i)
        node_is = node_behind rest ∙ (λ j. node_of (sym split j) (suc (so_far j)))

        sums_are : sum_wrong (before ++ (b ∷ [])) (suc (length before)) ≡ node_over node
        unfolding node_over node_of
        sums_are = sum_wrong_is (before ++ (b ∷ [])) (length before) ∙ ap node_over (sym (node_behind []))

      -- kept, it is sound behind those before
      passes : (e : m ≡ 0) → node_over node ≡ false → Read (suc i) (set nodes i node)
      passes e v =
          record {
            to = h;
            passed = passed_next net i h read.passed (record_passes before s rest (broken_is ∙ e) (sums_are e ∙ v));
            sound = subst Sound (sym (before_next net i h)) (sound_next before b read.sound tested_here);
            are = ap (λ (l : List Node). set l i node) read.are ∙ stored;
          }
        where
          tested_here : Tested before b
          tested_here =
              record {
                own = fits_alone e;
                unused = eqb-true (place_of b.label before) 0 (sym (own_test before s rest) ∙ eq-eqb _ _ (k e).own_kept);
                feeder = fed_right e;
                sums = sums_are e ∙ v;
              }

          xs : List Node
          xs = nodes_from bs 1 i

          n : length xs ≡ i
          n = nodes_length bs 1 i

          next_place : suc i ≡ 1 + i
          next_place = omega arith

          stored : set (table no_node xs) i node ≡ table no_node (nodes_from bs 1 (suc i))
          stored =
              ap (λ (m : ℕ). set (table no_node xs) m node) (sym n) ∙ table_put no_node xs node (omega (arith, n, few))
              ∙ ap (λ (x : Node). table no_node (xs ++ (x ∷ []))) (node_is e ∙ ap (node_of bs) next_place)
              ∙ ap (table no_node) (sym (nodes_next bs 1 i))

      -- ---- the two ways on: a rule refuses the network, a node goes on
      kept_step : m ≡ 0 → stepped up ≡ unless (cond (node_over node) 11 0) node
      unfolding step_of
      kept_step e = rw (eq-eqb m 0 e)

      broken_step : (m ≡ 0 → ⊥) → stepped up ≡ unless m node
      unfolding step_of
      broken_step f = rw (ne_eqb m 0 f)

      pub step_refused : {rule : Rule} → stepped up ≡ Err rule → records_refusal [] (records_of net) ≡ some (refusal_of (the_number rule))
      unfolding rule_of
      step_refused {rule} q = go (dec_le 1 m)
        where
          over : m ≡ 0 → (c : Bool) → node_over node ≡ c → unless (cond c 11 0) node ≡ Err rule → records_refusal [] (records_of net) ≡ some (refusal_of (the_number rule))
          over e true v w = at_place (record_over before s rest (broken_is ∙ e) (sums_are e ∙ v)) ∙ ap (λ (k : Rule). some (refusal_of (the_number k))) (broken_by 11 node w).1
          over e false v w = let n = (broken_by 0 node w).0 in absurd (omega arith)

          go : Dec (1 ≤ m) → records_refusal [] (records_of net) ≡ some (refusal_of (the_number rule))
          go (yes p) =
              let named : rule_of m ≡ rule = (broken_by m node (sym (broken_step (λ z. omega arith)) ∙ q)).1 in
              at_place (record_broken before s rest m p broken_is)
              ∙ ap (λ (k : ℕ). some (refusal_of k)) (sym (broken_named (suc i) (mark_of s) b own fed p))
              ∙ ap (λ (k : Rule). some (refusal_of (the_number k))) named
          go (no f) = let e : m ≡ 0 = omega arith in over e (node_over node) refl (sym (kept_step e) ∙ q)

      pub step_passes : {n : Node} → stepped up ≡ Ok n → Read (suc i) (set nodes i n)
      step_passes {n} q = go (dec_le 1 m)
        where
          fits : m ≡ 0 → (c : Bool) → node_over node ≡ c → unless (cond c 11 0) node ≡ Ok n → Read (suc i) (set nodes i n)
          fits e true v w = let z = (kept_by 11 node w).0 in absurd (omega arith)
          fits e false v w = subst (λ (k : Node). Read (suc i) (set nodes i k)) (kept_by 0 node w).1 (passes e v)

          go : Dec (1 ≤ m) → Read (suc i) (set nodes i n)
          go (yes p) = let z = (kept_by m node (sym (broken_step (λ z. omega arith)) ∙ q)).0 in absurd (omega arith)
          go (no f) = let e : m ≡ 0 = omega arith in fits e (node_over node) refl (sym (kept_step e) ∙ q)
