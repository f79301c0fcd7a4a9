-- The whole answer, of a question that was posed. Assumes nothing.
use mathlib.Core.Bool.{Bool, true, false, not}
use mathlib.Core.List.{List, ◌++◌}
use mathlib.Core.Path.{◌≡◌, refl, sym, ◌∙◌, ap, subst}
use Prim.Native.Nat.{ℕ, zero, suc, ◌+◌, ◌*◌, ◌-◌, ◌≤◌}
use native.Mathlib.Decide.{dec_le}
use native.Mathlib.Omega.{arith}
use borrow.Rule.Slice.PartMut.{put_mid}
use lib.Dec.{lit≤}
use lib.IntN.{ℤ, pos, nat_abs}
use lib.ListN.{length, get_or, replicate}
use lib.Seq.{get_or-append-add}
use mir.Syntax.{w64}
use mir.Val.{SFits}
use Rattle.lemmas.specs.Over.{over}
use mir.Facts.{to_z-of_z}
use Rattle.lemmas.proofs.Words.{kept, sfits}
use Rattle.lemmas.proofs.Over.{put_over, over_then, over_length}
use Rattle.root.specs.Root.{Root}
use Rattle.paper.specs.declared.Head.{Head}
use Rattle.paper.specs.declared.Fault.{Fault}
use Rattle.paper.specs.Bounds.{AtMost}
use Rattle.paper.specs.Chain.{unearthed}
use Rattle.paper.specs.Phase.{Asked, the_d, phases, fault_currents}
use Rattle.paper.specs.Amps.{amps, factor}
use Rattle.paper.specs.Answer.{flat, numbers, of_boards}
use Rattle.follows.proofs.Chain.{feeder_earlier}
use Rattle.node.specs.declared.Node.{Node}
use Rattle.node.specs.Node.{node_of, no_node}
use Rattle.node.specs.Tables.{table, nodes_of}
use Rattle.node.proofs.Tables.{nodes_length, in_table}
use Rattle.amps.specs.Positive.{Positive}
use Rattle.amps.proofs.Asked.{the_d_positive, amps_are}
use Rattle.chain.specs.Marked.{FromEarlier, marks_of}
use Rattle.board.specs.declared.front.Faulted.{Faulted}
use Rattle.board.specs.Faulted.{faulted_from, top_of}
use Rattle.answer.specs.Passing.{Passing}
use Rattle.answer.specs.Posed.{Posed}
use Rattle.answer.proofs.Boards.{here, faulted_is, fault_small}

-- ---- nodes in their table
module _ (q : Asked) where
  open q use {boards}

  abbrev nodes : List Node
  nodes = table no_node (nodes_of boards)

  nothing_there : (n i : ℕ) → get_or (replicate n no_node) i no_node ≡ no_node
  nothing_there zero i = refl
  nothing_there (suc n) zero = refl
  nothing_there (suc n) (suc i) = nothing_there n i

  past_table : (i : ℕ) → length boards ≤ i → get_or nodes i no_node ≡ no_node
  unfolding table
  past_table i h =
      let m = nodes_length boards 1 (length boards) in
      let e : i ≡ length (nodes_of boards) + (i - length (nodes_of boards)) = omega arith in
      ap (λ (k : ℕ). get_or nodes k no_node) e ∙ get_or-append-add (nodes_of boards) (replicate (256 - length (nodes_of boards)) no_node) (i - length (nodes_of boards)) no_node
      ∙ nothing_there (256 - length (nodes_of boards)) (i - length (nodes_of boards))

  pub all_earlier : FromEarlier nodes
  unfolding node_of
  all_earlier = record { earlier = λ i. go i (dec_le (suc i) (length boards)) }
    where
      go : (i : ℕ) → Dec (suc i ≤ length boards) → (get_or nodes i no_node).feeder ≤ i
      go i (yes h) = let e = ap (λ (n : Node). n.feeder) (in_table boards i h) in omega (arith, feeder_earlier boards i)
      go i (no h) = let e = ap (λ (n : Node). n.feeder) (past_table i (omega arith)) in omega arith

-- ---- D and the fault's currents in front
top_length : (g : Faulted) → length (top_of g) ≡ 13
unfolding top_of phases flat
top_length g = refl

pub room_stays : (g : Faulted) (out : List ℤ) {part : List ℤ} → part ≡ top_of g → 13 ≤ length out → length (put_mid 0 13 out part) ≡ length out
room_stays g out {part} e h = ap length (put_over 0 13 out part (top_of g) e (sym (top_length g))) ∙ over_length (pos 0) 0 (top_of g) out (omega (arith, top_length g))

-- ---- what was posed
module _ {q : Asked} {h : Head} {ns : List Node} {f : Fault} {k : ℕ} (p : Posed q h ns f k) where
  pub earlier_all : FromEarlier ns
  earlier_all = subst FromEarlier (sym p.nodes_are) (all_earlier q)

  -- D and the currents in front, and the boards behind them
  pub whole : {g : Faulted} (out : List ℤ) {part out' : List ℤ} {n : ℕ} → n ≡ h.boards → g ≡ faulted_from (node_of q.boards q.k) q.fault → part ≡ top_of g → out' ≡ over 13 (of_boards q 1 n) (put_mid 0 13 out part) → out' ≡ over 0 (numbers q) out
  unfolding top_of numbers fault_currents phases flat
  whole {g} out {part} {n = n} c e t w =
      let top = top_of (here q p.ready) in
      let m : n ≡ length q.boards = c ∙ ap (λ (x : Head). x.boards) p.same_head ∙ p.ready.count in
      w ∙ ap (over 13 (of_boards q 1 n)) (put_over 0 13 out part top (t ∙ ap top_of (e ∙ faulted_is q p.ready)) refl) ∙ over_then 0 top (of_boards q 1 n) out (omega arith)
      ∙ ap (λ (i : ℕ). over 0 (top ++ of_boards q 1 i) out) m

  -- ---- what the calls ask
  pub k_in : (1 ≤ k) × (k ≤ 256)
  k_in =
      let a = p.ready.k_from in
      let b = p.ready.k_to in
      let c = p.ready.few in
      let d = p.same_place in
      (omega arith, omega arith)

  pub volts_in : (h.volts ≤ 1000) × (1 ≤ h.unit)
  volts_in = subst (λ (x : Head). (x.volts ≤ 1000) × (1 ≤ x.unit)) (sym p.same_head) (p.ready.volts_to, p.ready.unit_from)

  -- ---- the faulted board's node, off its row
  module _ {at : Node} (a : at ≡ get_or ns (k - 1) no_node) where
    at_is : at ≡ node_of q.boards q.k
    at_is =
        let b = p.ready.k_from in
        let c = p.ready.k_to in
        let d = p.same_place in
        let e : suc (k - 1) ≡ q.k = omega arith in
        a ∙ ap (λ (l : List Node). get_or l (k - 1) no_node) p.nodes_are ∙ in_table q.boards (k - 1) (omega arith) ∙ ap (node_of q.boards) e

    pub in_range : (AtMost 4095 at.z1) × (AtMost 4095 at.z2) × (AtMost 4095 at.z0) × (AtMost 1365 f.zf)
    unfolding node_of
    in_range =
        let s = p.ready.sums_in q.k p.ready.k_from p.ready.k_to in
        (rw at_is s.sum1, rw at_is s.sum2, rw at_is s.sum0, subst (λ (x : Fault). AtMost 1365 x.zf) (sym p.same_fault) p.ready.zf_in)

    pub faulted_good : {g : Faulted} → g ≡ faulted_from at f → g ≡ faulted_from (node_of q.boards q.k) q.fault
    faulted_good e = e ∙ (λ i. faulted_from (at_is i) (p.same_fault i))

    pub passing : {g : Faulted} {on : List Bool} {n : ℕ} → n ≡ h.boards → g ≡ faulted_from at f → on ≡ marks_of ns k → Passing q ns n on g
    passing e b c =
        record {
          ready = p.ready;
          nodes_are = p.nodes_are;
          all = e ∙ ap (λ (x : Head). x.boards) p.same_head ∙ p.ready.count;
          marks_are = c ∙ ap (marks_of ns) p.same_place;
          faulted_is = faulted_good b;
        }

    d_is : {g : Faulted} → g ≡ faulted_from at f → g.d ≡ the_d q
    d_is e = ap (λ (x : Faulted). x.d) (faulted_good e ∙ faulted_is q p.ready)

    pub d_fits : {g : Faulted} → g ≡ faulted_from at f → SFits w64 g.d
    d_fits e = sfits (fault_small q p.ready (faulted_good e)).d_small (lit≤ tt)

    -- so its word is itself
    pub d_good : {g : Faulted} → g ≡ faulted_from at f → kept g.d ≡ g.d
    d_good {g} e = to_z-of_z {w = w64} {z = g.d} (d_fits e)

    pub d_positive : {g : Faulted} {d : ℤ} → d ≡ g.d → g ≡ faulted_from at f → Positive d
    d_positive c e = subst Positive (sym (c ∙ d_is e)) (the_d_positive q p.ready.Z1_there p.ready.Z2_there)

    -- ---- the amps
    abbrev root_of : Bool → Node → Fault → Head → ℤ → ℕ → Type 0
    root_of unearthed n x y d m = Root (factor unearthed n.z2 x.kind * ((y.volts * 1000000) * (y.volts * 1000000))) (nat_abs d * (y.unit * y.unit)) m

    -- the node says whether there is an earth return, the paper asks whether there is none
    no_return : (u : Bool) → not (not u) ≡ u
    no_return true = refl
    no_return false = refl

    pub amps_good : {g : Faulted} {d : ℤ} {earthed : Bool} (n : ℕ) → d ≡ g.d → earthed ≡ g.earthed → g ≡ faulted_from at f → root_of (not earthed) at f h d n → n ≡ amps q
    unfolding node_of
    amps_good {g} {d} {earthed} n c b e r =
        amps_are q p.ready.Z1_there p.ready.Z2_there (p.ready.sums_in q.k p.ready.k_from p.ready.k_to).sum2 p.ready.volts_to p.ready.unit_from n
        (subst (λ (x : ℤ). root_of un there q.fault q.head x n) (c ∙ d_is e) (subst (λ (x : Head). root_of un there q.fault x d n) p.same_head
        (subst (λ (x : Fault). root_of un there x h d n) p.same_fault (subst (λ (x : Node). root_of un x f h d n) at_is (subst (λ (x : Bool). root_of x at f h d n) return_is r)))))
      where
        there : Node
        there = node_of q.boards q.k

        un : Bool
        un = unearthed q.boards q.k

        return_is : not earthed ≡ un
        return_is = ap not (b ∙ ap (λ (x : Faulted). x.earthed) (faulted_good e ∙ faulted_is q p.ready)) ∙ no_return un

-- ---- two results and two buffers that the contract allows are equal, since there is a question
pub same_answer : {h : Head} {ns : List Node} {f : Fault} {k : ℕ} (q : Asked) → Posed q h ns f k → (n m : ℕ) → ((p : Asked) → Posed p h ns f k → n ≡ amps p) → ((p : Asked) → Posed p h ns f k → m ≡ amps p) → n ≡ m
same_answer q p n m a b = a q p ∙ sym (b q p)

pub same_buffer : {h : Head} {ns : List Node} {f : Fault} {k : ℕ} (q : Asked) → Posed q h ns f k → (out x y : List ℤ) → ((p : Asked) → Posed p h ns f k → x ≡ over 0 (numbers p) out)
    → ((p : Asked) → Posed p h ns f k → y ≡ over 0 (numbers p) out)
    → x ≡ y
same_buffer q p out x y a b = a q p ∙ sym (b q p)
