-- Voltages of zero sequence: in the tree of the parts, Ohm's law and the premise leave open one voltage for all of the fault's part, the lift, and that only where R-2 frees it. Whatever it is, they hold. Assumes nothing.
use mathlib.Core.Bool.{Bool, true, false, ◌&&◌, and-false}
use mathlib.Core.Path.{◌≡◌, refl, sym, ◌∙◌, ap, ap₂}
use Prim.Native.Nat.{ℕ, zero, suc, ◌≤◌}
use native.Mathlib.Omega.{arith}
use lib.Dec.{eqb}
use lib.IntN.{ℤ, pos}
use lib.ListN.{length}
use Rattle.lemmas.proofs.Bools.{untrue, not_both}
use Rattle.lemmas.proofs.Ring.{mul_zer}
use Rattle.lemmas.proofs.Solver.{con, ◌⊕◌, ◌⊗◌, ◌⊖◌, ⊝◌}
use Rattle.lemmas.proofs.Solve.{solve}
use Rattle.turn.specs.declared.Num.{Num}
use Rattle.turn.specs.Number.{◌+N◌, neg_n, ◌-N◌, ◌*N◌}
use Rattle.turn.proofs.Ring.{Nring, +N_zero}
use Rattle.paper.specs.declared.Ohms.{Ohms}
use Rattle.paper.specs.Bytes.{one_of}
use Rattle.paper.specs.Kind.{Term, Zero, starts, goes_on, none, term, zero_term}
use Rattle.paper.specs.Chain.{board, feeder_of, zero_of, tied, tie, part_chain, part_head, joined, is_none, unearthed, zero_chain, sumΩ, common, term0, shared0}
use Rattle.paper.specs.Fault.{nil_n, num_of}
use Rattle.paper.specs.Phase.{Asked, only_if}
use Rattle.follows.proofs.Parts.{part_tree, head_tied, head_between, head_head, earth_same, is_starts, is_blocked}
use Rattle.follows.proofs.Shared.{shared_apart}
use Rattle.laws.specs.Values.{Values, Everywhere}
use Rattle.laws.specs.Laws.{above, Ohm0, Laws, lifts, Quiet}
use Rattle.laws.proofs.Sums.{only_there, only_gone, only_nil}
use Rattle.laws.proofs.Drops.{over, OhmAt, left, left_keeps}
use Rattle.laws.proofs.Fair.{Fair}
use Rattle.laws.proofs.Form.{Open, places}
use Rattle.laws.proofs.JoinedBoards.{joined_head, apart_head, joined_earth, shared_part, goes_on_fed}
use Rattle.laws.proofs.ZeroCurrents.{NoOut, nothing_out, carries_zero, in_part_lem}

module _ (a : Asked) (fair : Fair a) (E : ℤ) (v : Values) where
  open a use {boards, k}
  open v use {W, I, F}

  abbrev n : ℕ
  n = length boards

  abbrev C : ℕ → Num
  C r = (I r).s0

  abbrev U : ℕ → Num
  U r = (W r).s0

  abbrev F0 : Num
  F0 = F.s0

  -- what j and k share by the lists of their parts, times the fault's current, is what they share at all: without earth return there is no current
  abbrev in_part : ℕ → Ohms
  in_part j = sumΩ (term0 boards) (common (part_chain boards j) (part_chain boards k))

  same_fall : NoOut a fair v → (j : ℕ) → num_of (in_part j) *N F0 ≡ num_of (shared0 boards j k) *N F0
  same_fall out j = go (unearthed boards k) refl
    where
      nothing : unearthed boards k ≡ true → (z : Ohms) → num_of z *N F0 ≡ nil_n
      nothing u z = ap (λ f. num_of z *N f) (out u) ∙ mul_zer Nring (num_of z)

      go : (u : Bool) → unearthed boards k ≡ u → num_of (in_part j) *N F0 ≡ num_of (shared0 boards j k) *N F0
      go true u = nothing u (in_part j) ∙ sym (nothing u (shared0 boards j k))
      go false u = ap (λ z. num_of z *N F0) (shared_part boards j k u)

  -- ---- above the fault's part stands the lift, above any other nothing
  module _ (up : Num) where
    abbrev top : ℕ → Num
    top r = only_if (joined boards r k) up

    same_top : (q : ℕ) → 1 ≤ tie boards (suc q) → top (suc q) ≡ top (tie boards (suc q))
    unfolding joined
    same_top q m = ap (λ h. only_if (eqb h (part_head boards k)) up) (head_tied boards q m)

    abbrev Unlifted : Type 0
    Unlifted = unearthed boards k ≡ false → up ≡ nil_n

    -- a part whose head starts has nothing above it
    nothing_above : Unlifted → (q : ℕ) (t : Term) → zero_of boards (suc q) ≡ starts t → top (suc q) ≡ nil_n
    unfolding is_none
    nothing_above un q t e = go (joined boards (suc q) k) refl
      where
        go : (c : Bool) → joined boards (suc q) k ≡ c → top (suc q) ≡ nil_n
        go false c = only_gone up c
        go true c = only_nil (joined boards (suc q) k) (un (joined_earth boards (suc q) k c (ap is_none (is_starts boards q e).zero_earth)))

    -- what Ohm's law says that W0 is, by the kind table; where the table ties nothing, what stands above the part
    abbrev by_table : Zero → ℕ → Num
    by_table (starts t) r = nil_n -N num_of (term t (board boards r)) *N C r
    by_table (goes_on t) r = (above a E v (feeder_of boards r)).s0 -N num_of (term t (board boards r)) *N C r
    by_table none r = top r

    -- in the tree it says the same
    in_tree : Unlifted → (q : ℕ) → suc q ≤ n → over U top (suc q) (tie boards (suc q)) -N num_of (term0 boards (suc q)) *N C (suc q) ≡ by_table (zero_of boards (suc q)) (suc q)
    unfolding tie tied zero_term num_of
    in_tree un q l = go (zero_of boards (suc q)) refl
      where
        fed : (f : ℕ) → 1 ≤ f → over U top (suc q) f ≡ (above a E v f).s0
        fed zero m = absurd (omega arith)
        fed (suc f) m = refl

        go : (z : Zero) → zero_of boards (suc q) ≡ z → over U top (suc q) (tied z (feeder_of boards (suc q))) -N num_of (zero_term z (board boards (suc q))) *N C (suc q) ≡ by_table z (suc q)
        go (starts t) e = ap (λ u. u -N num_of (term t (board boards (suc q))) *N C (suc q)) (nothing_above un q t e)
        go (goes_on t) e = ap (λ u. u -N num_of (term t (board boards (suc q))) *N C (suc q)) (fed (feeder_of boards (suc q)) (goes_on_fed boards fair.sound q t l e))
        go none e = solve Nring 2 (λ u c. u ⊖ con (pos 0) ⊗ c) (λ u c. u) tt (top (suc q)) (C (suc q))

    abbrev OhmHolds : Type 0
    OhmHolds = Everywhere a (λ r. Ohm0 a E v (zero_of boards r) r)

    abbrev Left : Type 0
    Left = Everywhere a (λ j. U j ≡ neg_n (num_of (shared0 boards j k) *N F0) +N top j)

    module _ (on : Everywhere a (λ r. C r ≡ only_if (one_of r (zero_chain boards k)) F0)) (out : NoOut a fair v) (un : Unlifted) where
      abbrev InTree : Type 0
      InTree = (q : ℕ) → suc q ≤ n → OhmAt (part_tree boards) (term0 boards) n U C top same_top (suc q)

      turned : (j : ℕ) → top j -N num_of (in_part j) *N F0 ≡ neg_n (num_of (shared0 boards j k) *N F0) +N top j
      turned j = ap (λ x. top j -N x) (same_fall out j) ∙ solve Nring 2 (λ t x. t ⊖ x) (λ t x. (⊝ x) ⊕ t) tt (top j) (num_of (shared0 boards j k) *N F0)

      -- ---- the law forces the voltages, where each head that blocks has the voltage that stands above its part
      left_zero : OhmHolds → ((q : ℕ) → suc q ≤ n → zero_of boards (suc q) ≡ none → U (suc q) ≡ top (suc q)) → Left
      left_zero ohm heads j m l = left (part_tree boards) (term0 boards) n U C top same_top (part_chain boards k) F0 (in_part_lem a fair v on out) tree j m l ∙ turned j
        where
          by : (q : ℕ) → suc q ≤ n → (z : Zero) → zero_of boards (suc q) ≡ z → Ohm0 a E v z (suc q) → U (suc q) ≡ by_table z (suc q)
          by q l (starts t) e o = o
          by q l (goes_on t) e o = o
          by q l none e o = heads q l e

          tree : InTree
          tree q l = by q l (zero_of boards (suc q)) refl (ohm (suc q) (omega arith) l) ∙ sym (in_tree un q l)

      -- ---- and these voltages keep it
      pub left_keeps_zero : Left → OhmHolds
      left_keeps_zero h = places _ (λ q l. by q (zero_of boards (suc q)) (tree q l ∙ in_tree un q l))
        where
          by : (q : ℕ) (z : Zero) → U (suc q) ≡ by_table z (suc q) → Ohm0 a E v z (suc q)
          by q (starts t) o = o
          by q (goes_on t) o = o
          by q none o = tt

          tree : InTree
          tree = left_keeps (part_tree boards) (term0 boards) n U C top same_top (part_chain boards k) F0 (in_part_lem a fair v on out) (λ j m l. h j m l ∙ sym (turned j))

  -- ---- by the premise the lift is the voltage of the head of k's part, and 0 unless R-2 frees it
  abbrev pub lifted_to : Num
  lifted_to = only_if (unearthed boards k) (U (part_head boards k))

  pub quiet_lift : Quiet a v → lifts a ≡ false → lifted_to ≡ nil_n
  quiet_lift quiet h = go (unearthed boards k) refl
    where
      go : (u : Bool) → unearthed boards k ≡ u → lifted_to ≡ nil_n
      go false u = only_gone (U (part_head boards k)) u
      go true u =
          let head = part_head boards k in
          let w = head_between boards k fair.k_from in
          let kn = fair.k_to in
          only_nil (unearthed boards k) (quiet head w.0 (omega arith) (ap is_none (earth_same boards head k (head_head boards k fair.k_from)) ∙ u) (rw h refl))

  -- a head that blocks is k's own, or the premise speaks of it
  quiet_heads : Quiet a v → (q : ℕ) → suc q ≤ n → zero_of boards (suc q) ≡ none → U (suc q) ≡ top lifted_to (suc q)
  unfolding is_none
  quiet_heads quiet q l e = go (joined boards (suc q) k) refl
    where
      blocked : unearthed boards (suc q) ≡ true
      blocked = ap is_none (is_blocked boards q e).zero_earth

      go : (c : Bool) → joined boards (suc q) k ≡ c → U (suc q) ≡ top lifted_to (suc q)
      go true c =
          ap U (sym (is_blocked boards q e).zero_head ∙ joined_head boards (suc q) k c)
          ∙ sym (only_there lifted_to c ∙ only_there (U (part_head boards k)) (joined_earth boards (suc q) k c blocked))
      go false c = quiet (suc q) (omega arith) l blocked (rw c (and-false (lifts a))) ∙ sym (only_gone lifted_to c)

  pub voltages_zero : Laws a E v → Quiet a v → Everywhere a (λ j. U j ≡ neg_n (num_of (shared0 boards j k) *N F0) +N only_if (joined boards j k) lifted_to)
  voltages_zero laws quiet =
      left_zero lifted_to (carries_zero a fair v laws.kirchhoff0 laws.blocked) (nothing_out a fair v laws.kirchhoff0 laws.blocked) (only_gone (U (part_head boards k))) laws.ohm0 (quiet_heads quiet)

  -- ---- and voltages of that form keep the premise
  pub quiet_zero : (up : Num) → Open a F up → Left up → Quiet a v
  unfolding num_of
  quiet_zero up free h r m l u premise = h r m l ∙ (λ i. nothing_shared (joined boards r k) refl i +N not_lifted (joined boards r k) refl i) ∙ +N_zero nil_n
    where
      nothing_shared : (c : Bool) → joined boards r k ≡ c → neg_n (num_of (shared0 boards r k) *N F0) ≡ nil_n
      nothing_shared true c = ap (λ f. neg_n (num_of (shared0 boards r k) *N f)) (free.no_out (joined_earth boards r k c u)) ∙ solve Nring 1 (λ z. ⊝ (z ⊗ con (pos 0))) (λ z. con (pos 0)) tt (num_of (shared0 boards r k))
      nothing_shared false c = ap (λ z. neg_n (num_of z *N F0)) (shared_apart boards k r (apart_head boards r k c)) ∙ solve Nring 1 (λ f. ⊝ (con (pos 0) ⊗ f)) (λ f. con (pos 0)) tt F0

      not_lifted : (c : Bool) → joined boards r k ≡ c → top up r ≡ nil_n
      not_lifted true c = only_nil (joined boards r k) (free.no_lift (untrue (lifts a) (λ t. not_both (ap₂ (λ x y. x && y) t c) premise)))
      not_lifted false c = only_gone up c
