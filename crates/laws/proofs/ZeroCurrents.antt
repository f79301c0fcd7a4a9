-- Currents of zero sequence: in the tree of the parts, each record under the board that it is tied to, Kirchhoff's law and `blocked` leave the fault's current open, and nothing goes to earth where there is no earth
-- return. Whatever it is else, they hold. Assumes nothing.
use mathlib.Core.Bool.{Bool, true, false}
use mathlib.Core.Path.{◌≡◌, refl, sym, ◌∙◌, ap}
use Prim.Native.Nat.{ℕ, suc, ◌≤◌}
use native.Mathlib.Omega.{arith}
use lib.Dec.{eqb}
use lib.ListN.{length}
use borrow.Author.Tests.{ne_eqb}
use Rattle.turn.specs.declared.Num.{Num}
use Rattle.turn.specs.Number.{◌+N◌}
use Rattle.paper.specs.Bytes.{one_of}
use Rattle.paper.specs.Kind.{Zero, starts, goes_on, none}
use Rattle.paper.specs.Chain.{feeder_of, zero_of, tied, tie, part_chain, part_head, is_none, unearthed, zero_chain}
use Rattle.paper.specs.Fault.{nil_n}
use Rattle.paper.specs.Phase.{Asked, only_if}
use Rattle.follows.proofs.Parts.{part_tree, head_on, head_between, head_head, earth_same, zero_earthed, is_blocked}
use Rattle.laws.specs.Values.{Values, Everywhere}
use Rattle.laws.specs.Laws.{drawn_from, Kirchhoff, draws0}
use Rattle.laws.proofs.Sums.{only_there, only_gone, only_nil, sum_same}
use Rattle.laws.proofs.Flows.{carries, carried_keeps}
use Rattle.laws.proofs.Fair.{Fair}
use Rattle.laws.proofs.Form.{places}
use Rattle.laws.proofs.JoinedBoards.{off_zero}

module _ (a : Asked) (fair : Fair a) (v : Values) where
  open a use {boards, k}
  open v use {I, F}

  abbrev n : ℕ
  n = length boards

  abbrev C : ℕ → Num
  C r = (I r).s0

  abbrev F0 : Num
  F0 = F.s0

  abbrev Blocked : Type 0
  Blocked = Everywhere a (λ r. unearthed boards r ≡ true → C r ≡ nil_n)

  abbrev Kirchhoff0 : Type 0
  Kirchhoff0 = Everywhere a (Kirchhoff (feeder_of boards) n k C (λ r. draws0 (zero_of boards r) (C r)) F0)

  -- on the list of k's part, and on k's zero chain
  abbrev InPart : Type 0
  InPart = Everywhere a (λ r. C r ≡ only_if (one_of r (part_chain boards k)) F0)

  abbrev Carried : Type 0
  Carried = Everywhere a (λ r. C r ≡ only_if (one_of r (zero_chain boards k)) F0)

  abbrev pub NoOut : Type 0
  NoOut = unearthed boards k ≡ true → F0 ≡ nil_n

  -- ---- what is drawn from a board, by the kind table and in the tree, where nothing passes that blocks
  drawn : Blocked → (b : ℕ) → 1 ≤ b → drawn_from (feeder_of boards) n (λ r. draws0 (zero_of boards r) (C r)) b ≡ drawn_from (tie boards) n C b
  unfolding tie tied is_none
  drawn stops b h = sum_same n _ _ (places _ (λ q l. go q l (zero_of boards (suc q)) refl))
    where
      go : (q : ℕ) → suc q ≤ n → (z : Zero) → zero_of boards (suc q) ≡ z → only_if (eqb (feeder_of boards (suc q)) b) (draws0 z (C (suc q))) ≡ only_if (eqb (tied z (feeder_of boards (suc q))) b) (C (suc q))
      go q l (starts t) e = only_nil (eqb (feeder_of boards (suc q)) b) refl ∙ sym (only_gone (C (suc q)) (ne_eqb 0 b (omega arith)))
      go q l (goes_on t) e = refl
      go q l none e =
          let s = stops (suc q) (omega arith) l (ap is_none (is_blocked boards q e).zero_earth) in
          only_nil (eqb (feeder_of boards (suc q)) b) s ∙ sym (only_nil (eqb 0 b) s)

  carries_part : Kirchhoff0 → Blocked → InPart
  carries_part law stops = carries (part_tree boards) C n k fair.k_to F0 (λ b m l. law b m l ∙ ap (λ t. t +N only_if (eqb b k) F0) (drawn stops b m))

  -- ---- the head of k's part would carry what goes out at k, and where there is no earth return it carries nothing
  pub nothing_out : Kirchhoff0 → Blocked → NoOut
  nothing_out law stops u =
      let k1 = fair.k_from in
      let kn = fair.k_to in
      let h = part_head boards k in
      let w = head_between boards k k1 in
      sym (only_there F0 (head_on boards k k1)) ∙ sym (carries_part law stops h w.0 (omega arith)) ∙ stops h w.0 (omega arith) (ap is_none (earth_same boards h k (head_head boards k k1)) ∙ u)

  -- so the list of its part may stand for its zero chain
  same_carried : NoOut → (r : ℕ) → only_if (one_of r (part_chain boards k)) F0 ≡ only_if (one_of r (zero_chain boards k)) F0
  same_carried out r = go (unearthed boards k) refl
    where
      go : (u : Bool) → unearthed boards k ≡ u → only_if (one_of r (part_chain boards k)) F0 ≡ only_if (one_of r (zero_chain boards k)) F0
      go true u = only_nil (one_of r (part_chain boards k)) (out u) ∙ sym (only_nil (one_of r (zero_chain boards k)) (out u))
      go false u = ap (λ l. only_if (one_of r l) F0) (sym (zero_earthed boards k u))

  -- ---- the laws force the currents
  pub carries_zero : Kirchhoff0 → Blocked → Carried
  carries_zero law stops r m l = carries_part law stops r m l ∙ same_carried (nothing_out law stops) r

  -- ---- and these currents keep them
  pub blocks : Carried → Blocked
  blocks on r m l u = on r m l ∙ only_gone F0 (off_zero boards r k u)

  pub in_part_lem : Carried → NoOut → InPart
  in_part_lem on out r m l = on r m l ∙ sym (same_carried out r)

  pub carried_keeps_zero : Carried → NoOut → Kirchhoff0
  carried_keeps_zero on out b m l = carried_keeps (part_tree boards) C n k fair.k_to F0 (in_part_lem on out) b m l ∙ ap (λ t. t +N only_if (eqb b k) F0) (sym (drawn (blocks on) b m))
