-- The premise is needed where R-2 leaves it: in a fault clear of earth a source without earth return may be lifted to any zero-sequence voltage and the laws still hold, so without the premise the answers are not alone.
-- Assumes nothing.
use mathlib.Core.Bool.{true, false, ◌&&◌}
use mathlib.Core.List.{List, [], ◌∷◌, ◌++◌}
use mathlib.Core.Path.{◌≡◌, refl, sym, ◌∙◌, ap, subst}
use Prim.Native.Nat.{ℕ, zero, suc, ◌*◌, ◌≤◌}
use native.Mathlib.Omega.{arith}
use lib.IntN.{ℤ, pos, nat_abs}
use lib.ListN.{length}
use Rattle.lemmas.proofs.Solver.{con, eqn, ◌⊕◌, ◌⊗◌, ◌⊖◌}
use Rattle.lemmas.proofs.Solve.{solve, solve_by}
use Rattle.turn.specs.declared.Num.{Num}
use Rattle.turn.specs.Number.{one_n, power_n, ◌+N◌, ◌-N◌, ◌*N◌, ◌·N◌}
use Rattle.turn.proofs.Ring.{Nring, whole_times}
use Rattle.turn.proofs.Cancel.{cancel_whole}
use Rattle.paper.specs.declared.Seq.{Seq}
use Rattle.paper.specs.Kind.{ohms, none}
use Rattle.paper.specs.Chain.{feeder_of, zero_of, joined, unearthed, term1, term2}
use Rattle.paper.specs.Fault.{nil_n, num_of, seq}
use Rattle.paper.specs.Phase.{Asked, asked, the_d, shows}
use Rattle.paper.specs.Answer.{verdict, paper}
use Rattle.paper.proofs.Typed.{head, bd, ft, typed_open}
use Rattle.laws.specs.Values.{Values, answers, SameValues}
use Rattle.laws.specs.Connection.{Condition, Connected}
use Rattle.laws.specs.Laws.{Ohm0, above, Laws, lifts}
use Rattle.laws.specs.Demand.{Only}
use Rattle.laws.proofs.Demand.{demand}

-- the same values, but for x as the zero-sequence voltage of every board
abbrev pub lifted : Num → Values → Values
lifted x v = record { W = λ r. seq (v.W r).s1 (v.W r).s2 x; I = v.I; F = v.F }

-- ---- the three phases rise by the same
module _ (p : ℕ) (w : Seq) (x : Num) where
  raised : (i : ℕ) → shows p 0 0 (seq w.s1 w.s2 x) i ≡ shows p 0 0 w i +N power_n (8 * p) *N (x -N w.s0)
  unfolding shows
  raised i =
      solve Nring 7 (λ u a b w1 w2 w0 x. u ⊗ (x ⊕ a ⊗ w1 ⊕ b ⊗ w2)) (λ u a b w1 w2 w0 x. u ⊗ (w0 ⊕ a ⊗ w1 ⊕ b ⊗ w2) ⊕ u ⊗ (x ⊖ w0)) tt (power_n (8 * p)) _ _ w.s1 w.s2 w.s0 x

  -- so voltages behind Zf that were the same stay so
  still_same : (i j : ℕ) (z a b : Num) → shows p 0 0 w i -N z *N a ≡ shows p 0 0 w j -N z *N b
      → shows p 0 0 (seq w.s1 w.s2 x) i -N z *N a ≡ shows p 0 0 (seq w.s1 w.s2 x) j -N z *N b
  still_same i j z a b h =
      ap (λ t. t -N z *N a) (raised i)
      ∙ solve_by Nring 6 (λ s t r z a b. eqn (con (pos 1)) (s ⊖ z ⊗ a) (t ⊖ z ⊗ b) ∷ []) (λ s t r z a b. (s ⊕ r) ⊖ z ⊗ a) (λ s t r z a b. (t ⊕ r) ⊖ z ⊗ b) tt _ _ _ z a b (h, tt)
      ∙ sym (ap (λ t. t -N z *N b) (raised j))

-- ---- where no record has zero sequence, and the fault is clear of earth
module _ (q : Asked) (E : ℤ) (v : Values) (x : Num) (no_zero : (r : ℕ) → 1 ≤ r → r ≤ length q.boards → zero_of q.boards r ≡ none) (clear : q.fault.kind ≡ 0) where
  open q use {boards, fault}

  same1 : (i : ℕ) → (above q E v i).s1 ≡ (above q E (lifted x v) i).s1
  same1 zero = refl
  same1 (suc i) = refl

  same2 : (i : ℕ) → (above q E v i).s2 ≡ (above q E (lifted x v) i).s2
  same2 zero = refl
  same2 (suc i) = refl

  pub still_lawful : Laws q E v → Laws q E (lifted x v)
  unfolding Connected Condition
  still_lawful laws =
      record {
        ohm1 = λ r h l. laws.ohm1 r h l ∙ ap (λ u. u -N num_of (term1 boards r) *N (v.I r).s1) (same1 (feeder_of boards r));
        ohm2 = λ r h l. laws.ohm2 r h l ∙ ap (λ u. u -N num_of (term2 boards r) *N (v.I r).s2) (same2 (feeder_of boards r));
        ohm0 = λ r h l. subst (λ z. Ohm0 q E (lifted x v) z r) (sym (no_zero r h l)) tt;
        kirchhoff1 = laws.kirchhoff1;
        kirchhoff2 = laws.kirchhoff2;
        kirchhoff0 = laws.kirchhoff0;
        blocked = laws.blocked;
        connected = subst (Condition fault ((lifted x v).W q.k) v.F) (sym clear) (still (subst (Condition fault (v.W q.k) v.F) clear laws.connected));
      }
    where
      still : Condition fault (v.W q.k) v.F 0 → Condition fault ((lifted x v).W q.k) v.F 0
      still c = (still_same fault.phase (v.W q.k) x 0 1 _ _ _ c.0, still_same fault.phase (v.W q.k) x 1 2 _ _ _ c.1, c.2)

-- ---- GEN of the figures with its star point lifted off earth (kind 1), and its three phases put together
unfoldable pub net : List ℕ
net = head 230 1000 1 ++ bd "GEN" "" 1 0 (ohms 0 20) (ohms 0 20) (ohms 0 0) (ohms 0 0)

unfoldable pub flt : List ℕ
flt = ft "GEN" 0 0 (ohms 0 0)

abbrev pub q : Asked
q = asked net flt

pub is_accepted : (verdict net flt 37).number ≡ 0
unfolding paper typed_open net flt
is_accepted = refl

one_board : length q.boards ≡ 1
unfolding paper typed_open net flt
one_board = refl

unearthed_there : unearthed q.boards 1 ≡ true
unfolding paper typed_open net flt
unearthed_there = refl

not_freed : (lifts q && joined q.boards 1 q.k) ≡ false
unfolding paper typed_open net flt lifts
not_freed = refl

none_there : zero_of q.boards 1 ≡ none
unfolding paper typed_open net flt
none_there = refl

clear_of_earth : q.fault.kind ≡ 0
unfolding paper typed_open net flt
clear_of_earth = refl

-- its answers, but for a zero-sequence voltage of 1
abbrev pub rival : Values
rival = lifted one_n (answers q)

pub obeys : Laws q (the_d q) rival
obeys = still_lawful q (the_d q) (answers q) one_n only_one clear_of_earth (demand net flt 37 is_accepted).lawful
  where
    only_one : (r : ℕ) → 1 ≤ r → r ≤ length q.boards → zero_of q.boards r ≡ none
    only_one r h l = let e : r ≡ 1 = omega (arith, one_board) in subst (λ r. zero_of q.boards r ≡ none) (sym e) none_there

pub not_the_answers : SameValues q (the_d q) rival (the_d q) (answers q) → ⊥
unfolding power_n
not_the_answers s = go d.positive
  where
    d : Only q (the_d q) (answers q)
    d = demand net flt 37 is_accepted

    at : the_d q ·N one_n ≡ the_d q ·N nil_n
    at = (s.same_W 1 (omega arith) (omega (arith, one_board))).same0 ∙ ap (λ t. the_d q ·N t) (d.quiet 1 (omega arith) (omega (arith, one_board)) unearthed_there not_freed)

    other : one_n ≡ nil_n → ⊥
    other e = let z : ◌≡◌ {A = ℕ} 1 0 = ap (λ (n : Num). nat_abs n.x0) e in omega arith

    go : (n : ℕ) × (the_d q ≡ pos (suc n)) → ⊥
    go (n, e) = other (cancel_whole n one_n nil_n (whole_times (pos (suc n)) one_n ∙ subst (λ D. D ·N one_n ≡ D ·N nil_n) e at ∙ sym (whole_times (pos (suc n)) nil_n)))
