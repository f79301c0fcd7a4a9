-- 02, R-2: "crews must see the healthy phases rise". One phase to earth where there is no earth return: at every board joined to the faulted one that phase shows 0, and the two healthy ones the square root of 3 times D. Two
-- phases to earth: both show 0 at the faulted board. Of the answers, and of the numbers in the buffer. Assumes nothing.
use mathlib.Core.Bool.{true}
use mathlib.Core.List.{List, [], ◌∷◌}
use mathlib.Core.Path.{◌≡◌, refl, sym, ◌∙◌, ap, ap₂, subst}
use Prim.Native.Nat.{ℕ, ◌+◌, ◌*◌, ◌%◌, ◌≤◌}
use native.Mathlib.Omega.{arith}
use lib.IntN.{ℤ, pos, ◌*ℤ◌}
use lib.ListN.{length}
use Rattle.lemmas.proofs.Ring.{mul_zer}
use Rattle.lemmas.proofs.Solver.{con, eqn, ◌⊕◌, ◌⊗◌, ◌⊖◌, ⊝◌}
use Rattle.lemmas.proofs.Solve.{solve, solve_by}
use Rattle.turn.specs.declared.Num.{Num}
use Rattle.turn.specs.Number.{whole_n, power_n, times_t, turn_n, ◌+N◌, neg_n, ◌-N◌, ◌*N◌, ◌·N◌, conj_n, square_n}
use Rattle.turn.proofs.Ring.{Nring}
use Rattle.turn.proofs.TRing.{Tring}
use Rattle.turn.proofs.Powers.{power_mod}
use Rattle.turn.proofs.Conj.{turn_absolute}
use Rattle.paper.specs.declared.Ohms.{Ohms}
use Rattle.paper.specs.declared.Seq.{Seq}
use Rattle.paper.specs.Chain.{joined, unearthed, turn_of, Z1, shared1, shared2, shared0}
use Rattle.paper.specs.Fault.{nil_n, num_of, seq, no_short, unearthed_shorts, short_of, D, currents, lift_of}
use Rattle.paper.specs.Phase.{Asked, asked, the_short, the_d, the_i, lift, voltage_of, voltage, shows}
use Rattle.paper.specs.Answer.{verdict, written}
use Rattle.laws.specs.Values.{answers}
use Rattle.laws.specs.Connection.{Condition, Connected}
use Rattle.laws.specs.Laws.{lifts}
use Rattle.laws.specs.Seen.{phase_at, place_of_board, D_seen}
use Rattle.laws.proofs.Sums.{only_there}
use Rattle.laws.proofs.JoinedBoards.{joined_turn}
use Rattle.laws.proofs.Fair.{Fair, fair}
use Rattle.laws.proofs.Lift.{lifts_freed}
use Rattle.laws.proofs.Demand.{answers_formed, answers_only}
use Rattle.laws.proofs.Seen.{seen_phase, seen_D}

-- the square of a number's absolute value
abbrev pub absolute² : Num → Num
absolute² n = n *N conj_n n

-- ---- of what is seen: `sees i` is phase p + i, p being the odd phase
-- kind 1: phase p is the faulted one, the others are healthy
pub record HealthyRise (D : ℤ) (sees : ℕ → Num) : Type 0 where
  pub faulted_phase : sees 0 ≡ nil_n
  pub next_phase : absolute² (sees 1) ≡ whole_n (pos 3 *ℤ (D *ℤ D))
  pub last_phase : absolute² (sees 2) ≡ whole_n (pos 3 *ℤ (D *ℤ D))

-- kind 3: phase p is the healthy one
pub record BothFall (sees : ℕ → Num) : Type 0 where
  pub next_faulted : sees 1 ≡ nil_n
  pub last_faulted : sees 2 ≡ nil_n

-- of equal numbers
rises : {D N : ℤ} {f g : ℕ → Num} → D ≡ N → ((i : ℕ) → i ≤ 2 → f i ≡ g i) → HealthyRise D f → HealthyRise N g
rises {D} {N} {f} {g} e h r =
    subst (λ d. HealthyRise d g) e
    (record {
      faulted_phase = sym (h 0 (omega arith)) ∙ r.faulted_phase;
      next_phase = ap absolute² (sym (h 1 (omega arith))) ∙ r.next_phase;
      last_phase = ap absolute² (sym (h 2 (omega arith))) ∙ r.last_phase;
    })

-- ---- joined boards have one turn, so there is none between them
no_turn : (p s : ℕ) (X : Seq) (i : ℕ) → shows p s s X i ≡ shows p 0 0 X i
unfolding shows
no_turn p s X i = ap₂ (λ a b. power_n (8 * p) *N (X.s0 +N a *N X.s1 +N b *N X.s2)) (round (8 * i + 11 * s + s) (8 * i + 11 * 0 + 0) (omega arith)) (round (4 * i + s + 11 * s) (4 * i + 0 + 11 * 0) (omega arith))
  where
    round : (m n : ℕ) → m % 12 ≡ n % 12 → power_n m ≡ power_n n
    round m n e = sym (power_mod m) ∙ ap power_n e ∙ power_mod n

-- three phases together are three times the zero sequence, turned
together : (p : ℕ) (X : Seq) → shows p 0 0 X 0 +N shows p 0 0 X 1 +N shows p 0 0 X 2 ≡ whole_n (pos 3) *N turn_n (8 * p) X.s0
unfolding shows power_n times_t
together p X =
    solve Tring 4
    (λ t a b c. t ⊗ (c ⊕ con (power_n 0) ⊗ a ⊕ con (power_n 0) ⊗ b) ⊕ t ⊗ (c ⊕ con (power_n 8) ⊗ a ⊕ con (power_n 4) ⊗ b) ⊕ t ⊗ (c ⊕ con (power_n 16) ⊗ a ⊕ con (power_n 8) ⊗ b))
    (λ t a b c. con (whole_n (pos 3)) ⊗ (t ⊗ c)) tt (power_n (8 * p)) X.s1 X.s2 X.s0

-- without zero sequence, and with nothing in the odd phase, what one of the others carries the other returns
others_return : (p : ℕ) (X : Seq) → X.s0 ≡ nil_n → shows p 0 0 X 0 ≡ nil_n → shows p 0 0 X 1 +N shows p 0 0 X 2 ≡ nil_n
others_return p X clear odd =
    solve_by Nring 5 (λ t x y z n. eqn (con (pos 1)) (x ⊕ y ⊕ z) (con (pos 3) ⊗ (t ⊗ n)) ∷ eqn (⊝ con (pos 1)) x (con (pos 0)) ∷ eqn (con (pos 3) ⊗ t) n (con (pos 0)) ∷ []) (λ t x y z n. y ⊕ z)
    (λ t x y z n. con (pos 0)) tt (power_n (8 * p)) (shows p 0 0 X 0) (shows p 0 0 X 1) (shows p 0 0 X 2) X.s0 (together p X, (odd, (clear, tt)))

-- W1 = 1, W2 = 0, W0 = -1
abbrev opposed : Seq
opposed = seq (whole_n (pos 1)) nil_n (neg_n (whole_n (pos 1)))

-- where no current flows the source's voltage is at every board
nothing_falls : (z : Ohms) → whole_n (pos 1) -N num_of z *N nil_n ≡ whole_n (pos 1)
nothing_falls z = solve Nring 1 (λ z. con (pos 1) ⊖ z ⊗ con (pos 0)) (λ z. con (pos 1)) tt (num_of z)

opposed_by : (za zb zc : Ohms) → voltage_of (pos 1) (seq nil_n nil_n nil_n) za zb zc (neg_n (whole_n (pos 1))) ≡ opposed
unfolding voltage_of
opposed_by za zb zc =
    λ i. seq (nothing_falls za i) (solve Nring 1 (λ z. ⊝ (z ⊗ con (pos 0))) (λ z. con (pos 0)) tt (num_of zb) i)
    (solve Nring 2 (λ z u. ⊝ (z ⊗ con (pos 0)) ⊕ u) (λ z u. u) tt (num_of zc) (neg_n (whole_n (pos 1))) i)

-- opposed voltages: one phase shows 0, the others stand apart from earth as far as from each other
apart : ℕ → Num
apart i = opposed.s0 +N turn_n (8 * i + 11 * 0 + 0) opposed.s1 +N turn_n (4 * i + 0 + 11 * 0) opposed.s2

none_apart : apart 0 ≡ nil_n
unfolding apart power_n times_t ◌+N◌ neg_n ◌*N◌ ◌·N◌
none_apart = refl

three_apart : (absolute² (apart 1) ≡ whole_n (pos 3)) × (absolute² (apart 2) ≡ whole_n (pos 3))
unfolding apart power_n times_t ◌+N◌ neg_n ◌*N◌ ◌·N◌ conj_n
three_apart = (refl, refl)

opposed_rise : (p : ℕ) → HealthyRise (pos 1) (shows p 0 0 opposed)
unfolding shows apart
opposed_rise p =
    record {
      faulted_phase = ap (turn_n (8 * p)) none_apart ∙ mul_zer Nring (power_n (8 * p));
      next_phase = turn_absolute (8 * p) (apart 1) ∙ three_apart.0;
      last_phase = turn_absolute (8 * p) (apart 2) ∙ three_apart.1;
    }

-- ---- of the answers
module _ (q : Asked) (a : Fair q) (u : unearthed q.boards q.k ≡ true) where
  open q use {boards, fault, k}

  -- phase p + i of board j
  abbrev sees : ℕ → ℕ → Num
  sees j = shows fault.phase (turn_of boards j) (turn_of boards k) (voltage q j)

  module _ (e : fault.kind ≡ 1) where
    no_short_lem : the_short q ≡ no_short
    unfolding the_short short_of unearthed_shorts
    no_short_lem = ap₂ (short_of _ _ _ _) u e

    -- "all currents 0, D = 1"
    pub D_one : the_d q ≡ pos 1
    unfolding the_d D square_n power_n
    D_one = ap D no_short_lem

    pub no_current : the_i q ≡ seq nil_n nil_n nil_n
    unfolding the_i currents power_n times_t ◌+N◌ ◌*N◌ ◌·N◌ conj_n
    no_current = ap currents no_short_lem

    lift_minus_one : lift q ≡ neg_n (whole_n (pos 1))
    unfolding lift lift_of
    lift_minus_one = only_there _ u ∙ ap₂ lift_of e (ap₂ (λ d (I : Seq). whole_n d -N num_of (Z1 boards k) *N I.s1) D_one no_current ∙ nothing_falls (Z1 boards k))

    -- "W1 = 1 and W2 = 0 at every board, W0 = -1 at k and the boards joined to it"
    pub opposed_there : (j : ℕ) → joined boards j k ≡ true → voltage q j ≡ opposed
    unfolding voltage
    opposed_there j c =
        (λ i. voltage_of (D_one i) (no_current i) (shared1 boards j k) (shared2 boards j k) (shared0 boards j k) ((only_there (lift q) c ∙ lift_minus_one) i))
        ∙ opposed_by (shared1 boards j k) (shared2 boards j k) (shared0 boards j k)

    pub healthy_rise : (j : ℕ) → 1 ≤ j → j ≤ length boards → joined boards j k ≡ true → HealthyRise (the_d q) (sees j)
    healthy_rise j j1 jn c =
        let p = fault.phase in
        let t = joined_turn boards a.sound j k j1 jn a.k_from a.k_to c in
        rises (sym D_one) (λ i l. sym (ap₂ (λ s X. shows p s (turn_of boards k) X i) t (opposed_there j c) ∙ no_turn p (turn_of boards k) opposed i)) (opposed_rise p)

  -- Ia is 0 and nothing goes to earth, so Ib + Ic is 0, and with it Vb = Vc = Zf(Ib + Ic)
  pub both_fall : fault.kind ≡ 3 → BothFall (sees k)
  unfolding Connected Condition answers
  both_fall e =
      let p = fault.phase in
      let (ia, vb, vc) = subst (Condition fault (voltage q k) (the_i q)) e (answers_only q a).lawful.connected in
      let returns = others_return p (the_i q) ((answers_formed q).form_open.no_out u) ia in
      let gone : shows p 0 0 (voltage q k) 2 ≡ nil_n = vc ∙ ap (λ i. num_of fault.zf *N i) returns ∙ mul_zer Nring (num_of fault.zf) in
      record { next_faulted = no_turn p (turn_of boards k) (voltage q k) 1 ∙ vb ∙ gone; last_faulted = no_turn p (turn_of boards k) (voltage q k) 2 ∙ gone }

-- ---- and of the buffer
module _ (net flt : List ℕ) (buffer : List ℤ) (accepted : (verdict net flt (length buffer)).number ≡ 0) (lifted : lifts (asked net flt) ≡ true) where
  abbrev q : Asked
  q = asked net flt

  -- phase p + i of board j, p being the odd phase
  abbrev pub shown : ℕ → ℕ → Num
  shown j = phase_at (written net flt buffer) (place_of_board j) q.fault.phase

  u : unearthed q.boards q.k ≡ true
  u = (lifts_freed q lifted).0

  is_fair : Fair q
  is_fair = fair net flt (length buffer) accepted

  stands : (j : ℕ) → 1 ≤ j → j ≤ length q.boards → (i : ℕ) → i ≤ 2 → sees q is_fair u j i ≡ shown j i
  stands j h l i c = sym (seen_phase net flt buffer accepted j h l i c)

  pub healthy_phases_rise : q.fault.kind ≡ 1 → (j : ℕ) → 1 ≤ j → j ≤ length q.boards → joined q.boards j q.k ≡ true → HealthyRise (D_seen (written net flt buffer)) (shown j)
  healthy_phases_rise e j h l c = rises (sym (seen_D net flt buffer accepted)) (stands j h l) (healthy_rise q is_fair u e j h l c)

  pub faulted_phases_fall : q.fault.kind ≡ 3 → BothFall (shown q.k)
  faulted_phases_fall e =
      let r = both_fall q is_fair u e in
      let s = stands q.k is_fair.k_from is_fair.k_to in
      record { next_faulted = sym (s 1 (omega arith)) ∙ r.next_faulted; last_faulted = sym (s 2 (omega arith)) ∙ r.last_faulted }
