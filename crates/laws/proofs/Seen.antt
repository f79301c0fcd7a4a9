-- Demand 3 holds of the buffer: its numbers, taken back, are three times the answers, over three times D. Assumes nothing.
use mathlib.Core.List.{List, [], ◌∷◌, ◌++◌}
use mathlib.Core.Path.{◌≡◌, sym, ◌∙◌, ap, subst}
use Prim.Native.Nat.{ℕ, suc, ◌+◌, ◌*◌, ◌%◌, ◌≤◌}
use native.Mathlib.Omega.{arith}
use lib.IntN.{ℤ, pos, ◌*ℤ◌}
use lib.ListN.{length, drop}
use Rattle.lemmas.proofs.Ring.{mul_zer}
use Rattle.lemmas.proofs.Solver.{eqn, ◌⊕◌, ◌⊗◌}
use Rattle.lemmas.proofs.Solve.{solve_by}
use Rattle.turn.specs.declared.Num.{Num}
use Rattle.turn.specs.Number.{whole_n, ◌+N◌, ◌-N◌, ◌*N◌, power_n}
use Rattle.turn.proofs.Ring.{Nring}
use Rattle.paper.specs.declared.Seq.{Seq}
use Rattle.paper.specs.Bytes.{one_of}
use Rattle.paper.specs.Chain.{chain, joined, unearthed, zero_chain, Z1, Z2, Z0, turn_of}
use Rattle.paper.specs.Fault.{nil_n, num_of, seq}
use Rattle.paper.specs.Phase.{Asked, asked, the_short, the_d, the_i, lift, voltage_of, voltage, current, shows, phase}
use Rattle.paper.specs.Refusal.{answer_size}
use Rattle.paper.specs.Answer.{numbers, after, written, verdict}
use Rattle.laws.specs.Values.{Values, answers, Everywhere, Same, SameSeq}
use Rattle.laws.specs.Connection.{Connected}
use Rattle.laws.specs.Laws.{Laws, Quiet}
use Rattle.laws.specs.Seen.{phase_at, thrice, place_of_board, D_seen, seen}
use Rattle.laws.specs.Demand.{Only, Shown, DemandSeen, DemandShown}
use Rattle.laws.proofs.Fractions.{as_product, from_product}
use Rattle.laws.proofs.Times.{times, one_times, same_times, left_times, voltage_times, only_times}
use Rattle.laws.proofs.Fair.{Fair, fair}
use Rattle.laws.proofs.Form.{carried_by, left_by, Open, Formed}
use Rattle.laws.proofs.Lift.{lift_at, lift_times}
use Rattle.laws.proofs.Kept.{keeps_times}
use Rattle.laws.proofs.Forced.{SameFault}
use Rattle.follows.proofs.Numbered.{accepted_by}
use Rattle.laws.proofs.Back.{back}
use Rattle.laws.proofs.Reading.{phase_shows, read_D, read_F, read_W, read_I}
use Rattle.laws.proofs.Demand.{at_fault, only, answers_formed, answers_forced, answers_only}

-- ---- what is taken back from three phases is three times the sequences
thrice_same : (p sj sk : ℕ) (X Y : ℕ → Num) → ((i : ℕ) → i ≤ 2 → X i ≡ Y i) → thrice p sj sk X ≡ thrice p sj sk Y
unfolding thrice
thrice_same p sj sk X Y h =
    let a = h 0 (omega arith) in
    let b = h 1 (omega arith) in
    let c = h 2 (omega arith) in
    λ i. seq (power_n (4 * p + (sj + 11 * sk)) *N (a i +N power_n 4 *N b i +N power_n 8 *N c i)) (power_n (4 * p + (11 * sj + sk)) *N (a i +N power_n 8 *N b i +N power_n 4 *N c i))
    (power_n (4 * p) *N (a i +N b i +N c i))

taken_back : (p sj sk : ℕ) (X : Seq) (Y : ℕ → Num) → p ≤ 2 → ((ph : ℕ) → ph ≤ 2 → Y ph ≡ phase p sj sk X ph) → thrice p sj sk (λ i. Y ((p + i) % 3)) ≡ times (pos 3) X
taken_back p sj sk X Y l h =
    thrice_same p sj sk (λ i. Y ((p + i) % 3)) (shows p sj sk X) (λ i c. h ((p + i) % 3) (omega arith) ∙ phase_shows p sj sk X i l c) ∙ back p sj sk X

-- values that are the same in the three sequences are so in every phase
phase_same : (p sj sk : ℕ) (E D : ℤ) (X Y : Seq) → SameSeq E X D Y → (ph : ℕ) → Same E (phase p sj sk X ph) D (phase p sj sk Y ph)
unfolding phase shows
phase_same p sj sk E D X Y s ph =
    from_product E D _ _
    (solve_by Nring 11
    (λ e d u a b x1 x2 x0 y1 y2 y0. eqn (u ⊗ a) (d ⊗ x1) (e ⊗ y1) ∷ eqn (u ⊗ b) (d ⊗ x2) (e ⊗ y2) ∷ eqn u (d ⊗ x0) (e ⊗ y0) ∷ [])
    (λ e d u a b x1 x2 x0 y1 y2 y0. d ⊗ (u ⊗ (x0 ⊕ a ⊗ x1 ⊕ b ⊗ x2))) (λ e d u a b x1 x2 x0 y1 y2 y0. e ⊗ (u ⊗ (y0 ⊕ a ⊗ y1 ⊕ b ⊗ y2))) tt
    (whole_n E) (whole_n D) _ _ _ X.s1 X.s2 X.s0 Y.s1 Y.s2 Y.s0
    (as_product E D _ _ s.same1, (as_product E D _ _ s.same2, (as_product E D _ _ s.same0, tt))))

-- ---- values m times as large, over a divisor m times as large, have the form with m times the fault's current and m times the lift
module _ (m : ℤ) (q : Asked) where
  carried_times : (F : Seq) (r : ℕ) → times m (carried_by q F r) ≡ carried_by q (times m F) r
  unfolding carried_by
  carried_times F r =
      let on = one_of r (chain q.boards q.k) in
      λ i. seq (only_times m on F.s1 i) (only_times m on F.s2 i) (only_times m (one_of r (zero_chain q.boards q.k)) F.s0 i)

  left_by_times : (D : ℤ) (F : Seq) (up : Num) (r : ℕ) → times m (left_by q D F up r) ≡ left_by q (m *ℤ D) (times m F) (whole_n m *N up) r
  unfolding left_by
  left_by_times D F up r =
      voltage_times m D F _ _ _ _ ∙ ap (voltage_of (m *ℤ D) (times m F) _ _ _) (only_times m (joined q.boards r q.k) up)

  module _ (D : ℤ) (v w : Values) (up : Num) (f : Formed q D v up) where
    formed_times : Everywhere q (λ r. w.W r ≡ times m (v.W r)) → Everywhere q (λ r. w.I r ≡ times m (v.I r)) → w.F ≡ times m v.F → Formed q (m *ℤ D) w (whole_n m *N up)
    formed_times sW sI sF =
        record {
          form_W = λ r h l. sW r h l ∙ ap (times m) (f.form_W r h l) ∙ left_by_times D v.F up r ∙ ap (λ F. left_by q (m *ℤ D) F (whole_n m *N up) r) (sym sF);
          form_I = λ r h l. sI r h l ∙ ap (times m) (f.form_I r h l) ∙ carried_times v.F r ∙ ap (λ F. carried_by q F r) (sym sF);
          form_open = record {
            no_out = λ u. ap (λ (X : Seq). X.s0) sF ∙ nothing (f.form_open.no_out u);
            no_lift = λ h. nothing (f.form_open.no_lift h);
          };
        }
      where
        nothing : {x : Num} → x ≡ nil_n → whole_n m *N x ≡ nil_n
        nothing e = ap (λ t. whole_n m *N t) e ∙ mul_zer Nring (whole_n m)

module _ (net flt : List ℕ) (buffer : List ℤ) (accepted : (verdict net flt (length buffer)).number ≡ 0) where
  abbrev q : Asked
  q = asked net flt

  abbrev rest : List ℤ
  rest = drop (answer_size (length q.boards)) buffer

  abbrev xs : List ℤ
  xs = numbers q ++ rest

  is_fair : Fair q
  is_fair = fair net flt (length buffer) accepted

  pub is_written : written net flt buffer ≡ xs
  unfolding written after
  is_written = ap (λ r. after r q buffer) (accepted_by net flt (length buffer) accepted)

  -- phase p + i of board r, as it stands there
  pub seen_phase : (r : ℕ) → 1 ≤ r → r ≤ length q.boards → (i : ℕ) → i ≤ 2
      → phase_at (written net flt buffer) (place_of_board r) q.fault.phase i ≡ shows q.fault.phase (turn_of q.boards r) (turn_of q.boards q.k) (voltage q r) i
  seen_phase r h l i c =
      let p = q.fault.phase in
      ap (λ ys. phase_at ys (place_of_board r) p i) is_written ∙ read_W q rest r h l ((p + i) % 3) (omega arith) ∙ phase_shows p (turn_of q.boards r) (turn_of q.boards q.k) (voltage q r) i is_fair.phase_to c

  pub seen_D : D_seen (written net flt buffer) ≡ the_d q
  seen_D = ap D_seen is_written ∙ read_D q rest

  seen_F : (seen q xs).F ≡ times (pos 3) (the_i q)
  unfolding seen
  seen_F = taken_back q.fault.phase 0 0 (the_i q) _ is_fair.phase_to (read_F q rest)

  seen_W : (r : ℕ) → 1 ≤ r → r ≤ length q.boards → (seen q xs).W r ≡ times (pos 3) (voltage q r)
  unfolding seen
  seen_W r h l = taken_back q.fault.phase (turn_of q.boards r) (turn_of q.boards q.k) (voltage q r) _ is_fair.phase_to (read_W q rest r h l)

  seen_I : (r : ℕ) → 1 ≤ r → r ≤ length q.boards → (seen q xs).I r ≡ times (pos 3) (current q r)
  unfolding seen
  seen_I r h l = taken_back q.fault.phase (turn_of q.boards r) (turn_of q.boards q.k) (current q r) _ is_fair.phase_to (read_I q rest r h l)

  -- ---- so they are three times the answers, over three times D
  abbrev D3 : ℤ
  D3 = pos 3 *ℤ the_d q

  abbrev lift3 : Num
  lift3 = whole_n (pos 3) *N lift q

  seen_formed : Formed q D3 (seen q xs) lift3
  unfolding answers
  seen_formed = formed_times (pos 3) q (the_d q) (answers q) (seen q xs) (lift q) (answers_formed q) seen_W seen_I seen_F

  D3_positive : (n : ℕ) × (D3 ≡ pos (suc n))
  D3_positive = let (n, e) = is_fair.D_some in (3 * n + 2, ap (λ t. pos 3 *ℤ t) e ∙ ap pos (omega arith))

  -- the lift comes out three times, as R-2's of three times W1
  lift_thrice : let b = q.boards in lift3 ≡ lift_at (unearthed b q.k) q.fault.kind (whole_n D3 -N num_of (Z1 b q.k) *N (times (pos 3) (the_i q)).s1)
  unfolding lift
  lift_thrice =
      lift_times (whole_n (pos 3)) (unearthed q.boards q.k) q.fault.kind _
      ∙ ap (lift_at (unearthed q.boards q.k) q.fault.kind) (left_times (pos 3) (the_d q) (Z1 q.boards q.k) (the_i q).s1)

  seen_meets : Connected q.fault (at_fault q D3 (seen q xs).F lift3) (seen q xs).F
  unfolding at_fault the_short the_d the_i
  seen_meets =
      subst (λ F. Connected q.fault (at_fault q D3 F lift3) F) (sym seen_F)
      (subst (λ x. Connected q.fault (at_fault q D3 (times (pos 3) (the_i q)) x) (times (pos 3) (the_i q))) (sym lift_thrice)
      (keeps_times q.fault (Z1 q.boards q.k) (Z2 q.boards q.k) (Z0 q.boards q.k) (unearthed q.boards q.k) is_fair.kind_to (pos 3)))

  pub seen_only : Only q D3 (seen q xs)
  seen_only = only q is_fair D3 (seen q xs) lift3 D3_positive seen_formed seen_meets one
    where
      one : (E : ℤ) (F : Seq) (x : Num) → Open q F x → Connected q.fault (at_fault q E F x) F → SameFault E F x D3 (seen q xs).F lift3
      one E F x free h =
          let r = answers_forced q is_fair E F x free h in
          record {
            same_currents = subst (SameSeq E F D3) (sym seen_F) (same_times (pos 3) E (the_d q) F (the_i q) r.same_currents);
            same_lift = one_times (pos 3) E (the_d q) x (lift q) r.same_lift;
          }

  -- ---- and every phase of a rival stands in the buffer
  pub shown : (E : ℤ) (v : Values) → Laws q E v → Quiet q v → Shown q E v xs
  unfolding answers numbers
  shown E v laws quiet =
      let s = (answers_only q is_fair).alone E v laws quiet in
      let p = q.fault.phase in
      let turn = turn_of q.boards in
      record {
        shown_W = λ r h l ph c. subst (Same E (phase p (turn r) (turn q.k) (v.W r) ph) (the_d q)) (sym (read_W q rest r h l ph c)) (phase_same p (turn r) (turn q.k) E (the_d q) _ _ (s.same_W r h l) ph);
        shown_I = λ r h l ph c. subst (Same E (phase p (turn r) (turn q.k) (v.I r) ph) (the_d q)) (sym (read_I q rest r h l ph c)) (phase_same p (turn r) (turn q.k) E (the_d q) _ _ (s.same_I r h l) ph);
        shown_F = λ ph c. subst (Same E (phase p 0 0 v.F ph) (the_d q)) (sym (read_F q rest ph c)) (phase_same p 0 0 E (the_d q) _ _ s.same_F ph);
      }

pub demand_seen : DemandSeen
unfolding numbers
demand_seen net flt buffer h = subst (λ zs. Only (asked net flt) (pos 3 *ℤ D_seen zs) (seen (asked net flt) zs)) (sym (is_written net flt buffer h)) (seen_only net flt buffer h)

pub demand_shown : DemandShown
demand_shown net flt buffer h E v laws quiet = subst (Shown (asked net flt) E v) (sym (is_written net flt buffer h)) (shown net flt buffer h E v laws quiet)
