-- The fault's connection forces the answers: rival currents and a rival lift over any E, with the voltages that the network then gives, are the table's fractions of E and the lift that R-2 asks. Each follows from the
-- three conditions, each times a multiplier; three times the turn that the phases share cancels. Assumes nothing.
use mathlib.Core.Path.{◌≡◌, refl, sym, subst}
use mathlib.Core.Bool.{Bool, true, false, false≢true}
use mathlib.Core.List.{List, [], ◌∷◌}
use Prim.Native.Nat.{ℕ, zero, suc, ◌*◌}
use native.Mathlib.Omega.{arith}
use lib.Dec.{T}
use lib.IntN.{ℤ, pos}
use Rattle.lemmas.proofs.Solver.{E, var, con, ◌⊕◌, ◌⊗◌, ◌⊖◌, ⊝◌, eqn, same_by, ring_by}
use Rattle.lemmas.proofs.Solve.{solve_by}
use Rattle.turn.specs.declared.Num.{Num}
use Rattle.turn.specs.Number.{whole_n, power_n, times_t, ◌+N◌, ◌-N◌, ◌*N◌, conj_n}
use Rattle.turn.proofs.Ring.{Nring}
use Rattle.turn.proofs.TRing.{Ncoef, Tring}
use Rattle.turn.proofs.Cancel.{cancel_whole, turn_cancels}
use Rattle.paper.specs.declared.Ohms.{Ohms}
use Rattle.paper.specs.declared.Seq.{Seq}
use Rattle.paper.specs.declared.Fault.{Fault}
use Rattle.paper.specs.Kind.{is_zero}
use Rattle.paper.specs.Fault.{nil_n, num_of, seq, G, Δ, Short, shorts, unearthed_shorts, short_of, D, currents, lift_of}
use Rattle.paper.specs.Phase.{voltage_of, only_if}
use Rattle.follows.proofs.Divisor.{cancel_divisor, Over, row_square}
use Rattle.laws.specs.Values.{Same, SameSeq}
use Rattle.laws.specs.Connection.{Condition}
use Rattle.laws.proofs.Fractions.{from_product, same_whole, same_minus, same_scaled, same_add}
use Rattle.laws.proofs.Lift.{row_at, lift_at, Freed, not_freed, lift_same}
use Rattle.laws.proofs.Conditions.{turn_e, Z1E, Z2E, Z0E, ZfE, one_e, nil_e, SeqE, seq_e, GE, row_e, voltage_e, Multipliers, conditions, values, value, value_seq, equations}

-- ---- the rivals' variables: E, the currents of sequences 1 and 2, and a third
abbrev source_e : E Num
source_e = var 5

abbrev three_e : E Num
three_e = con (whole_n (pos 3))

abbrev a_e : E Num
a_e = con (power_n 4)

abbrev a²_e : E Num
a²_e = con (power_n 8)

-- the third is the current to earth, and nothing is lifted; or, without earth return, it is the lift, and nothing goes to earth
abbrev rival_e : Bool → SeqE
rival_e false = seq_e (var 6) (var 7) (var 8)
rival_e true = seq_e (var 6) (var 7) nil_e

abbrev lift_e : Bool → E Num
lift_e false = nil_e
lift_e true = var 8

-- ---- what holds of the rivals: the divisor times the currents is E times what stands above the line, and the lift is the one asked
pub record Answered (s : Short) (lift : Num → Num) (z1 : Ohms) (e : ℤ) (F : Seq) (up : Num) : Type 0 where
  pub currents_are : Over s.divisor e F s.above
  pub lift_is : up ≡ lift (whole_n e -N num_of z1 *N F.s1)

module _ (f : Fault) (z1 z2 z0 : Ohms) (e : ℤ) (F1 F2 x : Num) (u : Bool) where
  abbrev rivals : List Num
  rivals = whole_n e ∷ F1 ∷ F2 ∷ x ∷ []

  abbrev val : E Num → Num
  val = value f z1 z2 z0 rivals

  abbrev vals : SeqE → Seq
  vals = value_seq f z1 z2 z0 rivals

  abbrev board_e : SeqE
  board_e = voltage_e source_e (rival_e u) (lift_e u)

  abbrev Meets : ℕ → Type 0
  Meets kind = Condition f (vals board_e) (vals (rival_e u)) kind

  -- x = y follows from the conditions of a kind, each times its multiplier
  abbrev Follows : ℕ → E Num → E Num → Multipliers → Type 0
  Follows kind x y by = T (same_by Ncoef (conditions board_e (rival_e u) by kind) (three_e ⊗ (turn_e ⊗ x)) (three_e ⊗ (turn_e ⊗ y)))

  forced : (kind : ℕ) → Meets kind → (x y : E Num) (by : Multipliers) → Follows kind x y by → val x ≡ val y
  forced kind h x y by t =
      turn_cancels (8 * f.phase) _ _
      (cancel_whole 2 _ _
      (ring_by Tring (values f z1 z2 z0 rivals) (conditions board_e (rival_e u) by kind) (equations f z1 z2 z0 rivals board_e (rival_e u) by kind h) (three_e ⊗ (turn_e ⊗ x)) (three_e ⊗ (turn_e ⊗ y)) t))

  fractions : (kind : ℕ) → Meets kind → (by1 by2 by0 : Multipliers)
      → Follows kind ((row_e kind u).divisor ⊗ (rival_e u).e1) (source_e ⊗ (row_e kind u).above.e1) by1
      → Follows kind ((row_e kind u).divisor ⊗ (rival_e u).e2) (source_e ⊗ (row_e kind u).above.e2) by2
      → Follows kind ((row_e kind u).divisor ⊗ (rival_e u).e0) (source_e ⊗ (row_e kind u).above.e0) by0
      → Over (val (row_e kind u).divisor) e (vals (rival_e u)) (vals (row_e kind u).above)
  fractions kind h by1 by2 by0 t1 t2 t0 = record { over1 = forced kind h _ _ by1 t1; over2 = forced kind h _ _ by2 t2; over0 = forced kind h _ _ by0 t0 }

-- ---- kind by kind. The multipliers come from 3X1 = Xa + a Xb + a² Xc, 3X2 = Xa + a² Xb + a Xc and 3X0 = Xa + Xb + Xc
module _ (f : Fault) (z1 z2 z0 : Ohms) (e : ℤ) (F : Seq) where
  abbrev Earthed : ℕ → Type 0
  Earthed kind = Condition f (voltage_of e F z1 z2 z0 nil_n) F kind

  abbrev Fraction : ℕ → Type 0
  Fraction kind = Over (row_at f z1 z2 z0 false kind).divisor e F (row_at f z1 z2 z0 false kind).above

  -- behind Zf the three voltages are one, so they have no positive and no negative sequence: the first gives I1, the second that Z2 + Zf, the divisor with Z2 for Z1, carries I2 to 0
  three_phases_lem : is_zero z2 ≡ false → Earthed 0 → Fraction 0
  unfolding short_of shorts power_n times_t voltage_of
  three_phases_lem nz h =
      let by = forced f z1 z2 z0 e F.s1 F.s2 F.s0 false 0 h in
      let d = (row_e 0 false).divisor in
      let s = Z2E ⊕ ZfE in
      let none = cancel_divisor z2 z2 z0 f.zf 0 nz nz F.s2 nil_n (by (s ⊗ var 7) (s ⊗ nil_e) (⊝ one_e, a_e, nil_e) tt) in
      record {
        over1 = by (d ⊗ var 6) (source_e ⊗ one_e) (⊝ one_e, a²_e, nil_e) tt;
        over2 = solve_by Nring 3 (λ d u x. eqn d x (con (pos 0)) ∷ []) (λ d u x. d ⊗ x) (λ d u x. u ⊗ con (pos 0)) tt (num_of z1 +N num_of f.zf) (whole_n e) F.s2 (none, tt);
        over0 = by (d ⊗ var 8) (source_e ⊗ nil_e) (nil_e, nil_e, d) tt;
      }

  -- Ib = Ic = 0 makes the three sequences of the current one, so that the divisor times one of them is the sum of each Z + Zf times its own
  one_to_earth : Earthed 1 → Fraction 1
  unfolding short_of shorts G power_n times_t voltage_of
  one_to_earth h =
      let d = (row_e 1 false).divisor in
      let b = Z0E ⊕ a_e ⊗ Z1E ⊕ a²_e ⊗ Z2E in
      let c = Z0E ⊕ a²_e ⊗ Z1E ⊕ a_e ⊗ Z2E in
      fractions f z1 z2 z0 e F.s1 F.s2 F.s0 false 1 h (⊝ three_e, a_e ⊗ d ⊖ b, a²_e ⊗ d ⊖ c) (⊝ three_e, a²_e ⊗ d ⊖ b, a_e ⊗ d ⊖ c) (⊝ three_e, d ⊖ b, d ⊖ c) tt tt tt

  -- Ia = 0 and Ib = -Ic make I0 = 0 and I2 = -I1; (a² - a)² = -3
  two_phases_lem : Earthed 2 → Fraction 2
  unfolding short_of shorts power_n times_t voltage_of
  two_phases_lem h =
      let d = (row_e 2 false).divisor in
      fractions f z1 z2 z0 e F.s1 F.s2 F.s0 false 2 h (Z2E ⊕ Z2E ⊕ ZfE, a²_e ⊗ ZfE ⊖ Z2E, a²_e ⊖ a_e) (Z1E ⊕ Z1E ⊕ ZfE, a_e ⊗ ZfE ⊖ Z1E, a_e ⊖ a²_e) (d, d, nil_e) tt tt tt

  -- the conditions say that I1 + I2 + I0 = 0, W1 = W2 and W0 - W1 = 3 Zf I0: `by` takes the multipliers of these three
  two_to_earth : Earthed 3 → Fraction 3
  unfolding short_of shorts G Δ power_n times_t voltage_of
  two_to_earth h = fractions f z1 z2 z0 e F.s1 F.s2 F.s0 false 3 h (by (Z2E ⊗ GE) (⊝ GE) Z2E) (by (Z1E ⊗ GE) (GE ⊕ Z1E) Z1E) (by (Z1E ⊗ Z2E) (⊝ Z1E) (⊝ (Z1E ⊕ Z2E))) tt tt tt
    where
      by : E Num → E Num → E Num → Multipliers
      by p q r = (three_e ⊗ (p ⊖ ZfE ⊗ r), (a_e ⊖ a²_e) ⊗ q ⊕ (one_e ⊖ a_e) ⊗ r, three_e ⊗ r)

  earthed : is_zero z2 ≡ false → (kind : ℕ) → Earthed kind → Fraction kind
  unfolding Condition
  earthed nz zero h = three_phases_lem nz h
  earthed nz (suc zero) h = one_to_earth h
  earthed nz (suc (suc zero)) h = two_phases_lem h
  earthed nz (suc (suc (suc zero))) h = two_to_earth h
  earthed nz (suc (suc (suc (suc n)))) h = absurd h

-- ---- 02, R-2: without earth return, so without current to earth
module _ (f : Fault) (z1 z2 z0 : Ohms) (e : ℤ) (F1 F2 up : Num) where
  abbrev Unearthed : ℕ → Type 0
  Unearthed kind = Condition f (voltage_of e (seq F1 F2 nil_n) z1 z2 z0 up) (seq F1 F2 nil_n) kind

  abbrev Lifted : ℕ → Type 0
  Lifted kind = Answered (row_at f z1 z2 z0 true kind) (lift_at true kind) z1 e (seq F1 F2 nil_n) up

  -- "all currents 0, .. W0 = -1": the healthy phases carry none, so no sequence does; then Va = 0 says that W0 + W1 = 0
  one_lifted : Unearthed 1 → Lifted 1
  unfolding short_of unearthed_shorts lift_of only_if power_n times_t voltage_of
  one_lifted h =
      let p = a_e ⊖ one_e in
      let q = a²_e ⊖ one_e in
      let r = Z2E ⊕ ZfE in
      record {
        currents_are = fractions f z1 z2 z0 e F1 F2 up true 1 h (nil_e, p, q) (nil_e, q, p) (nil_e, nil_e, nil_e) tt tt tt;
        lift_is = forced f z1 z2 z0 e F1 F2 up true 1 h (var 8) (⊝ (source_e ⊖ Z1E ⊗ var 6)) (three_e, ZfE ⊗ p ⊕ r ⊗ q, ZfE ⊗ q ⊕ r ⊗ p) tt;
      }

  -- "currents and D as for kind 2 with Zf = 0; W0 .. is the faulted board's W1"
  two_lifted : Unearthed 3 → Lifted 3
  unfolding short_of unearthed_shorts lift_of only_if power_n times_t voltage_of
  two_lifted h =
      record {
        currents_are = fractions f z1 z2 z0 e F1 F2 up true 3 h (three_e ⊗ Z2E, a²_e ⊖ a_e, nil_e) (three_e ⊗ Z1E, a_e ⊖ a²_e, nil_e) (nil_e, nil_e, nil_e) tt tt tt;
        lift_is = forced f z1 z2 z0 e F1 F2 up true 3 h (var 8) (source_e ⊖ Z1E ⊗ var 6) (⊝ (three_e ⊗ ZfE), one_e ⊖ a_e, three_e) tt;
      }

-- ---- with an earth return or without
module _ (f : Fault) (z1 z2 z0 : Ohms) (nz : is_zero z2 ≡ false) (e : ℤ) (F : Seq) (up : Num) where
  abbrev Meant : Bool → ℕ → Type 0
  Meant u kind = Answered (row_at f z1 z2 z0 u kind) (lift_at u kind) z1 e F up

  pub answered : (u : Bool) (kind : ℕ) → (u ≡ true → F.s0 ≡ nil_n) → ((Freed u kind → ⊥) → up ≡ nil_n) → Condition f (voltage_of e F z1 z2 z0 up) F kind → Meant u kind
  unfolding Condition short_of shorts unearthed_shorts lift_of only_if
  answered u kind out none h = go u kind out none h
    where
      base : (kind : ℕ) → up ≡ nil_n → Condition f (voltage_of e F z1 z2 z0 up) F kind → Over (row_at f z1 z2 z0 false kind).divisor e F (row_at f z1 z2 z0 false kind).above
      base kind p h = earthed f z1 z2 z0 e F nz kind (subst (λ x. Condition f (voltage_of e F z1 z2 z0 x) F kind) p h)

      lifted : (kind : ℕ) → F.s0 ≡ nil_n → (Condition f (voltage_of e (seq F.s1 F.s2 nil_n) z1 z2 z0 up) (seq F.s1 F.s2 nil_n) kind → Answered (row_at f z1 z2 z0 true kind) (lift_at true kind) z1 e (seq F.s1 F.s2 nil_n) up)
          → Condition f (voltage_of e F z1 z2 z0 up) F kind → Meant true kind
      lifted kind o by h =
          let s : F ≡ seq F.s1 F.s2 nil_n = λ i. seq F.s1 F.s2 (o i) in
          subst (λ X. Answered (row_at f z1 z2 z0 true kind) (lift_at true kind) z1 e X up) (sym s) (by (subst (λ X. Condition f (voltage_of e X z1 z2 z0 up) X kind) s h))

      go : (u : Bool) (kind : ℕ) → (u ≡ true → F.s0 ≡ nil_n) → ((Freed u kind → ⊥) → up ≡ nil_n) → Condition f (voltage_of e F z1 z2 z0 up) F kind → Meant u kind
      go false kind out none h = let p = none (λ f. false≢true f.0) in record { currents_are = base kind p h; lift_is = p }
      go true zero out none h = let p = none (not_freed true 0 (omega arith) (omega arith)) in record { currents_are = base 0 p h; lift_is = p }
      go true (suc zero) out none h = lifted 1 (out refl) (one_lifted f z1 z2 z0 e F.s1 F.s2 up) h
      go true (suc (suc zero)) out none h = let p = none (not_freed true 2 (omega arith) (omega arith)) in record { currents_are = base 2 p h; lift_is = p }
      go true (suc (suc (suc zero))) out none h = lifted 3 (out refl) (two_lifted f z1 z2 z0 e F.s1 F.s2 up) h
      go true (suc (suc (suc (suc n)))) out none h = absurd h

-- ---- and a fraction of E is the answer over D: both times the divisor's conjugate
pub record SameFault (E : ℤ) (F : Seq) (up : Num) (N : ℤ) (I : Seq) (lift : Num) : Type 0 where
  pub same_currents : SameSeq E F N I
  pub same_lift : Same E up N lift

module _ (f : Fault) (z1 z2 z0 : Ohms) (u : Bool) (kind : ℕ) (e : ℤ) (F : Seq) (up : Num) where
  abbrev row : Short
  row = row_at f z1 z2 z0 u kind

  pub forces : Answered row (lift_at u kind) z1 e F up → SameFault e F up (D row) (currents row) (lift_at u kind (whole_n (D row) -N num_of z1 *N (currents row).s1))
  unfolding currents
  forces r =
      let over = r.currents_are in
      let s1 = one F.s1 row.above.s1 over.over1 in
      record {
        same_currents = record { same1 = s1; same2 = one _ _ over.over2; same0 = one _ _ over.over0 };
        same_lift = subst (λ x. Same e x (D row) (lift_at u kind (whole_n (D row) -N num_of z1 *N (currents row).s1))) (sym r.lift_is) (lift_same e (D row) u kind _ _ (fall F.s1 (currents row).s1 s1));
      }
    where
      one : (x n : Num) → row.divisor *N x ≡ whole_n e *N n → Same e x (D row) (n *N conj_n row.divisor)
      one x n h =
          let d = row.divisor in
          from_product e (D row) x (n *N conj_n d)
          (solve_by Nring 6 (λ d c w u x n. eqn c (d ⊗ x) (u ⊗ n) ∷ eqn (⊝ x) (d ⊗ c) w ∷ []) (λ d c w u x n. w ⊗ x) (λ d c w u x n. u ⊗ (n ⊗ c)) tt
          d (conj_n d) (whole_n (D row)) (whole_n e) x n (h, (row_square z1 z2 z0 f.zf u kind, tt)))

      fall : (x y : Num) → Same e x (D row) y → Same e (whole_n e -N num_of z1 *N x) (D row) (whole_n (D row) -N num_of z1 *N y)
      fall x y h = same_add e (D row) (whole_n e) (whole_n (D row)) (same_whole e (D row)) _ _ (same_minus e (D row) _ _ (same_scaled e (D row) x y h (num_of z1)))
