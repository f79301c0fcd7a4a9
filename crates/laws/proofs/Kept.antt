-- The answers keep the fault's connection: with D as the divisor times its conjugate, each condition is an equation between polynomials. Assumes nothing.
use mathlib.Core.Path.{◌≡◌, sym, ◌∙◌, ap, subst, subst₂}
use mathlib.Core.Bool.{Bool, true, false, ◌&&◌}
use mathlib.Core.List.{List, [], ◌∷◌}
use Prim.Native.Nat.{ℕ, zero, suc, ◌≤◌}
use native.Mathlib.Omega.{arith}
use lib.Dec.{T}
use lib.IntN.{ℤ, ◌*ℤ◌}
use Rattle.lemmas.proofs.Bools.{both_t}
use Rattle.lemmas.proofs.Solver.{E, Eqn, var, ◌⊗◌, ◌⊖◌, eqn, same, Means, ring}
use Rattle.lemmas.proofs.Solve.{solve}
use Rattle.turn.specs.declared.Num.{Num}
use Rattle.turn.specs.Number.{whole_n, power_n, times_t, ◌+N◌, ◌-N◌, neg_n, ◌*N◌, conj_n}
use Rattle.turn.proofs.Ring.{Nring, whole_mul}
use Rattle.turn.proofs.TRing.{Ncoef, Tring}
use Rattle.paper.specs.declared.Ohms.{Ohms}
use Rattle.paper.specs.declared.Seq.{Seq}
use Rattle.paper.specs.declared.Fault.{Fault}
use Rattle.paper.specs.Fault.{num_of, seq, Short, G, Δ, shorts, unearthed_shorts, short_of, D, currents, lift_of}
use Rattle.paper.specs.Phase.{voltage_of, only_if}
use Rattle.follows.proofs.Divisor.{row_square}
use Rattle.laws.specs.Connection.{Condition, Connected}
use Rattle.laws.proofs.Times.{times}
use Rattle.laws.proofs.Lift.{row_at, lift_at}
use Rattle.laws.proofs.Conditions.{Z1E, nil_e, SeqE, seq_e, row_e, voltage_e, Multipliers, conditions, values, value_seq, from_equations}

-- equations that hold of all values
abbrev hold : List (Eqn Num) → Bool
hold [] = true
hold (eqn q x y ∷ hs) = same Ncoef x y && hold hs

held : (ρ : List Num) (hs : List (Eqn Num)) → T (hold hs) → Means Tring ρ hs
held ρ [] t = tt
held ρ (eqn q x y ∷ hs) t = let (h, g) = both_t (same Ncoef x y) (hold hs) t in (ring Tring ρ x y h, held ρ hs g)

-- ---- the answers of a kind, with an earth return or without, and with one variable more: the divisor's conjugate
abbrev conj_e : E Num
conj_e = var 5

abbrev current_e : ℕ → Bool → SeqE
current_e kind u = let n = (row_e kind u).above in seq_e (n.e1 ⊗ conj_e) (n.e2 ⊗ conj_e) (n.e0 ⊗ conj_e)

abbrev board_e : ℕ → Bool → SeqE
board_e kind u =
    let s = (row_e kind u).divisor ⊗ conj_e in
    let i = current_e kind u in
    voltage_e s i ((row_e kind u).lift (s ⊖ Z1E ⊗ i.e1))

-- nothing is to be multiplied here
abbrev alone : Multipliers
alone = (nil_e, nil_e, nil_e)

abbrev conditions_e : ℕ → Bool → List (Eqn Num)
conditions_e kind u = conditions (board_e kind u) (current_e kind u) alone kind

module _ (f : Fault) (z1 z2 z0 : Ohms) (u : Bool) where
  computed : (c : Num) (kind : ℕ) → kind ≤ 3 → T (hold (conditions_e kind u))
      → Condition f (value_seq f z1 z2 z0 (c ∷ []) (board_e kind u)) (value_seq f z1 z2 z0 (c ∷ []) (current_e kind u)) kind
  computed c kind k t = from_equations f z1 z2 z0 (c ∷ []) (board_e kind u) (current_e kind u) alone kind k (held (values f z1 z2 z0 (c ∷ [])) (conditions_e kind u) t)

-- the condition of a kind, where the source's voltage is s and the fault's current i, with the lift that they ask
abbrev Keeps : Fault → Ohms → Ohms → Ohms → Bool → ℕ → Num → Seq → Type 0
Keeps f z1 z2 z0 u kind s i =
    let w = s -N num_of z1 *N i.s1 in
    Condition f (seq w (neg_n (num_of z2 *N i.s2)) (neg_n (num_of z0 *N i.s0) +N lift_at u kind w)) i kind

-- the table's row times any number: the divisor for the source's voltage, what stands above the line for the current
each_kind : (f : Fault) (z1 z2 z0 : Ohms) (c : Num) (u : Bool) (kind : ℕ) → kind ≤ 3
    → let row = row_at f z1 z2 z0 u kind in
    Keeps f z1 z2 z0 u kind (row.divisor *N c) (seq (row.above.s1 *N c) (row.above.s2 *N c) (row.above.s0 *N c))
unfolding short_of shorts unearthed_shorts G Δ power_n times_t lift_of only_if
each_kind f z1 z2 z0 c false zero k = computed f z1 z2 z0 false c 0 k tt
each_kind f z1 z2 z0 c false (suc zero) k = computed f z1 z2 z0 false c 1 k tt
each_kind f z1 z2 z0 c false (suc (suc zero)) k = computed f z1 z2 z0 false c 2 k tt
each_kind f z1 z2 z0 c false (suc (suc (suc zero))) k = computed f z1 z2 z0 false c 3 k tt
each_kind f z1 z2 z0 c true zero k = computed f z1 z2 z0 true c 0 k tt
each_kind f z1 z2 z0 c true (suc zero) k = computed f z1 z2 z0 true c 1 k tt
each_kind f z1 z2 z0 c true (suc (suc zero)) k = computed f z1 z2 z0 true c 2 k tt
each_kind f z1 z2 z0 c true (suc (suc (suc zero))) k = computed f z1 z2 z0 true c 3 k tt
each_kind f z1 z2 z0 c u (suc (suc (suc (suc n)))) k = let no : ⊥ = omega arith in absurd no

-- ---- so the answers keep it, and so do m times the answers over m times D
module _ (f : Fault) (z1 z2 z0 : Ohms) (u : Bool) (k : f.kind ≤ 3) where
  abbrev row : Short
  row = row_at f z1 z2 z0 u f.kind

  -- values over E
  abbrev Met : ℤ → Seq → Type 0
  Met E I = Connected f (voltage_of E I z1 z2 z0 (lift_at u f.kind (whole_n E -N num_of z1 *N I.s1))) I

  pub keeps : Met (D row) (currents row)
  unfolding Connected voltage_of currents
  keeps = subst (λ s. Keeps f z1 z2 z0 u f.kind s (currents row)) (row_square z1 z2 z0 f.zf u f.kind) (each_kind f z1 z2 z0 (conj_n row.divisor) u f.kind k)

  pub keeps_times : (m : ℤ) → Met (m *ℤ D row) (times m (currents row))
  unfolding Connected voltage_of currents
  keeps_times m = subst₂ (Keeps f z1 z2 z0 u f.kind) source current (each_kind f z1 z2 z0 (conj_n d *N whole_n m) u f.kind k)
    where
      d : Num
      d = row.divisor

      source : d *N (conj_n d *N whole_n m) ≡ whole_n (m *ℤ D row)
      source =
          solve Nring 3 (λ d c m. d ⊗ (c ⊗ m)) (λ d c m. m ⊗ (d ⊗ c)) tt d (conj_n d) (whole_n m) ∙ ap (λ t. whole_n m *N t) (row_square z1 z2 z0 f.zf u f.kind) ∙ sym (whole_mul m (D row))

      one : (n : Num) → n *N (conj_n d *N whole_n m) ≡ whole_n m *N (n *N conj_n d)
      one n = solve Nring 3 (λ n c m. n ⊗ (c ⊗ m)) (λ n c m. m ⊗ (n ⊗ c)) tt n (conj_n d) (whole_n m)

      current : (let n = row.above in seq (n.s1 *N (conj_n d *N whole_n m)) (n.s2 *N (conj_n d *N whole_n m)) (n.s0 *N (conj_n d *N whole_n m))) ≡ times m (currents row)
      current = λ i. seq (one row.above.s1 i) (one row.above.s2 i) (one row.above.s0 i)
