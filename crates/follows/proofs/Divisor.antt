-- "The divisor is never zero; that is proved." Over any four impedances, with z1 and z2 not zero, and for every kind (the row of a number that is no kind is
-- divided by one). Assumes nothing.
use mathlib.Core.Path.{◌≡◌, refl, sym, ◌∙◌, ap, ap₂, subst}
use mathlib.Core.Bool.{Bool, false, ◌&&◌}
use mathlib.Core.List.{[], ◌∷◌}
use Prim.Native.Nat.{ℕ, zero, suc, ◌+◌, ◌-◌, ◌*◌, ◌≤◌, ◌<◌}
use native.Mathlib.Nat.{mul-pos}
use native.Mathlib.Omega.{arith}
use lib.Dec.{eqb}
use lib.IntN.{ℤ, pos, nat_abs, ◌+ℤ◌}
use Rattle.lemmas.proofs.Distance.{square_pos}
use Rattle.lemmas.proofs.Solver.{◌⊗◌, eqn}
use Rattle.lemmas.proofs.Solve.{solve_by}
use Rattle.turn.specs.declared.Num.{Num}
use Rattle.turn.specs.Number.{whole_n, one_n, power_n, ◌+N◌, ◌*N◌, conj_n, square_n}
use Rattle.turn.proofs.Ring.{Nring}
use Rattle.turn.proofs.Cancel.{cancel_complex}
use Rattle.paper.specs.declared.Ohms.{Ohms}
use Rattle.paper.specs.Kind.{◌+Ω◌, is_zero}
use Rattle.paper.specs.declared.Seq.{Seq}
use Rattle.paper.specs.Fault.{nil_n, num_of, G, Δ, Short, shorts, short_of, D, currents}
use Rattle.paper.specs.Chain.{unearthed, Z1, Z2, Z0}
use Rattle.paper.specs.Phase.{Asked, the_short, the_d, the_i}
use Rattle.paper.specs.Bounds.{Flat, EachSeq}
use Rattle.follows.proofs.Flat.{flat_is, flat_complex, flat_num, flat_add, flat_neg, flat_mul, flat_square}
use Rattle.follows.proofs.Row.{each_row, GOf, ΔOf, row_of, DOf, IOf, kind_at, zf_at, by_row}
use Rattle.follows.proofs.Square.{earthed, sq, sqΔ, each_D}

-- ---- the divisors are of the form R + jX, and so is what stands above the line
flat_one : Flat one_n
unfolding power_n
flat_one = flat_complex (pos 1) (pos 0)

flat_nil : Flat nil_n
flat_nil = flat_complex (pos 0) (pos 0)

module _ (z1 z2 z0 zf : Ohms) where
  flat_G : Flat (GOf z1 z2 z0 zf)
  unfolding G
  flat_G = flat_add (flat_num z0) (flat_add (flat_add (flat_num zf) (flat_num zf)) (flat_num zf))

  flat-Δ : Flat (ΔOf z1 z2 z0 zf)
  unfolding Δ
  flat-Δ = flat_add (flat_add (flat_mul (flat_num z1) (flat_num z2)) (flat_mul (flat_num z1) flat_G)) (flat_mul (flat_num z2) flat_G)

  pub divisor_flat : (kind : ℕ) → Flat (row_of z1 z2 z0 zf kind).divisor
  divisor_flat =
      each_row (num_of z1) (num_of z2) (num_of z0) (num_of zf) (λ d n. Flat d) (flat_add (flat_num z1) (flat_num zf))
      (flat_add (flat_add (flat_num z1) (flat_num z2)) flat_G) (flat_add (flat_add (flat_num z1) (flat_num z2)) (flat_num zf)) flat-Δ flat_one

  pub above_flat : (kind : ℕ) → EachSeq Flat (row_of z1 z2 z0 zf kind).above
  above_flat =
      each_row (num_of z1) (num_of z2) (num_of z0) (num_of zf) (λ d n. EachSeq Flat n) (record { e1 = flat_one; e2 = flat_nil; e0 = flat_nil })
      (record { e1 = flat_one; e2 = flat_one; e0 = flat_one })
      (record { e1 = flat_one; e2 = flat_neg flat_one; e0 = flat_nil })
      (record { e1 = flat_add (flat_num z2) flat_G; e2 = flat_neg flat_G; e0 = flat_neg (flat_num z2) })
      (record { e1 = flat_nil; e2 = flat_nil; e0 = flat_nil })

-- in kinds 0 to 2 the parts are natural numbers: the divisor is an impedance
pub divisor_sum : (z1 z2 z0 zf : Ohms) (kind : ℕ) → kind < 3 → (z : Ohms) × ((row_of z1 z2 z0 zf kind).divisor ≡ num_of z)
unfolding short_of shorts G num_of earthed ◌+N◌ ◌+Ω◌
divisor_sum z1 z2 z0 zf zero h = (z1 +Ω zf, refl)
divisor_sum z1 z2 z0 zf (suc zero) h = (z1 +Ω z2 +Ω earthed z0 zf, refl)
divisor_sum z1 z2 z0 zf (suc (suc zero)) h = (z1 +Ω z2 +Ω zf, refl)
divisor_sum z1 z2 z0 zf (suc (suc (suc k))) h = let no : ⊥ = omega arith in absurd no

-- ---- an impedance that is not zero has a part, and with a part its square is not 0
pub some_part : (z : Ohms) → is_zero z ≡ false → 1 ≤ z.r + z.x
unfolding is_zero
some_part z h = go z.r z.x h
  where
    go : (r x : ℕ) → (eqb r 0 && eqb x 0) ≡ false → 1 ≤ r + x
    go zero zero e = let z : ◌≡◌ {A = ℕ} 0 1 = cc in omega arith
    go (suc r) x e = omega arith
    go zero (suc x) e = omega arith

some_square : (z : Ohms) → 1 ≤ z.r + z.x → 1 ≤ sq z
unfolding sq
some_square z h = go z.r z.x h
  where
    go : (r x : ℕ) → 1 ≤ r + x → 1 ≤ r * r + x * x
    go zero zero e = omega arith
    go (suc r) x e = omega arith
    go zero (suc x) e = omega arith

-- a sum with such an impedance has a part too
sum_part : (a b : Ohms) → 1 ≤ a.r + a.x → 1 ≤ (a +Ω b).r + (a +Ω b).x
unfolding ◌+Ω◌
sum_part a b h = omega arith

-- of Δ's square the first term is enough
some-Δ : (a b c : Ohms) → 1 ≤ a.r + a.x → 1 ≤ b.r + b.x → 1 ≤ sqΔ a b c
unfolding sqΔ
some-Δ a b c ha hb = let first = mul-pos (some_square a ha) (some_square (b +Ω c) (sum_part b c hb)) in omega arith

-- ---- D
-- a sum of two squares is no negative number
square_natural : (n : Num) → square_n n ≡ pos (nat_abs (square_n n))
unfolding square_n
square_natural n = let e = ap₂ ◌+ℤ◌ (square_pos n.x0) (square_pos n.x3) in e ∙ sym (ap (λ (z : ℤ). pos (nat_abs z)) e)

module _ (z1 z2 z0 zf : Ohms) (kind : ℕ) where
  pub D_natural : DOf z1 z2 z0 zf kind ≡ pos (nat_abs (DOf z1 z2 z0 zf kind))
  unfolding D
  D_natural = square_natural (row_of z1 z2 z0 zf kind).divisor

  -- "D is the square of its absolute value"
  pub D_square : (row_of z1 z2 z0 zf kind).divisor *N conj_n (row_of z1 z2 z0 zf kind).divisor ≡ whole_n (DOf z1 z2 z0 zf kind)
  unfolding D
  D_square = flat_square (divisor_flat z1 z2 z0 zf kind)

  -- where z1 and z2 are not zero, D is at least 1, so the divisor is not 0
  module _ (h1 : is_zero z1 ≡ false) (h2 : is_zero z2 ≡ false) where
    pub D_least : 1 ≤ nat_abs (DOf z1 z2 z0 zf kind)
    D_least =
        let p1 = some_part z1 h1 in
        each_D z1 z2 z0 zf (λ n. 1 ≤ nat_abs n) (some_square (z1 +Ω zf) (sum_part z1 zf p1))
        (some_square (z1 +Ω z2 +Ω earthed z0 zf) (sum_part (z1 +Ω z2) (earthed z0 zf) (sum_part z1 z2 p1)))
        (some_square (z1 +Ω z2 +Ω zf) (sum_part (z1 +Ω z2) zf (sum_part z1 z2 p1)))
        (some-Δ z1 z2 (earthed z0 zf) p1 (some_part z2 h2))
        (omega arith) kind

    pub D_positive : (n : ℕ) × (DOf z1 z2 z0 zf kind ≡ pos (suc n))
    D_positive = let p = D_least in (nat_abs (DOf z1 z2 z0 zf kind) - 1, D_natural ∙ ap pos (omega arith))

    pub divisor_not_zero : (row_of z1 z2 z0 zf kind).divisor ≡ nil_n → ⊥
    unfolding D square_n
    divisor_not_zero e = let p : 1 ≤ nat_abs (square_n nil_n) = subst (λ (d : Num). 1 ≤ nat_abs (square_n d)) e D_least in omega arith

    -- so it cancels
    pub cancel_divisor : (u v : Num) → (row_of z1 z2 z0 zf kind).divisor *N u ≡ (row_of z1 z2 z0 zf kind).divisor *N v → u ≡ v
    cancel_divisor u v h =
        let d = (row_of z1 z2 z0 zf kind).divisor in
        let e = flat_is (divisor_flat z1 z2 z0 zf kind) in
        cancel_complex d.x0 d.x3 u v (λ z. divisor_not_zero (e ∙ z)) (ap (λ (n : Num). n *N u) (sym e) ∙ h ∙ ap (λ (n : Num). n *N v) e)

-- ---- the currents over D are the table's fractions: the divisor times them is D times what stands above the line
pub record Over (d : Num) (whole : ℤ) (n above : Seq) : Type 0 where
  pub over1 : d *N n.s1 ≡ whole_n whole *N above.s1
  pub over2 : d *N n.s2 ≡ whole_n whole *N above.s2
  pub over0 : d *N n.s0 ≡ whole_n whole *N above.s0

over_one : (d w n : Num) → d *N conj_n d ≡ w → d *N (n *N conj_n d) ≡ w *N n
over_one d w n e = solve_by Nring 4 (λ d c w n. eqn n (d ⊗ c) w ∷ []) (λ d c w n. d ⊗ (n ⊗ c)) (λ d c w n. w ⊗ n) tt d (conj_n d) w n (e, tt)

pub currents_over : (z1 z2 z0 zf : Ohms) (kind : ℕ)
    → Over (row_of z1 z2 z0 zf kind).divisor (DOf z1 z2 z0 zf kind) (IOf z1 z2 z0 zf kind) (row_of z1 z2 z0 zf kind).above
unfolding currents
currents_over z1 z2 z0 zf kind =
    let d = (row_of z1 z2 z0 zf kind).divisor in
    let n = (row_of z1 z2 z0 zf kind).above in
    let w = whole_n (DOf z1 z2 z0 zf kind) in
    let e = D_square z1 z2 z0 zf kind in
    record { over1 = over_one d w n.s1 e; over2 = over_one d w n.s2 e; over0 = over_one d w n.s0 e }

-- ---- of the row of either table
pub row_square : (z1 z2 z0 zf : Ohms) (unearthed : Bool) (kind : ℕ) → let s = short_of (num_of z1) (num_of z2) (num_of z0) (num_of zf) unearthed kind in s.divisor *N conj_n s.divisor ≡ whole_n (D s)
row_square z1 z2 z0 zf unearthed kind =
    subst (λ (s : Short). s.divisor *N conj_n s.divisor ≡ whole_n (D s)) (sym (by_row z1 z2 z0 zf unearthed kind)) (D_square z1 z2 z0 (zf_at unearthed kind zf) (kind_at unearthed kind))

-- ---- of a question, with an earth return or without
module _ (q : Asked) where
  open q use {boards, fault, k}

  abbrev kind : ℕ
  kind = kind_at (unearthed boards k) fault.kind

  abbrev zf : Ohms
  zf = zf_at (unearthed boards k) fault.kind fault.zf

  pub the_short_is : the_short q ≡ row_of (Z1 boards k) (Z2 boards k) (Z0 boards k) zf kind
  unfolding the_short
  the_short_is = by_row (Z1 boards k) (Z2 boards k) (Z0 boards k) fault.zf (unearthed boards k) fault.kind

  pub the_d_is : the_d q ≡ DOf (Z1 boards k) (Z2 boards k) (Z0 boards k) zf kind
  unfolding the_d
  the_d_is = ap D the_short_is

  pub the_i_is : the_i q ≡ IOf (Z1 boards k) (Z2 boards k) (Z0 boards k) zf kind
  unfolding the_i
  the_i_is = ap currents the_short_is

  -- "D is the square of its absolute value"
  pub the_d_square : (the_short q).divisor *N conj_n (the_short q).divisor ≡ whole_n (the_d q)
  unfolding the_d the_short
  the_d_square = row_square (Z1 boards k) (Z2 boards k) (Z0 boards k) fault.zf (unearthed boards k) fault.kind

  pub the_d_natural : the_d q ≡ pos (nat_abs (the_d q))
  the_d_natural = rw the_d_is (D_natural (Z1 boards k) (Z2 boards k) (Z0 boards k) zf kind)

  module _ (h1 : is_zero (Z1 boards k) ≡ false) (h2 : is_zero (Z2 boards k) ≡ false) where
    pub the_d_least : 1 ≤ nat_abs (the_d q)
    the_d_least = rw the_d_is (D_least (Z1 boards k) (Z2 boards k) (Z0 boards k) zf kind h1 h2)

    pub the_d_positive : (n : ℕ) × (the_d q ≡ pos (suc n))
    the_d_positive = rw the_d_is (D_positive (Z1 boards k) (Z2 boards k) (Z0 boards k) zf kind h1 h2)

    -- "The divisor is never zero"
    pub the_short_not_zero : (the_short q).divisor ≡ nil_n → ⊥
    the_short_not_zero e = divisor_not_zero (Z1 boards k) (Z2 boards k) (Z0 boards k) zf kind h1 h2 (ap (λ (s : Short). s.divisor) (sym the_short_is) ∙ e)
