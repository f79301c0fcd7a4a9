-- "That every number fits is proved": how far from 0 each number is at most, on the way from impedances with parts up to 4,095 (Zf: 1,365) to the phases that are
-- shown. All of them up to the referred voltages are of the form R + jX, and a bound holds for every kind. Assumes nothing.
use mathlib.Core.Path.{◌≡◌, sym, ◌∙◌, ap₂, subst}
use mathlib.Core.Bool.{Bool, true, false, cond}
use mathlib.Core.List.{[], ◌∷◌}
use Prim.Native.Nat.{ℕ, zero, suc, ◌+◌, ◌-◌, ◌*◌, ◌^◌, ◌≤◌, ◌<◌}
use native.Mathlib.Nat.{le_trans, add-le-add, mul-le-mul, mul-le-mul_left}
use native.Mathlib.Omega.{arith}
use lib.Dec.{lit≤, ltb}
use lib.IntN.{ℤ, pos, negsuc, nat_abs, ◌-ℤ◌}
use Rattle.lemmas.specs.Small.{Small}
use Rattle.lemmas.proofs.Solver.{con, ◌⊕◌, ◌⊖◌, ◌⊗◌, eqn}
use Rattle.lemmas.proofs.Solve.{solve, solve_by}
use Rattle.turn.specs.declared.Num.{Num}
use Rattle.turn.specs.Number.{whole_n, one_n, power_n, ◌+N◌, ◌-N◌, ◌*N◌, turn_n, conj_n, square_n}
use Rattle.turn.specs.Bounds.{Within}
use Rattle.turn.proofs.Ring.{Nring}
use Rattle.turn.proofs.Powers.{turn_add}
use Rattle.turn.proofs.Within.{within_weak, within_add}
use Rattle.paper.specs.declared.Ohms.{Ohms}
use Rattle.paper.specs.Kind.{ohms, ◌+Ω◌}
use Rattle.paper.specs.declared.Seq.{Seq}
use Rattle.paper.specs.Fault.{nil_n, num_of, G, Δ, Short, no_short, shorts, unearthed_shorts, short_of, D, currents, lift_of}
use Rattle.paper.specs.Phase.{only_if, voltage_of, shows}
use Rattle.follows.proofs.Row.{each_row, GOf, ΔOf, row_of, DOf, IOf, zf_at, zf_small}
use Rattle.follows.proofs.Divisor.{D_square}
use Rattle.follows.proofs.Square.{earthed, sq, dot, sqΔ, real-Δ, each_D}
use Rattle.paper.specs.Bounds.{AtMost, Plane, EachSeq, most_d, most_i, most_w, most_lift}
use Rattle.fits.proofs.Plane.{plane_num, plane_whole, plane_weak, plane_add, plane_neg, plane_sub, plane_mul, plane_conj, plane_turn}

-- ---- the bounds
abbrev pub most_g : ℕ
most_g = 8190

-- of a sum of impedances, the divisor of kinds 0 to 2
abbrev pub most_sum : ℕ
most_sum = 16380

-- of Δ, and so of any divisor
abbrev pub mostΔ : ℕ
mostΔ = 167690250

-- of what stands above the line: Z2 + G
abbrev pub most_above : ℕ
most_above = 12285

-- of an impedance times a sequence current: 2 · 4,095 times most_i
abbrev pub most_drop : ℕ
most_drop = 33744023934075000

-- the impedances of an accepted question
pub record Ranged (z1 z2 z0 zf : Ohms) : Type 0 where
  pub upto1 : AtMost 4095 z1
  pub upto2 : AtMost 4095 z2
  pub upto0 : AtMost 4095 z0
  pub uptof : AtMost 1365 zf

-- the four clauses of a contract as one record
pub ranged : {z1 z2 z0 zf : Ohms} → AtMost 4095 z1 × (AtMost 4095 z2 × (AtMost 4095 z0 × AtMost 1365 zf)) → Ranged z1 z2 z0 zf
ranged (u1, (u2, (u0, uf))) = record { upto1 = u1; upto2 = u2; upto0 = u0; uptof = uf }

-- the Zf that a fault has at a board without earth return is no larger
pub ranged_at : {z1 z2 z0 zf : Ohms} (unearthed : Bool) (kind : ℕ) → Ranged z1 z2 z0 zf → Ranged z1 z2 z0 (zf_at unearthed kind zf)
ranged_at {zf = zf} unearthed kind s = record { upto1 = s.upto1; upto2 = s.upto2; upto0 = s.upto0; uptof = zf_small 1365 zf unearthed kind s.uptof }

-- ---- D, as the natural number that it is
upto_add : {b d : ℕ} {y z : Ohms} → AtMost b y → AtMost d z → AtMost (b + d) (y +Ω z)
unfolding ◌+Ω◌
upto_add u v = record { r_most = add-le-add u.r_most v.r_most; x_most = add-le-add u.x_most v.x_most }

dot_most : {b d : ℕ} {y z : Ohms} → AtMost b y → AtMost d z → dot y z ≤ b * d + b * d
unfolding dot
dot_most u v = add-le-add (mul-le-mul u.r_most v.r_most) (mul-le-mul u.x_most v.x_most)

sq_most : {b : ℕ} {z : Ohms} → AtMost b z → sq z ≤ b * b + b * b
unfolding sq dot
sq_most u = dot_most u u

sqΔ-most : (a b c : Ohms) → AtMost 4095 a → AtMost 4095 b → AtMost 8190 c → sqΔ a b c ≤ most_d
unfolding sqΔ
sqΔ-most a b c u v w =
    add-le-add (add-le-add (add-le-add (mul-le-mul (sq_most u) (sq_most (upto_add v w))) (mul-le-mul (sq_most v) (sq_most w))) (mul-le-mul_left 2 (mul-le-mul (dot_most u w) (sq_most v))))
    (mul-le-mul_left 2 (mul-le-mul (dot_most u v) (sq_most w)))

-- ---- a difference of natural numbers is no further from 0 than the larger
difference : {b m n : ℕ} → m ≤ b → n ≤ b → Small b (pos m -ℤ pos n)
difference {b} {m} {n} h k = record { small = go n k }
  where
    less : (n : ℕ) → suc n ≤ b → (c : Bool) → nat_abs (cond c (negsuc (suc n - suc m)) (pos (m - suc n))) ≤ b
    less n k true = omega arith
    less n k false = omega arith

    go : (n : ℕ) → n ≤ b → nat_abs (pos m -ℤ pos n) ≤ b
    go zero k = omega arith
    go (suc n) k = less n k (ltb m (suc n))

pairs : {a b c : ℕ} → a ≤ 4095 → b ≤ 4095 → c ≤ 8190 → a * b + a * c + b * c ≤ 83845125
pairs h k l = add-le-add (add-le-add (mul-le-mul h k) (mul-le-mul h l)) (mul-le-mul k l)

-- ---- from the impedances to the currents
pub plane_one : Plane 1 one_n
unfolding power_n
plane_one = plane_whole (record { small = lit≤ tt })

plane_nil : Plane 0 nil_n
plane_nil = plane_whole (record { small = lit≤ tt })

module _ {z1 z2 z0 zf : Ohms} (s : Ranged z1 z2 z0 zf) where
  p1 : Plane 4095 (num_of z1)
  p1 = plane_num s.upto1

  p2 : Plane 4095 (num_of z2)
  p2 = plane_num s.upto2

  p0 : Plane 4095 (num_of z0)
  p0 = plane_num s.upto0

  pf : Plane 1365 (num_of zf)
  pf = plane_num s.uptof

  pub G_plane : Plane most_g (GOf z1 z2 z0 zf)
  unfolding G
  G_plane = plane_add p0 (plane_add (plane_add pf pf) pf)

  pub Δ-plane : Plane mostΔ (ΔOf z1 z2 z0 zf)
  unfolding Δ
  Δ-plane = plane_add (plane_add (plane_mul p1 p2) (plane_mul p1 G_plane)) (plane_mul p2 G_plane)

  -- its real part, a difference of two such sums, is half of that
  pub Δ-real : Small 83845125 (ΔOf z1 z2 z0 zf).x0
  unfolding earthed
  Δ-real =
      let g = upto_add s.upto0 (upto_add (upto_add s.uptof s.uptof) s.uptof) in
      subst (Small 83845125) (sym (real-Δ z1 z2 z0 zf))
      (difference (pairs s.upto1.r_most s.upto2.r_most g.r_most) (pairs s.upto1.x_most s.upto2.x_most g.x_most))

  pub divisor_plane : (kind : ℕ) → Plane mostΔ (row_of z1 z2 z0 zf kind).divisor
  divisor_plane =
      each_row (num_of z1) (num_of z2) (num_of z0) (num_of zf) (λ d n. Plane mostΔ d) (plane_weak (lit≤ tt) (plane_add p1 pf))
      (plane_weak (lit≤ tt) (plane_add (plane_add p1 p2) G_plane))
      (plane_weak (lit≤ tt) (plane_add (plane_add p1 p2) pf))
      Δ-plane
      (plane_weak (lit≤ tt) plane_one)

  -- kinds 0 to 2 stay far below that
  pub sum_plane : (kind : ℕ) → kind < 3 → Plane most_sum (row_of z1 z2 z0 zf kind).divisor
  unfolding short_of shorts
  sum_plane zero h = plane_weak (lit≤ tt) (plane_add p1 pf)
  sum_plane (suc zero) h = plane_add (plane_add p1 p2) G_plane
  sum_plane (suc (suc zero)) h = plane_weak (lit≤ tt) (plane_add (plane_add p1 p2) pf)
  sum_plane (suc (suc (suc k))) h = let no : ⊥ = omega arith in absurd no

  pub above_plane : (kind : ℕ) → EachSeq (Plane most_above) (row_of z1 z2 z0 zf kind).above
  above_plane =
      let one = plane_weak {d = most_above} (lit≤ tt) plane_one in
      let nil = plane_weak {d = most_above} (lit≤ tt) plane_nil in
      each_row (num_of z1) (num_of z2) (num_of z0) (num_of zf) (λ d n. EachSeq (Plane most_above) n) (record { e1 = one; e2 = nil; e0 = nil })
      (record { e1 = one; e2 = one; e0 = one })
      (record { e1 = one; e2 = plane_neg one; e0 = nil })
      (record { e1 = plane_add p2 G_plane; e2 = plane_weak (lit≤ tt) (plane_neg G_plane); e0 = plane_weak (lit≤ tt) (plane_neg p2) })
      (record { e1 = nil; e2 = nil; e0 = nil })

  pub D_most : (kind : ℕ) → nat_abs (DOf z1 z2 z0 zf kind) ≤ most_d
  unfolding earthed
  D_most =
      let three = upto_add (upto_add s.uptof s.uptof) s.uptof in
      let g = upto_add s.upto0 three in
      each_D z1 z2 z0 zf (λ n. nat_abs n ≤ most_d) (le_trans (sq_most (upto_add s.upto1 s.uptof)) (lit≤ tt))
      (le_trans (sq_most (upto_add (upto_add s.upto1 s.upto2) g)) (lit≤ tt))
      (le_trans (sq_most (upto_add (upto_add s.upto1 s.upto2) s.uptof)) (lit≤ tt))
      (sqΔ-most z1 z2 (earthed z0 zf) s.upto1 s.upto2 g)
      (lit≤ tt)

  pub currents_plane : (kind : ℕ) → EachSeq (Plane most_i) (IOf z1 z2 z0 zf kind)
  unfolding currents
  currents_plane kind =
      let c = plane_conj (divisor_plane kind) in
      let n = above_plane kind in
      record { e1 = plane_mul n.e1 c; e2 = plane_mul n.e2 c; e0 = plane_mul n.e0 c }

-- ---- an impedance times a current
pub drop_plane : {z : Ohms} {n : Num} → AtMost 4095 z → Plane most_i n → Plane most_drop (num_of z *N n)
drop_plane u p = plane_mul (plane_num u) p

-- ---- what W0 is lifted by, where there is no earth return: the faulted board's W1
abbrev first_of : Ohms → Short → Num
first_of z1 s = whole_n (D s) -N num_of z1 *N (currents s).s1

-- a + b times c less a times c
leaves : (a b c w : Num) → (a +N b +N nil_n) *N c ≡ w → w -N a *N (one_n *N c) ≡ b *N c
unfolding power_n
leaves a b c w e =
    solve_by Nring 4 (λ a b c w. eqn (con (pos 1)) w ((a ⊕ b ⊕ con (pos 0)) ⊗ c) ∷ []) (λ a b c w. w ⊖ a ⊗ (con (pos 1) ⊗ c)) (λ a b c w. b ⊗ c) tt a b c w (sym e, tt)

module _ {z1 z2 z0 zf : Ohms} (s : Ranged z1 z2 z0 zf) where
  -- of no current it is 1
  first_none : Plane most_lift (first_of z1 no_short)
  unfolding D currents square_n power_n
  first_none = plane_weak (lit≤ tt) (plane_sub (plane_whole {b = 1} (record { small = lit≤ tt })) (plane_mul (p1 s) (plane_mul plane_nil (plane_conj plane_one))))

  -- of two phases with Zf = 0 it is Z2 times the conjugate of Z1 + Z2
  first_two : Plane most_lift (first_of z1 (row_of z1 z2 z0 (ohms 0 0) 2))
  unfolding currents short_of shorts num_of
  first_two =
      let d = (row_of z1 z2 z0 (ohms 0 0) 2).divisor in
      subst (Plane most_lift) (sym (leaves (num_of z1) (num_of z2) (conj_n d) (whole_n (DOf z1 z2 z0 (ohms 0 0) 2)) (D_square z1 z2 z0 (ohms 0 0) 2)))
      (plane_mul (p2 s) (plane_conj (plane_add (plane_add (p1 s) (p2 s)) plane_nil)))

  pub lift_of_plane : (unearthed : Bool) (kind : ℕ) → Plane most_lift (only_if unearthed (lift_of kind (first_of z1 (short_of (num_of z1) (num_of z2) (num_of z0) (num_of zf) unearthed kind))))
  unfolding only_if lift_of short_of shorts unearthed_shorts num_of
  lift_of_plane false kind = plane_weak (lit≤ tt) plane_nil
  lift_of_plane true zero = plane_weak (lit≤ tt) plane_nil
  lift_of_plane true (suc zero) = plane_neg first_none
  lift_of_plane true (suc (suc zero)) = plane_weak (lit≤ tt) plane_nil
  lift_of_plane true (suc (suc (suc zero))) = first_two
  lift_of_plane true (suc (suc (suc (suc kind)))) = plane_weak (lit≤ tt) plane_nil

-- ---- the referred voltages of a board
pub voltage_of_plane : {D : ℤ} {I : Seq} {za zb zc : Ohms} {up : Num} → Small most_d D → EachSeq (Plane most_i) I → AtMost 4095 za → AtMost 4095 zb → AtMost 4095 zc → Plane most_lift up
    → EachSeq (Plane most_w) (voltage_of D I za zb zc up)
unfolding voltage_of
voltage_of_plane d p ua ub uc l =
    record {
      e1 = plane_sub (plane_whole d) (drop_plane ua p.e1);
      e2 = plane_weak (lit≤ tt) (plane_neg (drop_plane ub p.e2));
      e0 = plane_weak (lit≤ tt) (plane_add (plane_neg (drop_plane uc p.e0)) l);
    }

-- ---- what is shown
-- the last turn may be taken term by term, so the sum is no further from 0 after it
pub shows_turned : (p sj sk : ℕ) (X : Seq) (i : ℕ)
    → shows p sj sk X i ≡ turn_n (8 * p) X.s0 +N turn_n (8 * p + (8 * i + 11 * sj + sk)) X.s1 +N turn_n (8 * p + (4 * i + sj + 11 * sk)) X.s2
unfolding shows
shows_turned p sj sk X i =
    let u = 8 * i + 11 * sj + sk in
    let v = 4 * i + sj + 11 * sk in
    solve Nring 6 (λ w a b e u v. w ⊗ (e ⊕ u ⊗ a ⊕ v ⊗ b)) (λ w a b e u v. w ⊗ e ⊕ w ⊗ (u ⊗ a) ⊕ w ⊗ (v ⊗ b)) tt (power_n (8 * p)) X.s1 X.s2 X.s0 (power_n u) (power_n v)
    ∙ ap₂ (λ (a b : Num). turn_n (8 * p) X.s0 +N a +N b) (sym (turn_add (8 * p) u X.s1)) (sym (turn_add (8 * p) v X.s2))

pub shows_within : {b : ℕ} {X : Seq} → EachSeq (Plane b) X → (p sj sk i : ℕ) → Within (b + b + b) (shows p sj sk X i)
shows_within {b} {X} x p sj sk i =
    subst (Within (b + b + b)) (sym (shows_turned p sj sk X i))
    (within_add (within_add (plane_turn (8 * p) x.e0) (plane_turn (8 * p + (8 * i + 11 * sj + sk)) x.e1)) (plane_turn (8 * p + (4 * i + sj + 11 * sk)) x.e2))

-- the widest, the voltages, are within 2 ^ 58
pub shows_fits : {X : Seq} → EachSeq (Plane most_w) X → (p sj sk i : ℕ) → Within (2 ^ 58) (shows p sj sk X i)
shows_fits x p sj sk i = within_weak (lit≤ tt) (shows_within x p sj sk i)
