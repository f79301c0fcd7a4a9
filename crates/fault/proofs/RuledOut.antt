-- What each contract of this crate rules out: a call that it allows, and an answer that it does not. Assumes nothing.
use mathlib.Core.Bool.{Bool, true, false, not, cond, ◌&&◌}
use mathlib.Core.List.{[], ◌∷◌, ◌++◌}
use Prim.Native.Nat.{ℕ, ◌≤◌}
use native.Mathlib.Omega.{arith}
use lib.Dec.{eqb}
use lib.IntN.{ℤ, pos, negsuc}
use lib.ListN.{get_or}
use Rattle.lemmas.specs.Small.{Small}
use Rattle.turn.specs.declared.Num.{Num}
use Rattle.turn.specs.Number.{whole_n, complex_n, ◌+N◌, ◌-N◌, neg_n, ◌·N◌, times_t, ◌*N◌, power_n, conj_n, square_n}
use Rattle.turn.proofs.Told.{told}
use Rattle.paper.specs.declared.Ohms.{Ohms}
use Rattle.paper.specs.declared.Seq.{Seq}
use Rattle.paper.specs.Bounds.{AtMost, Plane, EachSeq, most_d, most_i, most_lift}
use Rattle.paper.specs.Kind.{ohms}
use Rattle.paper.specs.Fault.{nil_n, num_of, seq, G, short_of, lift_of, fault_open}
use Rattle.paper.specs.Phase.{only_if, voltage_of, four}
use Rattle.paper.proofs.Told.{parts, sequences, small}
use Rattle.fits.proofs.Plane.{plane_whole}
use Rattle.fault.specs.declared.Shorted.{Shorted}
use Rattle.fault.specs.declared.impedances.Impedances.{Impedances}
use Rattle.fault.specs.declared.kinds.FaultKind.TheVariants.{ThreePhases, OneToEarth, TwoPhases, TwoToEarth, Nothing}
use Rattle.fault.specs.declared.volts.OverD.{OverD}
use Rattle.fault.specs.Kinds.{kind_of, number_of}
use Rattle.fault.specs.Short.{shorted_of}
use Rattle.lemmas.proofs.RuledOut.{◌↛◌, RuledOut, ever, by, by_equation, list, wholes}
use Rattle.fault.proofs.impedances.Impedances.earthed.Reads as earthed
use Rattle.fault.proofs.impedances.Impedances.divisor.Reads as divisor
use Rattle.fault.proofs.kinds.FaultKindFromU8.from.Reads as from
use Rattle.fault.proofs.seq.Reads as seq-of
use Rattle.fault.proofs.unearthed.kind_at.Reads as kind_at
use Rattle.fault.proofs.unearthed.zf_at.Reads as zf-at
use Rattle.fault.proofs.unearthed.lift.Reads as lift
use Rattle.fault.proofs.short.Reads as short
use Rattle.fault.proofs.volts.OverD.first.Reads as first
use Rattle.fault.proofs.volts.voltage.Reads as voltage

-- ---- whole numbers, j times a number; impedances of nothing and of j2
abbrev w : ℕ → Num
w n = whole_n (pos n)

abbrev +j : ℕ → Num
+j x = complex_n (pos 0) (pos x)

abbrev -j : ℕ → Num
-j x = neg_n (+j x)

abbrev none : Ohms
none = ohms 0 0

abbrev j2 : Ohms
j2 = ohms 0 2

-- a fault of each kind among them, with an earth return, and without one
abbrev kind : ℕ → Ohms × (Ohms × (Ohms × (Ohms × (ℕ × (Bool × Unit {0})))))
kind k = (j2, (none, (j2, (none, (k, (true, tt))))))

abbrev unearthed : ℕ → Ohms × (Ohms × (Ohms × (Ohms × (ℕ × (Bool × Unit {0})))))
unearthed k = (j2, (j2, (none, (j2, (k, (false, tt))))))

abbrev shorted : ℕ → Num → Num → Num → Num → Shorted
shorted d i1 i2 i0 up = record { d = pos d; i = seq i1 i2 i0; lift = up }

-- ---- a current of 1 in each sequence
abbrev ones : Seq
ones = let one = whole_n (pos 1) in seq one one one

pub ones_small : EachSeq (Plane most_i) ones
ones_small = let p : Plane most_i (whole_n (pos 1)) = plane_whole (record { small = omega arith }) in record { e1 = p; e2 = p; e0 = p }

-- ---- impedances, and 1 in each sequence over 4
abbrev in_range : (z1 z2 z0 zf : Ohms) → AtMost 4095 z1 → AtMost 4095 z2 → AtMost 4095 z0 → AtMost 1365 zf → Impedances
in_range z1 z2 z0 zf u1 u2 u0 uf = record { z1 = z1; z2 = z2; z0 = z0; zf = zf; z1_at_most = u1; z2_at_most = u2; z0_at_most = u0; zf_at_most = uf }

abbrev over_4 : (i : Seq) → EachSeq (Plane most_i) i → OverD
over_4 i p = record { d = pos 4; i = i; d_small = record { small = omega arith }; i_plane = p }

-- Zf of j2 alone, and Z2 and Z0 of j2
abbrev zf_alone : Impedances
zf_alone = in_range none none none j2 (small tt) (small tt) (small tt) (small tt)

abbrev to_divide : Impedances
to_divide = in_range none j2 j2 none (small tt) (small tt) (small tt) (small tt)

abbrev no_current : OverD
no_current = let p : Plane most_i nil_n = plane_whole (record { small = omega arith }) in over_4 (seq nil_n nil_n nil_n) (record { e1 = p; e2 = p; e0 = p })

abbrev one_current : OverD
one_current = over_4 ones ones_small

-- ---- the contracts
pub from_not : RuledOut (from.Pre tt) (ever (from.Post tt)) (
    (1, tt) ↛ TwoPhases  -- one_phase_is_two
    ∷ (4, tt) ↛ ThreePhases  -- four_is_a_kind
    ∷ [])
unfolding kind_of number_of
from_not = by_equation (λ a. kind_of a.0) number_of (λ a z e s. s) (tt, (tt, tt)) tt

pub earthed_not : RuledOut (earthed.Pre tt) (ever (earthed.Post tt)) (
    (zf_alone, tt) ↛ +j 2  -- zf_once
    ∷ (zf_alone, tt) ↛ +j 4  -- zf_twice
    ∷ [])
unfolding num_of G ◌+N◌
earthed_not = by_equation (λ a. G (num_of a.0.z1) (num_of a.0.z2) (num_of a.0.z0) (num_of a.0.zf)) told (λ a z e s. s) (tt, (tt, tt)) tt

pub divisor_not : RuledOut (divisor.Pre tt) (ever (divisor.Post tt)) (
    (to_divide, (TwoToEarth, tt)) ↛ nil_n  -- delta_without_g
    ∷ (to_divide, (Nothing, tt)) ↛ +j 1  -- kind_4_by_j
    ∷ [])
unfolding number_of fault_open ◌+N◌ neg_n ◌·N◌ times_t ◌*N◌ power_n
divisor_not =
    by_equation (λ a. (short_of (num_of a.0.z1) (num_of a.0.z2) (num_of a.0.z0) (num_of a.0.zf) false (number_of a.1.0)).divisor) told (λ a z e s. s) (tt, (tt, tt)) tt

pub seq_not : RuledOut (seq-of.Pre tt) (ever (seq-of.Post tt)) (
    (+j 1, (+j 2, (+j 3, tt))) ↛ seq (+j 1) (+j 3) (+j 2)  -- sequences_exchanged
    ∷ (+j 1, (+j 2, (+j 3, tt))) ↛ seq (+j 1) (+j 1) (+j 3)  -- negative_is_positive
    ∷ [])
seq_not = by_equation (λ a. seq a.0 a.1.0 a.1.1.0) (λ s. wholes (sequences s)) (λ a z e s. s) (tt, (tt, tt)) tt

pub kind_at_not : RuledOut (kind_at.Pre tt) (ever (kind_at.Post tt)) (
    (OneToEarth, (false, tt)) ↛ OneToEarth  -- one_phase_draws
    ∷ (TwoToEarth, (false, tt)) ↛ TwoToEarth  -- earth_current_without_return
    ∷ (TwoToEarth, (true, tt)) ↛ TwoPhases  -- return_overlooked
    ∷ (ThreePhases, (false, tt)) ↛ Nothing  -- three_phases_draw_nothing
    ∷ [])
unfolding number_of
kind_at_not = by number_of (λ a. let n = number_of a.0 in cond (not a.1.0) (get_or (0 ∷ 4 ∷ 2 ∷ 2 ∷ []) n n) n) (λ a z s. s.1) (tt, (tt, (tt, (tt, tt)))) tt

pub zf_at_not : RuledOut (zf-at.Pre tt) (ever (zf-at.Post tt)) (
    (j2, (TwoToEarth, (false, tt))) ↛ j2  -- zf_between_phases
    ∷ (j2, (TwoPhases, (false, tt))) ↛ none  -- zf_of_kind_2_lost
    ∷ (j2, (TwoToEarth, (true, tt))) ↛ none  -- zf_lost_with_return
    ∷ [])
unfolding number_of
zf_at_not = by_equation (λ a. cond (not a.1.1.0 && eqb (number_of a.1.0) 3) (ohms 0 0) a.0) (λ z. list (parts z)) (λ a z e s. s) (tt, (tt, (tt, tt))) tt

pub lift_not : RuledOut (lift.Pre tt) (ever (lift.Post tt)) (
    (no_current, (zf_alone, (OneToEarth, (false, tt)))) ↛ w 4  -- one_phase_rises
    ∷ (no_current, (zf_alone, (TwoToEarth, (false, tt)))) ↛ neg_n (w 4)  -- two_phases_fall
    ∷ (no_current, (zf_alone, (TwoPhases, (false, tt)))) ↛ w 4  -- lifted_clear_of_earth
    ∷ (no_current, (zf_alone, (TwoToEarth, (true, tt)))) ↛ w 4  -- lifted_with_return
    ∷ [])
unfolding number_of only_if fault_open ◌+N◌ neg_n ◌·N◌ times_t ◌*N◌
lift_not =
    by_equation (λ a. only_if (not a.1.1.1.0) (lift_of (number_of a.1.1.0) (whole_n a.0.d -N num_of a.1.0.z1 *N a.0.i.s1))) told (λ a z e s. s)
    (tt, (tt, (tt, (tt, tt)))) tt

pub short_not : RuledOut (short.Pre tt) (ever (short.Post tt)) (
    kind 0 ↛ shorted 1 (-j 2) nil_n nil_n nil_n  -- d_is_one
    ∷ kind 0 ↛ shorted 4 (+j 2) nil_n nil_n nil_n  -- not_conjugate
    ∷ kind 0 ↛ shorted 4 (-j 2) (-j 2) nil_n nil_n  -- i2_of_kind_0
    ∷ kind 1 ↛ shorted 16 (-j 4) (-j 4) nil_n nil_n  -- i0_of_kind_1
    ∷ kind 1 ↛ shorted 16 (-j 4) (-j 4) (-j 4) (neg_n (w 8))  -- lift_with_return
    ∷ kind 2 ↛ shorted 4 (+j 2) (-j 2) nil_n nil_n  -- i2_not_negated
    ∷ kind 2 ↛ shorted 4 (-j 2) nil_n (+j 2) nil_n  -- i_exchanged
    ∷ kind 3 ↛ shorted 16 (-j 8) nil_n (+j 8) nil_n  -- i2_i0_exchanged
    ∷ unearthed 1 ↛ shorted 0 nil_n nil_n nil_n (neg_n (w 1))  -- unearthed_d_0
    ∷ unearthed 1 ↛ shorted 1 nil_n nil_n nil_n (w 1)  -- lift_of_one
    ∷ unearthed 1 ↛ shorted 1 nil_n nil_n nil_n nil_n  -- healthy_phases_stay
    ∷ unearthed 1 ↛ shorted 100 (-j 10) (-j 10) (-j 10) nil_n  -- missing_return_is_zero
    ∷ unearthed 2 ↛ shorted 36 (-j 6) (+j 6) nil_n (w 24)  -- lift_clear_of_earth
    ∷ unearthed 3 ↛ shorted 36 (-j 6) (+j 6) nil_n (w 24)  -- two_phases_with_zf
    ∷ unearthed 3 ↛ shorted 16 (-j 4) (+j 4) nil_n (neg_n (w 8))  -- lift_turned
    ∷ unearthed 3 ↛ shorted 784 (-j 224) (+j 168) (+j 56) nil_n  -- missing_return_is_zero_of_two
    ∷ [])
unfolding shorted_of only_if fault_open ◌+N◌ neg_n ◌·N◌ times_t ◌*N◌ power_n conj_n square_n
short_not =
    by_equation (λ a. shorted_of a.0 a.1.0 a.1.1.0 a.1.1.1.0 a.1.1.1.1.0 a.1.1.1.1.1.0) (λ s. wholes (s.d ∷ sequences s.i ++ four s.lift)) (λ a z e s. s)
    (asked, (asked, (asked, (asked, (asked, (asked, (asked, (asked, (no_return, (no_return, (no_return, (no_return, (no_return, (no_return, (no_return, (no_return, tt)))))))))))))))) tt
  where
    asked : AtMost 4095 j2 × (AtMost 4095 none × (AtMost 4095 j2 × AtMost 1365 none))
    asked = (small tt, (small tt, (small tt, small tt)))

    no_return : AtMost 4095 j2 × (AtMost 4095 j2 × (AtMost 4095 none × AtMost 1365 j2))
    no_return = (small tt, (small tt, (small tt, small tt)))

pub first_not : RuledOut (first.Pre tt) (ever (first.Post tt)) (
    (one_current, (j2, tt)) ↛ complex_n (pos 1) (negsuc 1)  -- one_for_d
    ∷ (one_current, (j2, tt)) ↛ complex_n (pos 4) (pos 2)  -- drop_added
    ∷ [])
unfolding num_of ◌+N◌ neg_n ◌·N◌ times_t ◌*N◌
first_not = by_equation (λ a. whole_n a.0.d -N num_of a.1.0 *N a.0.i.s1) told (λ a z e s. s) (small tt, (small tt, tt)) tt

-- a board that shares j2 in the first two sequences, and one that shares nothing and is lifted by 3
abbrev shares : ℤ × (Seq × (Ohms × (Ohms × (Ohms × (Num × Unit {0})))))
shares = (pos 4, (ones, (j2, (j2, (none, (nil_n, tt))))))

abbrev lifted : ℤ × (Seq × (Ohms × (Ohms × (Ohms × (Num × Unit {0})))))
lifted = (pos 4, (ones, (none, (none, (none, (w 3, tt))))))

pub voltage_not : RuledOut (voltage.Pre tt) (ever (voltage.Post tt)) (
    shares ↛ seq (complex_n (pos 1) (negsuc 1)) (-j 2) nil_n  -- w1_of_one
    ∷ shares ↛ seq (-j 2) (-j 2) nil_n  -- w1_without_d
    ∷ shares ↛ seq (complex_n (pos 4) (negsuc 1)) nil_n (-j 2)  -- w2_w0_exchanged
    ∷ lifted ↛ seq (w 4) nil_n nil_n  -- w0_not_lifted
    ∷ lifted ↛ seq (w 4) nil_n (neg_n (w 3))  -- w0_lowered
    ∷ lifted ↛ seq (w 7) nil_n nil_n  -- w1_lifted
    ∷ [])
unfolding voltage_of num_of ◌+N◌ neg_n ◌·N◌ times_t ◌*N◌
voltage_not =
    by_equation (λ a. voltage_of a.0 a.1.0 a.1.1.0 a.1.1.1.0 a.1.1.1.1.0 a.1.1.1.1.1.0) (λ s. wholes (sequences s)) (λ a z e s. s)
    (asked, (asked, (asked, (up, (up, (up, tt)))))) tt
  where
    d : Small most_d (pos 4)
    d = record { small = omega arith }

    plane : (n : ℕ) → n ≤ 3 → Plane most_lift (w n)
    plane n h = plane_whole (record { small = omega (arith, h) })

    asked : Small most_d (pos 4) × (EachSeq (Plane most_i) ones × (AtMost 4095 j2 × (AtMost 4095 j2 × (AtMost 4095 none × Plane most_lift nil_n))))
    asked = (d, (ones_small, (small tt, (small tt, (small tt, plane 0 (omega arith))))))

    up : Small most_d (pos 4) × (EachSeq (Plane most_i) ones × (AtMost 4095 none × (AtMost 4095 none × (AtMost 4095 none × Plane most_lift (w 3)))))
    up = (d, (ones_small, (small tt, (small tt, (small tt, plane 3 (omega arith))))))
