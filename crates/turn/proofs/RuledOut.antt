-- What each contract of this crate rules out: a call that it allows, and an answer that it does not. Assumes nothing.
use mathlib.Core.List.{[], ◌∷◌}
use Prim.Native.Nat.{◌^◌}
use native.Mathlib.Omega.{arith}
use lib.IntN.{ℤ, pos}
use Rattle.lemmas.proofs.RuledOut.{◌↛◌, RuledOut, ever, by_equation}
use Rattle.turn.specs.declared.Num.{Num}
use Rattle.turn.specs.Number.{neg_n, ◌-N◌, whole_n, complex_n, one_n, j_n, a_n, a2_n, ◌*N◌, ◌+N◌, ◌·N◌, power_n, times_t}
use Rattle.turn.specs.Bounds.{Addable, Factors}
use Rattle.turn.proofs.Told.{minus, num, told, within}
use Rattle.turn.proofs.arithmetic.NumAdd.add.Reads as add
use Rattle.turn.proofs.arithmetic.NumNeg.neg.Reads as neg
use Rattle.turn.proofs.arithmetic.NumSub.sub.Reads as sub
use Rattle.turn.proofs.arithmetic.NumMul.mul.Reads as mul
use Rattle.turn.proofs.Num.one.Reads as one
use Rattle.turn.proofs.Num.j.Reads as j
use Rattle.turn.proofs.Num.a.Reads as a
use Rattle.turn.proofs.Num.a2.Reads as a2
use Rattle.turn.proofs.Num.whole.Reads as whole
use Rattle.turn.proofs.Num.complex.Reads as complex

abbrev 0ℤ : ℤ
0ℤ = pos 0

abbrev 1ℤ : ℤ
1ℤ = pos 1

abbrev -1ℤ : ℤ
-1ℤ = minus 1

-- ---- the contracts
pub one_not : RuledOut (one.Pre tt) (ever (one.Post tt)) (
    tt ↛ num 0ℤ 0ℤ 0ℤ 1ℤ  -- one_is_j
    ∷ tt ↛ num (pos 2) 0ℤ 0ℤ 0ℤ  -- one_is_two
    ∷ [])
unfolding power_n
one_not = by_equation (λ a. one_n) told (λ a z e s. s) (tt, (tt, tt)) tt

pub j_not : RuledOut (j.Pre tt) (ever (j.Post tt)) (
    tt ↛ num 0ℤ 0ℤ 0ℤ -1ℤ  -- j_backwards
    ∷ tt ↛ num 1ℤ 0ℤ 0ℤ 0ℤ  -- j_is_one
    ∷ [])
unfolding power_n times_t
j_not = by_equation (λ a. j_n) told (λ a z e s. s) (tt, (tt, tt)) tt

pub a_not : RuledOut (a.Pre tt) (ever (a.Post tt)) (
    tt ↛ num 0ℤ 0ℤ -1ℤ 0ℤ  -- a_is_a2
    ∷ tt ↛ num 0ℤ 0ℤ 1ℤ 0ℤ  -- a_is_t2
    ∷ [])
unfolding power_n times_t
a_not = by_equation (λ a. a_n) told (λ a z e s. s) (tt, (tt, tt)) tt

pub a2_not : RuledOut (a2.Pre tt) (ever (a2.Post tt)) (
    tt ↛ num 0ℤ 0ℤ 1ℤ 0ℤ  -- a2_forward
    ∷ tt ↛ num -1ℤ 0ℤ 1ℤ 0ℤ  -- a2_is_a
    ∷ [])
unfolding ◌*N◌ ◌+N◌ ◌·N◌ power_n times_t
a2_not = by_equation (λ a. a2_n) told (λ a z e s. s) (tt, (tt, tt)) tt

pub whole_not : RuledOut (whole.Pre tt) (ever (whole.Post tt)) (
    (pos 7, tt) ↛ num 1ℤ 0ℤ 0ℤ 0ℤ  -- whole_fixed
    ∷ (pos 7, tt) ↛ num 0ℤ 0ℤ 0ℤ 0ℤ  -- whole_lost
    ∷ [])
whole_not = by_equation (λ a. whole_n a.0) told (λ a z e s. s) (tt, (tt, tt)) tt

pub complex_not : RuledOut (complex.Pre tt) (ever (complex.Post tt)) (
    (pos 3, (pos 4, tt)) ↛ num (pos 4) 0ℤ 0ℤ (pos 3)  -- complex_exchanged
    ∷ (pos 3, (pos 4, tt)) ↛ num (pos 3) 0ℤ 0ℤ 0ℤ  -- complex_without_x
    ∷ [])
complex_not = by_equation (λ a. complex_n a.0 a.1.0) told (λ a z e s. s) (tt, (tt, tt)) tt

-- ---- the operators
abbrev n : Num
n = num (pos 1) (pos 2) (pos 3) (pos 4)

abbrev m : Num
m = num (pos 5) (pos 6) (pos 7) (pos 8)

n_small : Addable n
n_small = within (2 ^ 61) n tt

m_small : Addable m
m_small = within (2 ^ 61) m tt

n_m : Factors n m
n_m = record { left = 4; right = 8; one = within 4 n tt; other = within 8 m tt; room = omega arith }

pub add_not : RuledOut (add.Pre tt) (ever (add.Post tt)) (
    (n, (m, tt)) ↛ num (pos 2) (pos 8) (pos 10) (pos 12)  -- add_first_twice
    ∷ (n, (m, tt)) ↛ num (pos 6) (pos 8) (pos 10) (pos 11)  -- add_other_coordinate
    ∷ [])
unfolding ◌+N◌
add_not = by_equation (λ a. a.0 +N a.1.0) told (λ a r e s. s) ((n_small, m_small), ((n_small, m_small), tt)) tt

pub neg_not : RuledOut (neg.Pre tt) (ever (neg.Post tt)) (
    (n, tt) ↛ num (minus 1) (minus 3) (minus 3) (minus 4)  -- neg_other_coordinate
    ∷ (n, tt) ↛ n  -- neg_itself
    ∷ [])
unfolding neg_n
neg_not = by_equation (λ a. neg_n a.0) told (λ a r e s. s) (within (2 ^ 62) n tt, (within (2 ^ 62) n tt, tt)) tt

pub sub_not : RuledOut (sub.Pre tt) (ever (sub.Post tt)) (
    (n, (m, tt)) ↛ num (pos 4) (pos 4) (pos 4) (pos 4)  -- sub_exchanged
    ∷ (n, (m, tt)) ↛ num (pos 0) (pos 0) (pos 0) (pos 0)  -- sub_itself
    ∷ [])
unfolding ◌+N◌ neg_n
sub_not = by_equation (λ a. a.0 -N a.1.0) told (λ a r e s. s) ((n_small, m_small), ((n_small, m_small), tt)) tt

pub mul_not : RuledOut (mul.Pre tt) (ever (mul.Post tt)) (
    (n, (m, tt)) ↛ num (minus 84) (minus 36) (pos 95) (pos 112)  -- mul_other_pair
    ∷ (n, (m, tt)) ↛ num (pos 24) (minus 36) (pos 95) (pos 112)  -- mul_sign
    ∷ (n, (m, tt)) ↛ num (minus 88) (minus 36) (pos 86) (pos 112)  -- mul_t5_for_t4
    ∷ [])
unfolding ◌*N◌ ◌+N◌ ◌·N◌ times_t
mul_not = by_equation (λ a. a.0 *N a.1.0) told (λ a r e s. s) (n_m, (n_m, (n_m, tt))) tt
