-- What each contract of this crate rules out: a call that it allows, and an answer that it does not. Assumes nothing.
use mathlib.Core.List.{[], ◌∷◌}
use mathlib.Core.Path.{refl}
use Prim.Native.Nat.{◌^◌}
use native.Mathlib.Omega.{arith}
use lib.IntN.{pos}
use Rattle.lemmas.proofs.RuledOut.{◌↛◌, RuledOut, ever, by_equation, whole}
use Rattle.turn.specs.declared.Num.{Num}
use Rattle.turn.specs.Number.{◌+N◌, ◌·N◌, ◌*N◌, times_t, power_n, turn_n, conj_n, square_n}
use Rattle.turn.proofs.Told.{minus, num, told, within}
use Rattle.turn.specs.Bounds.{Addable, Squarable, Factors}
use Rattle.phasor.proofs.sum.conj.Reads as conj
use Rattle.phasor.proofs.product.square.Reads as square
use Rattle.phasor.proofs.turns.row.Reads as row
use Rattle.phasor.proofs.turns.turn.Reads as turn

-- ---- two numbers, and 3 + j4
abbrev n : Num
n = num (pos 1) (pos 2) (pos 3) (pos 4)

abbrev m : Num
m = num (pos 5) (pos 6) (pos 7) (pos 8)

abbrev z : Num
z = num (pos 3) (pos 0) (pos 0) (pos 4)

n_small : Addable n
n_small = within (2 ^ 61) n tt

m_small : Addable m
m_small = within (2 ^ 61) m tt

n_m : Factors n m
n_m = record { left = 4; right = 8; one = within 4 n tt; other = within 8 m tt; room = omega arith }

z_squares : Squarable z
z_squares = record { no_t = refl; no_t² = refl; within = within (2 ^ 30) z tt }

-- ---- the contracts
pub conj_not : RuledOut (conj.Pre tt) (ever (conj.Post tt)) (
    (n, tt) ↛ num (pos 4) (pos 2) (minus 3) (minus 4)  -- conj_keeps_t3
    ∷ (n, tt) ↛ num (pos 4) (pos 4) (minus 3) (minus 6)  -- conj_other_coordinate
    ∷ [])
unfolding conj_n ◌+N◌ ◌·N◌ power_n times_t
conj_not = by_equation (λ a. conj_n a.0) told (λ a r e s. s) (n_small, (n_small, tt)) tt

pub square_not : RuledOut (square.Pre tt) (ever (square.Post tt)) (
    (z, tt) ↛ pos 21  -- square_mixed
    ∷ (z, tt) ↛ pos 9  -- square_of_t
    ∷ [])
unfolding square_n
square_not = by_equation (λ a. square_n a.0) whole (λ a r e s. s) (z_squares, (z_squares, tt)) tt

pub row_not : RuledOut (row.Pre tt) (ever (row.Post tt)) (
    (7, tt) ↛ num (pos 0) (pos 1) (pos 0) (pos 0)  -- table_sign
    ∷ (11, tt) ↛ num (pos 0) (pos 0) (pos 1) (minus 1)  -- table_other_coordinate
    ∷ (6, tt) ↛ num (pos 1) (pos 0) (pos 0) (pos 0)  -- table_half_round
    ∷ (1, tt) ↛ num (pos 0) (pos 1) (pos 0) (minus 1)  -- table_backwards
    ∷ (12, tt) ↛ num (pos 0) (pos 1) (pos 0) (minus 1)  -- table_stops_at_the_last
    ∷ [])
unfolding power_n times_t
row_not = by_equation (λ a. power_n a.0) told (λ a r e s. s) (tt, (tt, (tt, (tt, (tt, tt))))) tt

pub turn_not : RuledOut (turn.Pre tt) (ever (turn.Post tt)) (
    (n, (1, tt)) ↛ num (pos 4) (pos 1) (pos 6) (pos 3)  -- turn_sign
    ∷ (n, (6, tt)) ↛ n  -- turn_half_round
    ∷ (n, (5, tt)) ↛ num (pos 4) (minus 1) (minus 6) (minus 3)  -- turn_backwards
    ∷ (n, (1, tt)) ↛ num (minus 4) (pos 2) (pos 6) (pos 3)  -- turn_other_coordinate
    ∷ (n, (3, tt)) ↛ num (minus 6) (minus 3) (pos 2) (pos 1)  -- turn_sum_left_out
    ∷ (z, (1, tt)) ↛ num (minus 4) (pos 3) (pos 0) (pos 0)  -- turn_t4_is_minus_1
    ∷ (n, (13, tt)) ↛ num (pos 2) (pos 4) (pos 4) (minus 1)  -- turn_stops_at_the_last
    ∷ (n, (100, tt)) ↛ num (pos 4) (pos 6) (minus 1) (minus 2)  -- turn_sixteen_is_one
    ∷ [])
unfolding ◌*N◌ ◌+N◌ ◌·N◌ power_n times_t
turn_not =
    by_equation (λ a. turn_n a.1.0 a.0) told (λ a r e s. s)
    (n_small, (n_small, (n_small, (n_small, (n_small, (within (2 ^ 61) z tt, (n_small, (n_small, tt)))))))) tt
