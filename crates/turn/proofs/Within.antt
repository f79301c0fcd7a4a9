-- How far the coordinates of a result are from 0. Assumes nothing.
use mathlib.Core.Path.{sym, subst}
use Prim.Native.Nat.{ℕ, zero, suc, ◌+◌, ◌*◌, ◌≤◌}
use native.Mathlib.Omega.{arith}
use lib.Dec.{lit≤}
use lib.IntN.{ℤ, pos, ◌+ℤ◌, +ℤ_idl, +ℤ_idr}
use Rattle.lemmas.specs.Small.{Small}
use Rattle.lemmas.proofs.Ring.{ℤring, uni_mul}
use Rattle.lemmas.proofs.Solver.{◌⊕◌, ⊝◌}
use Rattle.lemmas.proofs.Solve.{solve}
use Rattle.lemmas.proofs.Distance.{small_itself, small_weak, small_neg, small_add, small_sub, small_mul}
use Rattle.turn.specs.declared.Num.{Num}
use Rattle.turn.specs.Number.{complex_n, ◌+N◌, neg_n, ◌-N◌, ◌*N◌, times_t, power_n, turn_n}
use Rattle.turn.specs.Bounds.{Within}
use Rattle.turn.proofs.Ring.{Nring}
use Rattle.turn.proofs.Powers.{turn_zero, turn_suc}
use Rattle.turn.proofs.Conj.{complex_mul}

pub within_weak : {b d : ℕ} {a : Num} → b ≤ d → Within b a → Within d a
within_weak h p = record { w0 = small_weak h p.w0; w1 = small_weak h p.w1; w2 = small_weak h p.w2; w3 = small_weak h p.w3 }

pub within_add : {b d : ℕ} {x y : Num} → Within b x → Within d y → Within (b + d) (x +N y)
unfolding ◌+N◌
within_add p q = record { w0 = small_add p.w0 q.w0; w1 = small_add p.w1 q.w1; w2 = small_add p.w2 q.w2; w3 = small_add p.w3 q.w3 }

pub within_neg : {b : ℕ} {x : Num} → Within b x → Within b (neg_n x)
unfolding neg_n
within_neg p = record { w0 = small_neg p.w0; w1 = small_neg p.w1; w2 = small_neg p.w2; w3 = small_neg p.w3 }

pub within_sub : {b d : ℕ} {x y : Num} → Within b x → Within d y → Within (b + d) (x -N y)
within_sub p q = within_add p (within_neg q)

pub within_complex : {b : ℕ} {r x : ℤ} → Small b r → Small b x → Within b (complex_n r x)
within_complex {b} p q = record { w0 = p; w1 = none; w2 = none; w3 = q }
  where
    none : {b : ℕ} → Small b (pos 0)
    none {b} = record { small = omega arith }

-- ---- a turn moves six numbers about, the four coordinates and two sums of them, and signs them
record Six (b : ℕ) (a : Num) : Type 0 where
  pub each : Within b a
  pub even : Small b (a.x0 +ℤ a.x2)
  pub odd : Small b (a.x1 +ℤ a.x3)

six_times : {b : ℕ} {a : Num} → Six b a → Six b (times_t a)
unfolding times_t
six_times {b} {a} s =
    record {
      each = record { w0 = small_neg s.each.w3; w1 = s.each.w0; w2 = s.odd; w3 = s.each.w2 };
      even = subst (Small b) (solve ℤring 2 (λ x y. x) (λ x y. ⊝ y ⊕ (x ⊕ y)) tt a.x1 a.x3) s.each.w1;
      odd = s.even;
    }

six_turn : {b : ℕ} (n : ℕ) {a : Num} → Six b a → Six b (turn_n n a)
six_turn {b} zero {a} s = subst (Six b) (sym (turn_zero a)) s
six_turn {b} (suc n) {a} s = subst (Six b) (sym (turn_suc n a)) (six_times (six_turn n s))

-- so a turned number is at most twice as far from 0, and R + jX no further
pub within_turn : {b : ℕ} (n : ℕ) {a : Num} → Within b a → Within (b + b) (turn_n n a)
within_turn {b} n {a} p =
    (six_turn n (record { each = within_weak (omega arith) p; even = small_add p.w0 p.w2; odd = small_add p.w1 p.w3 })).each

pub within_turn_complex : {b : ℕ} (n : ℕ) {r x : ℤ} → Within b (complex_n r x) → Within b (turn_n n (complex_n r x))
within_turn_complex {b} n {r} {x} p = (six_turn n (record { each = p; even = subst (Small b) (sym (+ℤ_idr r)) p.w0; odd = subst (Small b) (sym (+ℤ_idl x)) p.w3 })).each

pub within_power : (n : ℕ) → Within 1 (power_n n)
within_power n =
    subst (Within 1) (uni_mul Nring (power_n n)) (within_turn_complex n (within_complex {r = pos 1} {x = pos 0} (small_itself (pos 1)) (small_weak (lit≤ tt) (small_itself (pos 0)))))

-- ---- R + jX times R + jX
pub within_complex_mul : {b d : ℕ} {r x s y : ℤ} → Within b (complex_n r x) → Within d (complex_n s y) → Within (b * d + b * d) (complex_n r x *N complex_n s y)
within_complex_mul {b} {d} {r} {x} {s} {y} p q =
    subst (Within (b * d + b * d)) (sym (complex_mul r x s y))
    (within_complex (small_sub (small_mul p.w0 q.w0) (small_mul p.w3 q.w3)) (small_add (small_mul p.w0 q.w3) (small_mul p.w3 q.w0)))
