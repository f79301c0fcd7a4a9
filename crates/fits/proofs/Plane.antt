-- Numbers R + jX with their bound, and what the operations ask of them. Assumes nothing.
use mathlib.Core.Path.{◌≡◌, sym, ap₂, subst}
use Prim.Native.Nat.{ℕ, ◌+◌, ◌*◌, ◌^◌, ◌≤◌}
use native.Mathlib.Omega.{arith}
use lib.IntN.{ℤ, pos}
use Rattle.lemmas.specs.Small.{Small}
use Rattle.lemmas.proofs.Distance.{small_neg}
use Rattle.turn.specs.declared.Num.{Num}
use Rattle.turn.specs.Number.{whole_n, complex_n, ◌+N◌, neg_n, ◌-N◌, ◌*N◌, turn_n, conj_n}
use Rattle.turn.specs.Bounds.{Within, Addable, Negatable, Squarable, Factors}
use Rattle.turn.proofs.Conj.{complex_conj}
use Rattle.turn.proofs.Within.{within_weak, within_add, within_neg, within_complex, within_turn_complex, within_complex_mul}
use Rattle.paper.specs.declared.Ohms.{Ohms}
use Rattle.paper.specs.Fault.{num_of}
use Rattle.paper.specs.Bounds.{AtMost, Plane}
use Rattle.follows.proofs.Flat.{flat_is, flat_complex, flat_add, flat_neg, flat_mul, flat_conj}

pub plane_num : {b : ℕ} {z : Ohms} → AtMost b z → Plane b (num_of z)
unfolding num_of
plane_num {z = z} u = record { flat = flat_complex (pos z.r) (pos z.x); within = within_complex (record { small = u.r_most }) (record { small = u.x_most }) }

pub plane_whole : {b : ℕ} {n : ℤ} → Small b n → Plane b (whole_n n)
plane_whole {n = n} s = record { flat = flat_complex n (pos 0); within = within_complex s (record { small = omega arith }) }

pub plane_weak : {b d : ℕ} {n : Num} → b ≤ d → Plane b n → Plane d n
plane_weak h p = record { flat = p.flat; within = within_weak h p.within }

-- ---- the operations
pub plane_add : {b d : ℕ} {m n : Num} → Plane b m → Plane d n → Plane (b + d) (m +N n)
plane_add p q = record { flat = flat_add p.flat q.flat; within = within_add p.within q.within }

pub plane_neg : {b : ℕ} {n : Num} → Plane b n → Plane b (neg_n n)
plane_neg p = record { flat = flat_neg p.flat; within = within_neg p.within }

pub plane_sub : {b d : ℕ} {m n : Num} → Plane b m → Plane d n → Plane (b + d) (m -N n)
plane_sub p q = plane_add p (plane_neg q)

-- the form R + jX itself
pub plane_is : {b : ℕ} {n : Num} → Plane b n → n ≡ complex_n n.x0 n.x3
plane_is p = flat_is p.flat

form : {b : ℕ} {n : Num} → Plane b n → Within b (complex_n n.x0 n.x3)
form {b} p = subst (Within b) (flat_is p.flat) p.within

pub plane_mul : {b d : ℕ} {m n : Num} → Plane b m → Plane d n → Plane (b * d + b * d) (m *N n)
plane_mul {b} {d} p q =
    record { flat = flat_mul p.flat q.flat; within = subst (Within (b * d + b * d)) (sym (ap₂ ◌*N◌ (flat_is p.flat) (flat_is q.flat))) (within_complex_mul (form p) (form q)) }

pub plane_conj : {b : ℕ} {n : Num} → Plane b n → Plane b (conj_n n)
plane_conj {b} {n} p =
    record {
      flat = flat_conj p.flat;
      within = subst (λ m. Within b (conj_n m)) (sym (flat_is p.flat)) (subst (Within b) (sym (complex_conj n.x0 n.x3)) (within_complex p.within.w0 (small_neg p.within.w3)));
    }

-- turned, it is of that form no more, and no further from 0
pub plane_turn : {b : ℕ} {n : Num} (k : ℕ) → Plane b n → Within b (turn_n k n)
plane_turn {b} k p = subst (λ m. Within b (turn_n k m)) (sym (flat_is p.flat)) (within_turn_complex k (form p))

-- ---- what the operations ask
pub addable : {b : ℕ} {n : Num} → Plane b n → b ≤ 2 ^ 61 → Addable n
addable p h = within_weak h p.within

pub negatable : {b : ℕ} {n : Num} → Plane b n → b ≤ 2 ^ 62 → Negatable n
negatable p h = within_weak h p.within

pub squarable : {b : ℕ} {n : Num} → Plane b n → b ≤ 2 ^ 30 → Squarable n
squarable p h = record { no_t = p.flat.no_t; no_t² = p.flat.no_t²; within = within_weak h p.within }

pub factors : {b d : ℕ} {m n : Num} → Plane b m → Plane d n → b * d ≤ 2 ^ 60 → Factors m n
factors {b} {d} p q h = record { left = b; right = d; one = p.within; other = q.within; room = h }
