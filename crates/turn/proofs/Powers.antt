-- The powers of t: twelve turns go round, and what that gives. Assumes nothing.
use mathlib.Core.Path.{◌≡◌, refl, sym, ◌∙◌, ap}
use Prim.Native.Nat.{ℕ, zero, suc, ◌+◌, ◌*◌, ◌/◌, ◌%◌}
use native.Mathlib.Nat.{add-suc, suc-add, zero-add, add_assoc, add_comm, suc-mul, zero-mul, div-add-mod'}
use lib.IntN.{pos}
use Rattle.turn.specs.declared.Num.{Num}
use Rattle.turn.specs.Number.{whole_n, ◌+N◌, neg_n, ◌-N◌, ◌·N◌, ◌*N◌, times_t, power_n, turn_n, one_n, j_n, a2_n}
use Rattle.turn.proofs.Form.{times_t_f, mul_f, by_coordinates}
use Rattle.turn.proofs.Ring.{*N_assoc, *N_one}

-- t times a product
pub times_mul : (a b : Num) → times_t a *N b ≡ times_t (a *N b)
unfolding ◌*N◌ ◌+N◌ ◌·N◌ times_t
times_mul = by_coordinates 2 (λ a b. mul_f (times_t_f a) b) (λ a b. times_t_f (mul_f a b)) tt

pub times_t_lem : (a : Num) → power_n 1 *N a ≡ times_t a
unfolding power_n
times_t_lem a = times_mul (power_n 0) a ∙ ap times_t (*N_one a)

pub power_suc : (n : ℕ) → power_n (suc n) ≡ times_t (power_n n)
unfolding power_n
power_suc n = refl

pub turn_zero : (a : Num) → turn_n 0 a ≡ a
unfolding power_n
turn_zero a = *N_one a

pub turn_suc : (n : ℕ) (a : Num) → turn_n (suc n) a ≡ times_t (turn_n n a)
unfolding power_n
turn_suc n a = times_mul (power_n n) a

-- turns add up
pub power_add : (m n : ℕ) → power_n (m + n) ≡ power_n m *N power_n n
unfolding power_n
power_add zero n = ap power_n (zero-add n) ∙ sym (*N_one (power_n n))
power_add (suc m) n = ap power_n (suc-add m n) ∙ ap times_t (power_add m n) ∙ sym (times_mul (power_n m) (power_n n))

pub turn_add : (m n : ℕ) (a : Num) → turn_n (m + n) a ≡ turn_n m (turn_n n a)
turn_add m n a = ap (λ (p : Num). p *N a) (power_add m n) ∙ *N_assoc (power_n m) (power_n n) a

-- ---- twelve turns go round
pub again : (n : ℕ) → power_n (12 + n) ≡ power_n n
unfolding power_n times_t
again zero = refl
again (suc n) = ap power_n (add-suc 12 n) ∙ ap times_t (again n)

rounds : (q r : ℕ) → power_n (q * 12 + r) ≡ power_n r
rounds zero r = ap power_n (ap (λ (m : ℕ). m + r) (zero-mul 12) ∙ zero-add r)
rounds (suc q) r = ap power_n (ap (λ (m : ℕ). m + r) (suc-mul q 12 ∙ add_comm (q * 12) 12) ∙ add_assoc 12 (q * 12) r) ∙ again (q * 12 + r) ∙ rounds q r

pub power_mod : (n : ℕ) → power_n (n % 12) ≡ power_n n
power_mod n = sym (rounds (n / 12) (n % 12)) ∙ ap power_n (div-add-mod' n 12)

-- so as many turns but for whole rounds are the same turn
pub turn_same : (m n : ℕ) (a : Num) → m % 12 ≡ n % 12 → turn_n m a ≡ turn_n n a
turn_same m n a e = ap (λ (p : Num). p *N a) (sym (power_mod m) ∙ ap power_n e ∙ power_mod n)

-- ---- the named ones
pub t_four : power_n 4 ≡ power_n 2 -N one_n
unfolding power_n times_t ◌+N◌ neg_n
t_four = refl

pub t_six : power_n 6 ≡ neg_n one_n
unfolding power_n times_t neg_n
t_six = refl

pub three_phases_lem : one_n +N power_n 4 +N power_n 8 ≡ whole_n (pos 0)
unfolding power_n times_t ◌+N◌
three_phases_lem = refl

pub a2_is : a2_n ≡ power_n 8
a2_is = sym (power_add 4 4)

pub j_squared : j_n *N j_n ≡ neg_n one_n
j_squared = sym (power_add 3 3) ∙ t_six
