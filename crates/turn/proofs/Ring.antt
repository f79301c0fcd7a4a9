-- The numbers are a commutative ring. Assumes nothing.
use mathlib.Core.Path.{◌≡◌, refl, ap}
use mathlib.Core.List.{[], ◌∷◌}
use lib.IntN.{ℤ, pos, neg_ℤ, ◌+ℤ◌, ◌*ℤ◌}
use Rattle.lemmas.proofs.Ring.{CRing, ℤcoef, is_zero→}
use Rattle.lemmas.proofs.Solver.{var, con, ◌⊕◌, ◌⊗◌, ⊝◌}
use Rattle.turn.specs.declared.Num.{Num}
use Rattle.turn.specs.Number.{whole_n, ◌+N◌, neg_n, ◌·N◌, ◌*N◌, times_t}
use Rattle.turn.proofs.Form.{add_f, neg_f, scale_f, mul_f, whole_f, ring_f, by_coordinates}

pub +N_assoc : (a b c : Num) → (a +N b) +N c ≡ a +N (b +N c)
unfolding ◌+N◌
+N_assoc = by_coordinates 3 (λ a b c. add_f (add_f a b) c) (λ a b c. add_f a (add_f b c)) tt

pub +N_comm : (a b : Num) → a +N b ≡ b +N a
unfolding ◌+N◌
+N_comm = by_coordinates 2 (λ a b. add_f a b) (λ a b. add_f b a) tt

pub +N_zero : (a : Num) → whole_n (pos 0) +N a ≡ a
unfolding ◌+N◌
+N_zero = by_coordinates 1 (λ a. add_f (whole_f (con (pos 0))) a) (λ a. a) tt

pub +N_neg : (a : Num) → a +N neg_n a ≡ whole_n (pos 0)
unfolding ◌+N◌ neg_n
+N_neg = by_coordinates 1 (λ a. add_f a (neg_f a)) (λ a. whole_f (con (pos 0))) tt

pub *N_assoc : (a b c : Num) → (a *N b) *N c ≡ a *N (b *N c)
unfolding ◌*N◌ ◌+N◌ ◌·N◌ times_t
*N_assoc = by_coordinates 3 (λ a b c. mul_f (mul_f a b) c) (λ a b c. mul_f a (mul_f b c)) tt

pub *N_comm : (a b : Num) → a *N b ≡ b *N a
unfolding ◌*N◌ ◌+N◌ ◌·N◌ times_t
*N_comm = by_coordinates 2 (λ a b. mul_f a b) (λ a b. mul_f b a) tt

pub *N_one : (a : Num) → whole_n (pos 1) *N a ≡ a
unfolding ◌*N◌ ◌+N◌ ◌·N◌ times_t
*N_one = by_coordinates 1 (λ a. mul_f (whole_f (con (pos 1))) a) (λ a. a) tt

pub *N_distr : (a b c : Num) → (a +N b) *N c ≡ a *N c +N b *N c
unfolding ◌*N◌ ◌+N◌ ◌·N◌ times_t
*N_distr = by_coordinates 3 (λ a b c. mul_f (add_f a b) c) (λ a b c. add_f (mul_f a c) (mul_f b c)) tt

-- ---- whole numbers among them
pub whole_add : (x y : ℤ) → whole_n (x +ℤ y) ≡ whole_n x +N whole_n y
unfolding ◌+N◌
whole_add x y = ring_f (x ∷ y ∷ []) (whole_f (var 0 ⊕ var 1)) (add_f (whole_f (var 0)) (whole_f (var 1))) tt

pub whole_mul : (x y : ℤ) → whole_n (x *ℤ y) ≡ whole_n x *N whole_n y
unfolding ◌*N◌ ◌+N◌ ◌·N◌ times_t
whole_mul x y = ring_f (x ∷ y ∷ []) (whole_f (var 0 ⊗ var 1)) (mul_f (whole_f (var 0)) (whole_f (var 1))) tt

pub whole_neg : (x : ℤ) → whole_n (neg_ℤ x) ≡ neg_n (whole_n x)
unfolding neg_n
whole_neg x = ring_f (x ∷ []) (whole_f (⊝ var 0)) (neg_f (whole_f (var 0))) tt

pub whole_times : (n : ℤ) (a : Num) → whole_n n *N a ≡ n ·N a
unfolding ◌*N◌ ◌+N◌ ◌·N◌ times_t
whole_times n a =
    ring_f (n ∷ a.x0 ∷ a.x1 ∷ a.x2 ∷ a.x3 ∷ []) (mul_f (whole_f (var 0)) (record { f0 = var 1; f1 = var 2; f2 = var 3; f3 = var 4 }))
    (scale_f (var 0) (record { f0 = var 1; f1 = var 2; f2 = var 3; f3 = var 4 })) tt

abbrev pub Nring : CRing ℤcoef
Nring =
    record {
      C = Num;
      zer = whole_n (pos 0);
      uni = whole_n (pos 1);
      add = ◌+N◌;
      mul = ◌*N◌;
      neg = neg_n;
      lit = whole_n;
      add_assoc = +N_assoc;
      add_comm = +N_comm;
      add_zer = +N_zero;
      add_neg = +N_neg;
      mul_assoc = *N_assoc;
      mul_comm = *N_comm;
      mul_uni = *N_one;
      distr = *N_distr;
      lit_zer = λ x t. ap whole_n (is_zero→ x t);
      lit_uni = refl;
      lit_add = whole_add;
      lit_mul = whole_mul;
      lit_neg = whole_neg;
    }
