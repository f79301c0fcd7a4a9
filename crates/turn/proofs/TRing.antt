-- The same ring with the numbers themselves for coefficients: there t⁴ = t² - 1 computes, and an equation may have `con (power_n n)` in it.
-- Assumes nothing.
use mathlib.Core.Path.{◌≡◌, refl}
use mathlib.Core.Bool.{Bool, ◌&&◌}
use mathlib.Core.List.{[]}
use lib.Dec.{T}
use lib.IntN.{pos}
use Rattle.lemmas.proofs.Ring.{Coef, CRing, is_zero, is_zero→}
use Rattle.turn.specs.declared.Num.{Num}
use Rattle.turn.specs.Number.{whole_n, ◌+N◌, neg_n, ◌·N◌, ◌*N◌, times_t}
use Rattle.turn.proofs.Form.{add_f, neg_f, mul_f, con_f, ev_f, four, alike}
use Rattle.turn.proofs.Ring.{+N_assoc, +N_comm, +N_zero, +N_neg, *N_assoc, *N_comm, *N_one, *N_distr}

abbrev is_zero_n : Num → Bool
is_zero_n a = is_zero a.x0 && (is_zero a.x1 && (is_zero a.x2 && is_zero a.x3))

pub is_zero_n→ : (a : Num) → T (is_zero_n a) → a ≡ whole_n (pos 0)
is_zero_n→ a t =
    let s = four (is_zero a.x0) (is_zero a.x1) (is_zero a.x2) (is_zero a.x3) t in
    alike (is_zero→ a.x0 s.0) (is_zero→ a.x1 s.1) (is_zero→ a.x2 s.2) (is_zero→ a.x3 s.3)

-- the operations, open for computing
abbrev pub Ncoef : Coef
Ncoef =
    record {
      K = Num;
      kone = whole_n (pos 1);
      kadd = λ a b. ev_f [] (add_f (con_f a) (con_f b));
      kmul = λ a b. ev_f [] (mul_f (con_f a) (con_f b));
      kneg = λ a. ev_f [] (neg_f (con_f a));
      kzero = is_zero_n;
    }

pub is_add : (a b : Num) → ev_f [] (add_f (con_f a) (con_f b)) ≡ a +N b
unfolding ◌+N◌
is_add a b = refl

pub is_mul : (a b : Num) → ev_f [] (mul_f (con_f a) (con_f b)) ≡ a *N b
unfolding ◌*N◌ ◌+N◌ ◌·N◌ times_t
is_mul a b = refl

pub is_neg : (a : Num) → ev_f [] (neg_f (con_f a)) ≡ neg_n a
unfolding neg_n
is_neg a = refl

abbrev pub Tring : CRing Ncoef
Tring =
    record {
      C = Num;
      zer = whole_n (pos 0);
      uni = whole_n (pos 1);
      add = ◌+N◌;
      mul = ◌*N◌;
      neg = neg_n;
      lit = λ z. z;
      add_assoc = +N_assoc;
      add_comm = +N_comm;
      add_zer = +N_zero;
      add_neg = +N_neg;
      mul_assoc = *N_assoc;
      mul_comm = *N_comm;
      mul_uni = *N_one;
      distr = *N_distr;
      lit_zer = is_zero_n→;
      lit_uni = refl;
      lit_add = is_add;
      lit_mul = is_mul;
      lit_neg = is_neg;
    }
