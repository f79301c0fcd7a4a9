-- The law `blocked` is needed now: R-2 accepts earth faults where there is no earth return, and without that law a current could go to earth there. One generator shows it. Assumes nothing.
use mathlib.Core.Bool.{true, true≢false}
use mathlib.Core.List.{List}
use mathlib.Core.Path.{◌≡◌, refl, sym, ap, subst}
use Prim.Native.Nat.{ℕ}
use native.Mathlib.Omega.{arith}
use lib.IntN.{ℤ, pos, nat_abs}
use lib.ListN.{length}
use Rattle.turn.specs.declared.Num.{Num}
use Rattle.turn.specs.Number.{one_n, power_n, times_t, ◌+N◌, neg_n, ◌-N◌, ◌*N◌, ◌·N◌, conj_n, square_n}
use Rattle.paper.specs.Kind.{ohms}
use Rattle.paper.specs.Chain.{feeder_of, zero_of, unearthed, term1, term2}
use Rattle.paper.specs.Fault.{nil_n, num_of, seq}
use Rattle.paper.specs.Phase.{Asked, asked, the_d, only_if}
use Rattle.paper.specs.Answer.{verdict, paper}
use Rattle.paper.proofs.Typed.{ft, typed_open}
use Rattle.laws.specs.Values.{Values, answers, Everywhere, SameValues}
use Rattle.laws.specs.Connection.{Condition, Connected}
use Rattle.laws.specs.Laws.{Ohm, Kirchhoff, draws0, above, Ohm0, Laws, lifts, Quiet}
use Rattle.laws.proofs.Needed.{net}

-- ---- every law but `blocked`
module _ (q : Asked) (E : ℤ) (v : Values) where
  open q use {boards, fault, k}
  open v use {W, I, F}

  pub record AllOthers : Type 0 where
    pub ohm1 : Everywhere q (λ r. Ohm (W r).s1 (above q E v (feeder_of boards r)).s1 (term1 boards r) (I r).s1)
    pub ohm2 : Everywhere q (λ r. Ohm (W r).s2 (above q E v (feeder_of boards r)).s2 (term2 boards r) (I r).s2)
    pub ohm0 : Everywhere q (λ r. Ohm0 q E v (zero_of boards r) r)
    pub kirchhoff1 : Everywhere q (Kirchhoff (feeder_of boards) (length boards) k (λ r. (I r).s1) (λ r. (I r).s1) F.s1)
    pub kirchhoff2 : Everywhere q (Kirchhoff (feeder_of boards) (length boards) k (λ r. (I r).s2) (λ r. (I r).s2) F.s2)
    pub kirchhoff0 : Everywhere q (Kirchhoff (feeder_of boards) (length boards) k (λ r. (I r).s0) (λ r. draws0 (zero_of boards r) (I r).s0) F.s0)
    pub connected : Connected fault (W k) F

  -- with it they are the laws
  pub with_blocked : AllOthers → Everywhere q (λ r. unearthed boards r ≡ true → (I r).s0 ≡ nil_n) → Laws q E v
  with_blocked o b =
      record { ohm1 = o.ohm1; ohm2 = o.ohm2; ohm0 = o.ohm0; kirchhoff1 = o.kirchhoff1; kirchhoff2 = o.kirchhoff2; kirchhoff0 = o.kirchhoff0; blocked = b; connected = o.connected }

-- ---- the generator of `Needed`, off earth, and one phase of it put to earth through an impedance
unfoldable pub flt : List ℕ
flt = ft "GEN" 1 0 (ohms 0 10)

abbrev pub q : Asked
q = asked net flt

pub is_accepted : (verdict net flt 37).number ≡ 0
unfolding paper typed_open net flt
is_accepted = refl

-- a current of 1 in each sequence, which comes to the board although there is no earth return; W0 is what then stands at the fault
abbrev pub rival : Values
rival =
    let one = seq one_n one_n one_n in
    let z = num_of (ohms 0 20) in
    let zf = num_of (ohms 0 10) in
    record { W = λ r. seq (one_n -N z) (neg_n z) (z +N z +N (zf +N zf +N zf) -N one_n); I = λ r. one; F = one }

only_one : (P : ℕ → Type 0) → P 1 → Everywhere q P
unfolding paper typed_open net flt
only_one P p r h l = let e : r ≡ 1 = omega arith in subst P (sym e) p

pub obeys_all_others : AllOthers q (pos 1) rival
unfolding paper typed_open net flt Connected Condition power_n times_t ◌+N◌ neg_n ◌*N◌ ◌·N◌ num_of only_if
obeys_all_others =
    record {
      ohm1 = only_one _ refl;
      ohm2 = only_one _ refl;
      ohm0 = only_one _ tt;
      kirchhoff1 = only_one _ refl;
      kirchhoff2 = only_one _ refl;
      kirchhoff0 = only_one _ refl;
      connected = (refl, refl, refl);
    }

pub keeps_the_premise : Quiet q rival
unfolding paper typed_open net flt lifts
keeps_the_premise = only_one _ (λ u left_in. absurd (true≢false left_in))

pub not_the_answers : SameValues q (pos 1) rival (the_d q) (answers q) → ⊥
unfolding paper typed_open net flt answers power_n times_t ◌+N◌ neg_n ◌*N◌ ◌·N◌ conj_n square_n num_of
not_the_answers s = let z : ◌≡◌ {A = ℕ} 1 0 = ap (λ (n : Num). nat_abs n.x0) s.same_F.same1 in omega arith
