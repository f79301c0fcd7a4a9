-- Values of the answers' form are the same wherever the fault's currents and the lifts are the same. Assumes nothing.
use mathlib.Core.Path.{sym, subst₂}
use lib.IntN.{ℤ}
use Rattle.turn.specs.declared.Num.{Num}
use Rattle.turn.specs.Number.{whole_n, neg_n, ◌*N◌}
use Rattle.paper.specs.Phase.{Asked, voltage_of}
use Rattle.laws.specs.Values.{Values, Same, SameSeq, SameValues}
use Rattle.laws.proofs.Fractions.{same_whole, same_minus, same_scaled, same_only, same_add}
use Rattle.laws.proofs.Form.{carried_by, left_by, Formed}

module _ (E D : ℤ) (F I : Num) (h : Same E F D I) (z : Num) where
  same_fall : Same E (neg_n (z *N F)) D (neg_n (z *N I))
  same_fall = same_minus E D (z *N F) (z *N I) (same_scaled E D F I h z)

pub alike : (q : Asked) {E D : ℤ} {v w : Values} {up lift : Num} → Formed q E v up → Formed q D w lift → SameSeq E v.F D w.F → Same E up D lift → SameValues q E v D w
unfolding left_by voltage_of carried_by
alike q {E} {D} {v} {w} {up} {lift} f g s t =
    record {
      same_W = λ j h l. subst₂ (λ x y. SameSeq E x D y) (sym (f.form_W j h l)) (sym (g.form_W j h l))
          (record {
            same1 = same_add E D (whole_n E) (whole_n D) (same_whole E D) _ _ (same_fall E D v.F.s1 w.F.s1 s.same1 _);
            same2 = same_fall E D v.F.s2 w.F.s2 s.same2 _;
            same0 = same_add E D _ _ (same_fall E D v.F.s0 w.F.s0 s.same0 _) _ _ (same_only E D up lift t _);
          });
      same_I = λ r h l. subst₂ (λ x y. SameSeq E x D y) (sym (f.form_I r h l)) (sym (g.form_I r h l))
          (record { same1 = same_only E D v.F.s1 w.F.s1 s.same1 _; same2 = same_only E D v.F.s2 w.F.s2 s.same2 _; same0 = same_only E D v.F.s0 w.F.s0 s.same0 _ });
      same_F = s;
    }
