-- Values that obey the laws of the network, with the premise, have the answers' form; and values of that form obey them, whatever the fault's current and the lift are. Assumes nothing.
use mathlib.Core.Bool.{true}
use mathlib.Core.Path.{◌≡◌, sym, ◌∙◌, ap}
use lib.IntN.{ℤ}
use Rattle.lemmas.proofs.Bools.{not_both}
use Rattle.turn.specs.declared.Num.{Num}
use Rattle.turn.specs.Number.{whole_n, ◌+N◌, neg_n, ◌-N◌, ◌*N◌}
use Rattle.turn.proofs.Ring.{+N_zero}
use Rattle.paper.specs.declared.Seq.{Seq}
use Rattle.paper.specs.Bytes.{one_of}
use Rattle.paper.specs.Chain.{chain, joined, unearthed, zero_chain, term1, term2, shared1, shared2, shared0}
use Rattle.paper.specs.Fault.{nil_n, num_of, seq}
use Rattle.paper.specs.Phase.{Asked, voltage_of, only_if}
use Rattle.laws.specs.Values.{Values, Everywhere}
use Rattle.laws.specs.Connection.{Connected}
use Rattle.laws.specs.Laws.{Laws, Quiet}
use Rattle.laws.proofs.Fair.{Fair}
use Rattle.laws.proofs.Form.{carried_by, left_by, Formed}
use Rattle.laws.proofs.Lift.{unfreed_lifts}
use Rattle.laws.proofs.Chains.{carries, carried_keeps, left, left_keeps}
use Rattle.laws.proofs.ZeroCurrents.{nothing_out, carries_zero, blocks, carried_keeps_zero}
use Rattle.laws.proofs.ZeroVoltages.{left_keeps_zero, quiet_zero, lifted_to, quiet_lift, voltages_zero}

-- the two sequences that go along the chains
abbrev first : Seq → Num
first X = X.s1

abbrev second : Seq → Num
second X = X.s2

-- over the source's 0 a fall is what is left
under_nil : (x : Num) → nil_n -N x ≡ neg_n x
under_nil x = +N_zero (neg_n x)

module _ (a : Asked) (fair : Fair a) (E : ℤ) (v : Values) where
  open a use {boards, fault, k}
  open v use {W, I, F}

  -- ---- from the laws to the form
  module _ (laws : Laws a E v) where
    carried1 : Everywhere a (λ r. (I r).s1 ≡ only_if (one_of r (chain boards k)) F.s1)
    carried1 = carries a fair.k_to E v first laws.kirchhoff1

    carried2 : Everywhere a (λ r. (I r).s2 ≡ only_if (one_of r (chain boards k)) F.s2)
    carried2 = carries a fair.k_to E v second laws.kirchhoff2

    pub left1 : Everywhere a (λ j. (W j).s1 ≡ whole_n E -N num_of (shared1 boards j k) *N F.s1)
    unfolding shared1
    left1 = left a fair.k_to E v first (term1 boards) carried1 laws.ohm1

    pub left2 : Everywhere a (λ j. (W j).s2 ≡ neg_n (num_of (shared2 boards j k) *N F.s2))
    unfolding shared2
    left2 j m l = left a fair.k_to E v second (term2 boards) carried2 laws.ohm2 j m l ∙ under_nil (num_of (shared2 boards j k) *N F.s2)

    pub no_earth_current : unearthed boards k ≡ true → F.s0 ≡ nil_n
    no_earth_current = nothing_out a fair v laws.kirchhoff0 laws.blocked

    pub formed : Quiet a v → Formed a E v (lifted_to a fair E v)
    unfolding left_by voltage_of carried_by
    formed quiet =
        record {
          form_W = λ j m l. λ i. seq (left1 j m l i) (left2 j m l i) (voltages_zero a fair E v laws quiet j m l i);
          form_I = λ r m l. λ i. seq (carried1 r m l i) (carried2 r m l i) (carries_zero a fair v laws.kirchhoff0 laws.blocked r m l i);
          form_open = record { no_out = no_earth_current; no_lift = quiet_lift a fair E v quiet };
        }

  -- ---- from the form to the laws
  module _ (up : Num) (form : Formed a E v up) where
    on1 : Everywhere a (λ r. (I r).s1 ≡ only_if (one_of r (chain boards k)) F.s1)
    unfolding carried_by
    on1 r m l = ap first (form.form_I r m l)

    on2 : Everywhere a (λ r. (I r).s2 ≡ only_if (one_of r (chain boards k)) F.s2)
    unfolding carried_by
    on2 r m l = ap second (form.form_I r m l)

    on0 : Everywhere a (λ r. (I r).s0 ≡ only_if (one_of r (zero_chain boards k)) F.s0)
    unfolding carried_by
    on0 r m l = ap (λ (X : Seq). X.s0) (form.form_I r m l)

    at0 : Everywhere a (λ j. (W j).s0 ≡ neg_n (num_of (shared0 boards j k) *N F.s0) +N only_if (joined boards j k) up)
    unfolding left_by voltage_of
    at0 j m l = ap (λ (X : Seq). X.s0) (form.form_W j m l)

    pub lawful : Connected fault (W k) F → Laws a E v
    unfolding left_by voltage_of shared1 shared2
    lawful c =
        let free = form.form_open in
        record {
          ohm1 = left_keeps a fair.k_to E v first (term1 boards) on1 (λ j m l. ap first (form.form_W j m l));
          ohm2 = left_keeps a fair.k_to E v second (term2 boards) on2 (λ j m l. ap second (form.form_W j m l) ∙ sym (under_nil _));
          ohm0 = left_keeps_zero a fair E v up on0 free.no_out (λ u. free.no_lift (unfreed_lifts a (λ f. not_both f.0 u))) at0;
          kirchhoff1 = carried_keeps a fair.k_to E v first on1;
          kirchhoff2 = carried_keeps a fair.k_to E v second on2;
          kirchhoff0 = carried_keeps_zero a fair v on0 free.no_out;
          blocked = blocks a fair v on0;
          connected = c;
        }

    pub quiet_form : Quiet a v
    quiet_form = quiet_zero a fair E v up form.form_open at0
