-- Demand 3 holds, of every accepted network and fault: the laws leave the fault's current and the lift open (`Formed`), and the connection forces both (`Forced`). Assumes nothing.
use mathlib.Core.Bool.{Bool, true}
use mathlib.Core.Path.{◌≡◌, refl, sym, ◌∙◌, ap, subst}
use Prim.Native.Nat.{ℕ, suc}
use lib.IntN.{ℤ, pos}
use borrow.Author.Tests.{eq-eqb}
use Rattle.lemmas.proofs.Ring.{zer_mul}
use Rattle.turn.specs.declared.Num.{Num}
use Rattle.turn.specs.Number.{◌*N◌, conj_n}
use Rattle.turn.proofs.Ring.{Nring}
use Rattle.paper.specs.declared.Seq.{Seq}
use Rattle.paper.specs.Chain.{chain, part_head, joined, unearthed, zero_chain, sumΩ, term1, term2, term0, Z1, Z2, Z0, shared1, shared2, shared0}
use Rattle.paper.specs.Fault.{nil_n, Short, currents}
use Rattle.paper.specs.Phase.{Asked, asked, the_short, the_d, the_i, lift, voltage_of, voltage, current, only_if}
use Rattle.follows.proofs.Lists.{common_all}
use Rattle.laws.specs.Values.{Values, answers}
use Rattle.laws.specs.Connection.{Connected}
use Rattle.laws.specs.Demand.{Only, Demand}
use Rattle.laws.proofs.Fair.{Fair, fair}
use Rattle.laws.proofs.Form.{carried_by, left_by, Open, Formed}
use Rattle.laws.proofs.ZeroVoltages.{lifted_to}
use Rattle.laws.proofs.Formed.{formed, lawful, quiet_form}
use Rattle.laws.proofs.Alike.{alike}
use Rattle.laws.proofs.Lift.{row_at, no_earth_row, unlifted, unfreed, unfreed_lifts}
use Rattle.laws.proofs.Kept.{keeps}
use Rattle.laws.proofs.Forced.{answered, SameFault, forces}

module _ (q : Asked) where
  open q use {boards, fault, k}

  -- ---- the faulted board, of a current F and a lift over E: it shares all of its impedance with itself, and is joined to itself
  unfoldable pub at_fault : ℤ → Seq → Num → Seq
  at_fault E F up = voltage_of E F (Z1 boards k) (Z2 boards k) (Z0 boards k) up

  pub at_fault_lem : (E : ℤ) (F : Seq) (up : Num) → left_by q E F up k ≡ at_fault E F up
  unfolding at_fault left_by shared1 shared2 shared0 Z1 Z2 Z0 joined only_if
  at_fault_lem E F up =
      let c = common_all (chain boards k) (chain boards k) (λ i h. h) in
      let z = common_all (zero_chain boards k) (zero_chain boards k) (λ i h. h) in
      let e = eq-eqb (part_head boards k) (part_head boards k) refl in
      λ i. voltage_of E F (sumΩ (term1 boards) (c i)) (sumΩ (term2 boards) (c i)) (sumΩ (term0 boards) (z i)) (only_if (e i) up)

  -- ---- the connection forces them to be the answers'
  pub answers_forced : Fair q → (E : ℤ) (F : Seq) (up : Num) → Open q F up → Connected fault (at_fault E F up) F → SameFault E F up (the_d q) (the_i q) (lift q)
  unfolding at_fault Connected the_short the_d the_i lift
  answers_forced a E F up free h =
      let u = unearthed boards k in
      forces fault (Z1 boards k) (Z2 boards k) (Z0 boards k) u fault.kind E F up
      (answered fault (Z1 boards k) (Z2 boards k) (Z0 boards k) a.z2_some E F up u fault.kind free.no_out (λ no. free.no_lift (unfreed_lifts q no)) h)

  -- ---- values of the answers' form that meet the connection, and that it forces
  pub only : Fair q → (D : ℤ) (w : Values) (up : Num) → (n : ℕ) × (D ≡ pos (suc n)) → Formed q D w up → Connected fault (at_fault D w.F up) w.F
      → ((E : ℤ) (F : Seq) (x : Num) → Open q F x → Connected fault (at_fault E F x) F → SameFault E F x D w.F up)
      → Only q D w
  only a D w up p form meets one =
      record {
        positive = p;
        lawful = lawful q a D w up form (subst (λ x. Connected fault x w.F) (sym (form.form_W k a.k_from a.k_to ∙ at_fault_lem D w.F up)) meets);
        quiet = quiet_form q a D w up form;
        alone = λ E v laws quiet.
            let x = lifted_to q a E v in
            let f = formed q a E v laws quiet in
            let r = one E v.F x f.form_open (subst (λ y. Connected fault y v.F) (f.form_W k a.k_from a.k_to ∙ at_fault_lem E v.F x) laws.connected) in
            alike q f form r.same_currents r.same_lift;
      }

  -- ---- the answers
  pub answers_formed : Formed q (the_d q) (answers q) (lift q)
  unfolding answers voltage left_by current carried_by the_i the_short currents lift
  answers_formed =
      record {
        form_W = λ j h l. refl;
        form_I = λ r h l. refl;
        form_open = record { no_out = no_out; no_lift = λ h. unlifted (unearthed boards k) fault.kind _ (unfreed q h) };
      }
    where
      no_out : unearthed boards k ≡ true → (the_i q).s0 ≡ nil_n
      no_out u =
          let row : Bool → Short = λ u. row_at fault (Z1 boards k) (Z2 boards k) (Z0 boards k) u fault.kind in
          ap (λ n. n *N conj_n (the_short q).divisor) (ap (λ u. (row u).above.s0) u ∙ no_earth_row fault (Z1 boards k) (Z2 boards k) (Z0 boards k) fault.kind) ∙ zer_mul Nring (conj_n (the_short q).divisor)

  answers_meet : Fair q → Connected fault (at_fault (the_d q) (the_i q) (lift q)) (the_i q)
  unfolding at_fault the_short the_d the_i lift
  answers_meet a = keeps fault (Z1 boards k) (Z2 boards k) (Z0 boards k) (unearthed boards k) a.kind_to

  pub answers_only : Fair q → Only q (the_d q) (answers q)
  unfolding answers
  answers_only a = only a (the_d q) (answers q) (lift q) a.D_some answers_formed (answers_meet a) (answers_forced a)

pub demand : Demand
demand net flt room h = answers_only (asked net flt) (fair net flt room h)
