-- What acceptance gives of a question, as far as demand 3 leans on it. Assumes nothing.
use mathlib.Core.Bool.{false}
use mathlib.Core.List.{List}
use mathlib.Core.Path.{◌≡◌}
use Prim.Native.Nat.{ℕ, suc, ◌≤◌}
use lib.IntN.{pos}
use lib.ListN.{length}
use Rattle.paper.specs.Kind.{is_zero}
use Rattle.paper.specs.Chain.{Z2}
use Rattle.paper.specs.Phase.{Asked, asked, the_d}
use Rattle.paper.specs.Answer.{verdict}
use Rattle.follows.proofs.Sound.{Sound}
use Rattle.follows.proofs.Given.{question, network, z2_not_zero, D_at_least_one}
use Rattle.follows.proofs.Numbered.{accepted_by}

pub record Fair (q : Asked) : Type 0 where
  pub sound : Sound q.boards
  pub k_from : 1 ≤ q.k
  pub k_to : q.k ≤ length q.boards
  pub kind_to : q.fault.kind ≤ 3
  pub phase_to : q.fault.phase ≤ 2
  pub z2_some : is_zero (Z2 q.boards q.k) ≡ false
  pub D_some : (n : ℕ) × (the_d q ≡ pos (suc n))

pub fair : (net flt : List ℕ) (room : ℕ) → (verdict net flt room).number ≡ 0 → Fair (asked net flt)
unfolding asked
fair net flt room h =
    let accepted = accepted_by net flt room h in
    let a = question net flt room accepted in
    record {
      sound = (network net flt room accepted).sound;
      k_from = a.k_from;
      k_to = a.k_to;
      kind_to = a.kind_to;
      phase_to = a.phase_to;
      z2_some = z2_not_zero net flt room accepted;
      D_some = D_at_least_one net flt room accepted;
    }
