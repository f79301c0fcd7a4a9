-- What acceptance gives of a question, gathered: "The divisor is never zero; that is proved." Assumes nothing.
use mathlib.Core.Path.{◌≡◌}
use mathlib.Core.Bool.{false}
use mathlib.Core.Option.{none}
use mathlib.Core.List.{List}
use Prim.Native.Nat.{ℕ, suc}
use lib.IntN.{pos}
use Rattle.paper.specs.Kind.{is_zero}
use Rattle.paper.specs.File.{boards_of, fault_of}
use Rattle.paper.specs.Chain.{Boards, place_of, Z1, Z2}
use Rattle.paper.specs.Refusal.{refusal}
use Rattle.paper.specs.Fault.{nil_n}
use Rattle.paper.specs.Phase.{asked, the_short, the_d}
use Rattle.follows.proofs.Sound.{Z1_not_zero, Z2_not_zero}
use Rattle.follows.proofs.Accepted.{Network, accepted_network_lem, Question, accepted_fault}
use Rattle.follows.proofs.Divisor.{the_short_not_zero, the_d_positive}

module _ (net flt : List ℕ) (room : ℕ) (accepted : refusal net flt room ≡ none) where
  abbrev bs : Boards
  bs = boards_of net

  abbrev k : ℕ
  k = place_of (fault_of flt).label bs

  pub question : Question net flt room
  question = accepted_fault net flt room accepted

  pub network : Network net
  network = accepted_network_lem net question.network

  -- no board's Z1 or Z2 is zero, the faulted one's neither
  pub z1_not_zero : is_zero (Z1 bs k) ≡ false
  z1_not_zero = Z1_not_zero bs network.sound k question.k_from question.k_to

  pub z2_not_zero : is_zero (Z2 bs k) ≡ false
  z2_not_zero = Z2_not_zero bs network.sound k question.k_from question.k_to

  -- ---- "The divisor is never zero", and D is a positive whole number
  pub never_zero : (the_short (asked net flt)).divisor ≡ nil_n → ⊥
  unfolding asked
  never_zero = the_short_not_zero (asked net flt) z1_not_zero z2_not_zero

  pub D_at_least_one : (n : ℕ) × (the_d (asked net flt) ≡ pos (suc n))
  unfolding asked
  D_at_least_one = the_d_positive (asked net flt) z1_not_zero z2_not_zero
