-- What holds of every accepted question besides (`paper` `Given`): "That every number fits is proved." The amps are the greatest n, and the only one. Assumes nothing.
use mathlib.Core.Path.{◌≡◌}
use mathlib.Core.Option.{none}
use mathlib.Core.List.{List}
use Prim.Native.Nat.{ℕ, ◌*◌, ◌^◌, ◌≤◌}
use native.Mathlib.Omega.{arith}
use lib.IntN.{nat_abs}
use lib.ListN.{length}
use Rattle.root.specs.Root.{Root}
use Rattle.paper.specs.File.{head_of, boards_of, fault_of}
use Rattle.paper.specs.Chain.{Boards, place_of, Z1, Z2, Z0}
use Rattle.paper.specs.Refusal.{refusal}
use Rattle.paper.specs.Phase.{Asked, asked, the_d}
use Rattle.paper.specs.Amps.{amps_over, amps_under, amps}
use Rattle.paper.specs.Answer.{numbers}
use Rattle.follows.proofs.Sound.{Z0_small}
use Rattle.follows.proofs.Given.{question, network, z1_not_zero, z2_not_zero}
use Rattle.amps.proofs.Exact.{factor_of, volts_square, amps_exact, amps_only}
use Rattle.fits.proofs.Sizes.{Ranged}
use Rattle.fits.proofs.Fits.{Smalls, SumsSmall, numbers_fit}

module _ (net flt : List ℕ) (room : ℕ) (accepted : refusal net flt room ≡ none) where
  abbrev q : Asked
  q = asked net flt

  abbrev bs : Boards
  bs = boards_of net

  abbrev k : ℕ
  k = place_of (fault_of flt).label bs

  -- the parts of every sum are at most 4,095, and of Zf 1,365
  pub sums_small : (j : ℕ) → 1 ≤ j → j ≤ length bs → SumsSmall q j
  unfolding asked
  sums_small j h l = let s = (network net flt room accepted).sound j h l in record { sum1 = s.Z1_small; sum2 = s.Z2_small; sum0 = Z0_small (boards_of net) (network net flt room accepted).sound j h l }

  pub ranged : Ranged (Z1 bs k) (Z2 bs k) (Z0 bs k) (fault_of flt).zf
  ranged =
      let s = (network net flt room accepted).sound k (question net flt room accepted).k_from (question net flt room accepted).k_to in
      record { upto1 = s.Z1_small; upto2 = s.Z2_small; upto0 = Z0_small bs (network net flt room accepted).sound k (question net flt room accepted).k_from (question net flt room accepted).k_to; uptof = (question net flt room accepted).zf_small }

  -- ---- "That every number fits is proved"
  pub all_fit : Smalls (2 ^ 62) (numbers q)
  unfolding asked
  all_fit = numbers_fit q ranged sums_small

  -- ---- "the greatest whole n", and one only; the second in the shape that the code computes
  pub amps_greatest : Root (amps_over q) (amps_under q) (amps q)
  unfolding asked
  amps_greatest =
      let h = (network net flt room accepted).head_in in
      amps_exact q (z1_not_zero net flt room accepted) (z2_not_zero net flt room accepted) ranged.upto2 h.volts_range.1 (omega (arith, h.unit_range.0))

  pub amps_one : (n : ℕ) → Root (factor_of q * volts_square q) (nat_abs (the_d q) * ((head_of net).unit * (head_of net).unit)) n → n ≡ amps q
  unfolding asked
  amps_one =
      let h = (network net flt room accepted).head_in in
      amps_only q (z1_not_zero net flt room accepted) (z2_not_zero net flt room accepted) ranged.upto2 h.volts_range.1 (omega (arith, h.unit_range.0))
