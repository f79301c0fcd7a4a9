-- An accepted question may be answered. Assumes nothing.
use mathlib.Core.List.{List}
use mathlib.Core.Option.{none}
use mathlib.Core.Path.{◌≡◌, sym}
use Prim.Native.Nat.{ℕ, ◌≤◌}
use native.Mathlib.Omega.{arith}
use lib.ListN.{length}
use Rattle.paper.specs.File.{boards_of}
use Rattle.paper.specs.Refusal.{refusal}
use Rattle.paper.specs.Phase.{asked}
use Rattle.follows.proofs.Sound.{Z0_small, turn_small}
use Rattle.follows.proofs.Given.{question, network, z1_not_zero, z2_not_zero}
use Rattle.answer.specs.Ready.{SumsIn, Ready}

module _ (net flt : List ℕ) (room : ℕ) (accepted : refusal net flt room ≡ none) where
  -- 256 records turn at most 11 · 256
  sums_are_in : (j : ℕ) → 1 ≤ j → j ≤ length (boards_of net) → SumsIn (asked net flt) j
  unfolding asked
  sums_are_in j h l =
      let g = network net flt room accepted in
      let s = g.sound j h l in
      record { sum1 = s.Z1_small; sum2 = s.Z2_small; sum0 = Z0_small (boards_of net) g.sound j h l; turns = omega (arith, turn_small (boards_of net) g.sound j l, g.count, g.head_in.boards_range.1) }

  pub accepted_ready : Ready (asked net flt)
  unfolding asked
  accepted_ready =
      let g = network net flt room accepted in
      let a = question net flt room accepted in
      record {
        count = sym g.count;
        few = omega (arith, g.count, g.head_in.boards_range.1);
        volts_to = g.head_in.volts_range.1;
        unit_from = omega (arith, g.head_in.unit_range.0);
        k_from = a.k_from;
        k_to = a.k_to;
        phase_to = a.phase_to;
        zf_in = a.zf_small;
        sums_in = sums_are_in;
        Z1_there = z1_not_zero net flt room accepted;
        Z2_there = z2_not_zero net flt room accepted;
      }
