-- A question that may be answered. Assumes nothing.
use Rattle.std.specs.Prelude.{false, ◌≡◌, ℕ, ◌≤◌, length}
use Rattle.paper.specs.Bounds.{AtMost}
use Rattle.paper.specs.Kind.{is_zero}
use Rattle.paper.specs.Chain.{Z1, Z2, Z0, turn_of}
use Rattle.paper.specs.Phase.{Asked}

module _ (q : Asked) where
  open q use {head, boards, fault, k}

  -- the sums of board j are within the paper's ranges
  pub record SumsIn (j : ℕ) : Type 0 where
    pub sum1 : AtMost 4095 (Z1 boards j)
    pub sum2 : AtMost 4095 (Z2 boards j)
    pub sum0 : AtMost 4095 (Z0 boards j)
    pub turns : turn_of boards j ≤ 2816

  -- what acceptance gives of a question (a theorem: solve/proofs/Ready, `accepted_ready`)
  pub record Ready : Type 0 where
    pub count : head.boards ≡ length boards
    pub few : length boards ≤ 256
    pub volts_to : head.volts ≤ 1000
    pub unit_from : 1 ≤ head.unit
    pub k_from : 1 ≤ k
    pub k_to : k ≤ length boards
    pub phase_to : fault.phase ≤ 2
    pub zf_in : AtMost 1365 fault.zf
    pub sums_in : (j : ℕ) → 1 ≤ j → j ≤ length boards → SumsIn j
    pub Z1_there : is_zero (Z1 boards k) ≡ false
    pub Z2_there : is_zero (Z2 boards k) ≡ false
