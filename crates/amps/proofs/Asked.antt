-- What the functions compute, of a question: the paper's amps; and that D is what they ask for. Assumes nothing.
use mathlib.Core.Path.{◌≡◌}
use mathlib.Core.Bool.{false}
use Prim.Native.Nat.{ℕ, ◌*◌, ◌≤◌}
use lib.IntN.{nat_abs}
use Rattle.root.specs.Root.{Root}
use Rattle.paper.specs.Bounds.{AtMost}
use Rattle.paper.specs.Kind.{is_zero}
use Rattle.paper.specs.Chain.{unearthed, Z1, Z2}
use Rattle.paper.specs.Phase.{Asked, the_d}
use Rattle.paper.specs.Amps.{amps, factor}
use Rattle.follows.proofs.Divisor.{the_d_natural, the_d_least}
use Rattle.amps.proofs.Exact.{volts_square, amps_only}
use Rattle.amps.specs.Positive.{Positive}

module _ (q : Asked) where
  open q use {head, boards, fault, k}

  module _ (h1 : is_zero (Z1 boards k) ≡ false) (h2 : is_zero (Z2 boards k) ≡ false) where
    pub the_d_positive : Positive (the_d q)
    the_d_positive = record { whole = the_d_natural q; least = the_d_least q h1 h2 }

    pub amps_are : AtMost 4095 (Z2 boards k) → head.volts ≤ 1000 → 1 ≤ head.unit → (n : ℕ)
        → Root (factor (unearthed boards k) (Z2 boards k) fault.kind * volts_square q) (nat_abs (the_d q) * (head.unit * head.unit)) n
        → n ≡ amps q
    amps_are u hv hu n r = amps_only q h1 h2 u hv hu n r
