-- Sequences 1 and 2: the tree of the boards, each under its feeder. Kirchhoff's and Ohm's laws leave the fault's current open and nothing else, and whatever it is they hold. Said once, of a sequence s of the values
-- and the records' impedances z. Assumes nothing.
use mathlib.Core.Path.{◌≡◌, refl, sym, ◌∙◌, ap}
use Prim.Native.Nat.{ℕ, zero, suc, ◌≤◌}
use native.Mathlib.Omega.{arith}
use lib.IntN.{ℤ}
use lib.ListN.{length}
use Rattle.turn.specs.declared.Num.{Num}
use Rattle.turn.specs.Number.{◌-N◌, ◌*N◌}
use Rattle.paper.specs.declared.Ohms.{Ohms}
use Rattle.paper.specs.declared.Seq.{Seq}
use Rattle.paper.specs.Bytes.{one_of}
use Rattle.paper.specs.Chain.{feeder_of, chain, sumΩ, common}
use Rattle.paper.specs.Fault.{num_of}
use Rattle.paper.specs.Phase.{Asked, only_if}
use Rattle.follows.proofs.Chain.{chain_tree}
use Rattle.laws.specs.Values.{Values, Everywhere}
use Rattle.laws.specs.Laws.{Ohm, Kirchhoff, above}
use Rattle.laws.proofs.Flows as Flows
use Rattle.laws.proofs.Drops as Drops
use Rattle.laws.proofs.Drops.{over}
use Rattle.laws.proofs.Form.{places}

module _ (a : Asked) (kn : a.k ≤ length a.boards) (E : ℤ) (v : Values) (s : Seq → Num) where
  open a use {boards, k}
  open v use {W, I, F}

  -- the voltages, the feeder's of the source among them, and the currents
  abbrev U : ℕ → Num
  U r = s (above a E v r)

  abbrev C : ℕ → Num
  C r = s (I r)

  abbrev KirchhoffHolds : Type 0
  KirchhoffHolds = Everywhere a (Kirchhoff (feeder_of boards) (length boards) k C C (s F))

  abbrev Carried : Type 0
  Carried = Everywhere a (λ r. C r ≡ only_if (one_of r (chain boards k)) (s F))

  pub carries : KirchhoffHolds → Carried
  carries = Flows.carries (chain_tree boards) C (length boards) k kn (s F)

  pub carried_keeps : Carried → KirchhoffHolds
  carried_keeps = Flows.carried_keeps (chain_tree boards) C (length boards) k kn (s F)

  module _ (z : ℕ → Ohms) (carried : Carried) where
    abbrev OhmHolds : Type 0
    OhmHolds = Everywhere a (λ r. Ohm (s (W r)) (U (feeder_of boards r)) (z r) (C r))

    abbrev Left : Type 0
    Left = Everywhere a (λ j. s (W j) ≡ U 0 -N num_of (sumΩ z (common (chain boards j) (chain boards k))) *N s F)

    -- one voltage, the source's, stands above all
    same_over : (r u : ℕ) → over U (λ j. U 0) r u ≡ U u
    same_over r zero = refl
    same_over r (suc u) = refl

    abbrev under : ℕ → Num → Num
    under r u = u -N num_of (z r) *N C r

    pub left : OhmHolds → Left
    left ohm =
        places _
        (λ q l. Drops.left (chain_tree boards) z (length boards) U C (λ j. U 0) (λ q m. refl) (chain boards k) (s F) carried
        (λ q l. ohm (suc q) (omega arith) l ∙ ap (under (suc q)) (sym (same_over (suc q) (feeder_of boards (suc q))))) (suc q) (omega arith) l)

    pub left_keeps : Left → OhmHolds
    left_keeps h =
        places _
        (λ q l. Drops.left_keeps (chain_tree boards) z (length boards) U C (λ j. U 0) (λ q m. refl) (chain boards k) (s F) carried (places _ (λ q l. h (suc q) (omega arith) l)) q l
        ∙ ap (under (suc q)) (same_over (suc q) (feeder_of boards (suc q))))
