-- What the contract of this crate rules out: a call that it allows, and an answer that it does not. Assumes nothing.
use mathlib.Core.List.{[], ◌∷◌}
use Prim.Native.Nat.{ℕ}
use Rattle.lemmas.proofs.RuledOut.{◌↛◌, RuledOut, ever, by_equation, list}
use Rattle.paper.specs.Kind.{ohms}
use Rattle.node.specs.declared.Node.{Node}
use Rattle.node.specs.Node.{no_node}
use Rattle.node.proofs.Told.{row_of}
use Rattle.node.proofs.Node.none.Reads as none

-- without impedances
abbrev bare : ℕ → ℕ → ℕ → ℕ → Node
bare f h s t = record { z1 = ohms 0 0; z2 = ohms 0 0; z0 = ohms 0 0; feeder = f; head = h; start = s; turn = t }

pub none_not : RuledOut (none.Pre tt) (ever (none.Post tt)) (
    tt ↛ bare 1 0 0 0  -- feeder_above_record_1
    ∷ tt ↛ bare 0 0 0 1  -- turned_above_record_1
    ∷ tt ↛ bare 0 0 1 0  -- start_above_record_1
    ∷ [])
none_not = by_equation (λ a. no_node) (λ n. list (row_of n)) (λ a z e s. s) (tt, (tt, (tt, tt))) tt
