-- Nodes told apart, number by number, for tables of wrong answers. Assumes nothing.
use mathlib.Core.List.{List, [], ◌∷◌, ◌++◌}
use Prim.Native.Nat.{ℕ}
use Rattle.paper.proofs.Told.{parts}
use Rattle.node.specs.declared.Node.{Node}

abbrev pub row_of : Node → List ℕ
row_of n = parts n.z1 ++ parts n.z2 ++ parts n.z0 ++ (n.feeder ∷ n.head ∷ n.start ∷ n.turn ∷ [])
