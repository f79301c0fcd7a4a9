-- The tables that a network is read into. Assumes nothing.
use Rattle.std.specs.Prelude.{List, [], ◌∷◌, ◌++◌, ℕ, zero, suc, ◌-◌, length, replicate}
use Rattle.paper.specs.declared.Board.{Board}
use Rattle.paper.specs.Kind.{ohms}
use Rattle.paper.specs.Chain.{Boards}
use Rattle.node.specs.declared.Node.{Node}
use Rattle.node.specs.Node.{node_of}

-- ---- tables of 256 places: what there is, then empty places
abbrev pub empty_board : Board
empty_board = record { z1 = ohms 0 0; z2 = ohms 0 0; z0 = ohms 0 0; zn = ohms 0 0; label = replicate 12 0; feeder = replicate 12 0; kind = 0; clock = 0 }

unfoldable pub table : {A : Type 0} → A → List A → List A
table empty xs = xs ++ replicate (256 - length xs) empty

-- the nodes of n boards from r on
unfoldable pub nodes_from : Boards → ℕ → ℕ → List Node
nodes_from bs r zero = []
nodes_from bs r (suc n) = node_of bs r ∷ nodes_from bs (suc r) n

abbrev pub nodes_of : Boards → List Node
nodes_of bs = nodes_from bs 1 (length bs)
