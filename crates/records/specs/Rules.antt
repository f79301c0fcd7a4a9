-- Record r by its mark, its board, the first places of its label and of its feeder's among all boards, and its feeder's node: what the reader computes. That these are the paper's
-- rules is a theorem (proofs/, `Record`). Assumes nothing.
use Rattle.std.specs.Prelude.{Bool, not, cond, ◌||◌, List, [], ◌∷◌, ℕ, ◌-◌, leb, ltb, eqb, get_or, Result}
use Rattle.paper.specs.declared.Board.{Board}
use Rattle.paper.specs.Bytes.{same_bytes}
use Rattle.paper.specs.Label.{spaces, formed}
use Rattle.paper.specs.File.{BD}
use Rattle.paper.specs.Rows.{Test, test}
use Rattle.paper.specs.declared.Rule.{Rule}
use Rattle.paper.specs.Rule.{unless}
use Rattle.paper.specs.Refusal.{kind_wrong, impedance_wrong, z1_forgotten}
use Rattle.node.specs.declared.Node.{Node}
use Rattle.node.specs.Node.{node_from, node_over, no_node}

-- record 1: no twelve spaces; others: the first place is none, or not before r
unfoldable pub fed_wrong : ℕ → Board → ℕ → Bool
fed_wrong r b fed = cond (eqb r 1) (not (same_bytes b.feeder spaces)) (eqb fed 0 || leb r fed)

-- the number of the first broken rule, 0 for none
unfoldable pub number_of : List Test → ℕ
number_of [] = 0
number_of (test n b ∷ ts) = let later = number_of ts in cond b n later

unfoldable pub broken : ℕ → ℕ → Board → ℕ → ℕ → ℕ
broken r mark b own fed =
    number_of
    (test 5 (not (eqb mark BD))
    ∷ test 6 (not (formed b.label))
    ∷ test 7 (not (eqb own r))
    ∷ test 8 (fed_wrong r b fed)
    ∷ test 9 (kind_wrong r b)
    ∷ test 10 (impedance_wrong b)
    ∷ test 21 (z1_forgotten b)
    ∷ [])

-- the feeder's place among the boards before
unfoldable pub earlier : ℕ → ℕ → ℕ
earlier r fed = cond (ltb fed r) fed 0

-- the feeder's node, off a table; none where there is no feeder
unfoldable pub fed_by : ℕ → List Node → Node
fed_by feeder nodes = cond (eqb feeder 0) no_node (get_or nodes (feeder - 1) no_node)

-- 5 to 11 with 21, and the node where they are kept
unfoldable pub step_of : ℕ → ℕ → Board → ℕ → ℕ → Node → Result Node Rule
step_of r mark b own fed up =
    let n = node_from r b (earlier r fed) up in
    unless (cond (eqb (broken r mark b own fed) 0) (cond (node_over n) 11 0) (broken r mark b own fed)) n
