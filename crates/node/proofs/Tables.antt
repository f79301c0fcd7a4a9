-- Tables of 256 places, filled from the front, and the nodes in theirs. Assumes nothing.
use mathlib.Core.List.{List, [], ◌∷◌, ◌++◌, append_assoc}
use mathlib.Core.Path.{◌≡◌, refl, sym, ◌∙◌, ap}
use Prim.Native.Nat.{ℕ, zero, suc, ◌+◌, ◌-◌, ◌≤◌, ◌<◌}
use native.Mathlib.Omega.{arith}
use lib.ListN.{length, get_or, set, replicate, length-append, length-replicate, get_or-append}
use lib.Seq.{set_at}
use Rattle.paper.specs.Chain.{Boards}
use Rattle.node.specs.declared.Node.{Node}
use Rattle.node.specs.Node.{node_of, no_node}
use Rattle.node.specs.Tables.{table, nodes_from, nodes_of}

module _ {A : Type 0} (empty : A) where
  pub table_length : (xs : List A) → length xs ≤ 256 → length (table empty xs) ≡ 256
  unfolding table
  table_length xs h = simp (length-append, length-replicate) (omega arith)

  pub table_at : (xs : List A) (i : ℕ) (d : A) → i < length xs → get_or (table empty xs) i d ≡ get_or xs i d
  unfolding table
  table_at xs i d h = get_or-append xs (replicate (256 - length xs) empty) d i h

  -- one more, at the first empty place
  pub table_put : (xs : List A) (x : A) → length xs < 256 → set (table empty xs) (length xs) x ≡ table empty (xs ++ (x ∷ []))
  unfolding table
  table_put xs x h =
      ap (λ (n : ℕ). set (xs ++ replicate n empty) (length xs) x) e ∙ set_at xs empty (replicate m empty) x (length xs) refl
      ∙ sym (append_assoc xs (x ∷ []) (replicate m empty))
      ∙ ap (λ (n : ℕ). (xs ++ (x ∷ [])) ++ replicate n empty) f
    where
      m : ℕ
      m = 256 - suc (length xs)

      e : 256 - length xs ≡ suc m
      e = omega arith

      f : m ≡ 256 - length (xs ++ (x ∷ []))
      f = simp length-append (omega arith)

-- all places empty
pub empty_table : {A : Type 0} (empty : A) {x : A} → x ≡ empty → replicate 256 x ≡ table empty []
unfolding table
empty_table empty e = ap (replicate 256) e

-- ---- the nodes of some boards
pub nodes_length : (bs : Boards) (r n : ℕ) → length (nodes_from bs r n) ≡ n
unfolding nodes_from
nodes_length bs r zero = refl
nodes_length bs r (suc n) = ap suc (nodes_length bs (suc r) n)

pub nodes_at : (d : Node) (bs : Boards) (r n i : ℕ) → i < n → get_or (nodes_from bs r n) i d ≡ node_of bs (r + i)
unfolding nodes_from
nodes_at d bs r zero i h = absurd (omega arith)
nodes_at d bs r (suc n) zero h = let e : r ≡ r + 0 = omega arith in ap (node_of bs) e
nodes_at d bs r (suc n) (suc i) h = let e : suc r + i ≡ r + suc i = omega arith in nodes_at d bs (suc r) n i (omega arith) ∙ ap (node_of bs) e

pub nodes_next : (bs : Boards) (r n : ℕ) → nodes_from bs r (suc n) ≡ nodes_from bs r n ++ (node_of bs (r + n) ∷ [])
unfolding nodes_from
nodes_next bs r zero = let e : r ≡ r + 0 = omega arith in ap (λ (m : ℕ). node_of bs m ∷ []) e
nodes_next bs r (suc n) = let e : suc r + n ≡ r + suc n = omega arith in ap (λ (l : List Node). node_of bs r ∷ l) (nodes_next bs (suc r) n ∙ ap (λ (m : ℕ). nodes_from bs (suc r) n ++ (node_of bs m ∷ [])) e)

-- ---- a board's node, off the table
pub in_table : (boards : Boards) (i : ℕ) → i < length boards → get_or (table no_node (nodes_of boards)) i no_node ≡ node_of boards (suc i)
in_table boards i h =
    let m = nodes_length boards 1 (length boards) in
    let e : 1 + i ≡ suc i = omega arith in
    table_at no_node (nodes_of boards) i no_node (omega arith) ∙ nodes_at no_node boards 1 (length boards) i h ∙ ap (node_of boards) e
