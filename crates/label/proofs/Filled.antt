-- A table of 256 places that a loop over a list fills in: after i of it. Assumes nothing.
use Rattle.std.proofs.Common.{◌≡◌, ℕ, ◌+◌, ◌<◌, ◌≤◌, List, [], ◌∷◌, ◌++◌, length, get_or, take, set, replicate, sym, refl, ap, ◌∙◌, add-one, arith}
use lib.Seq.{take_all, length-take-le, take-suc}
use Rattle.node.specs.Tables.{table}
use Rattle.node.proofs.Tables.{table_put, empty_table}

module _ {A : Type 0} (empty : A) (xs : List A) where
  abbrev pub filled : ℕ → List A
  filled i = table empty (take i xs)

  pub filled_none : replicate 256 empty ≡ filled 0
  filled_none = empty_table empty refl

  pub filled_next : (i : ℕ) {x : A} → i < length xs → length xs ≤ 256 → x ≡ get_or xs i empty → set (filled i) i x ≡ filled (i + 1)
  filled_next i h few e =
      let long : length (take i xs) ≡ i = length-take-le i xs (omega arith) in
      let next : take (i + 1) xs ≡ take i xs ++ (get_or xs i empty ∷ []) = rw add-one (take-suc xs i empty h) in
      (λ j. set (filled i) (sym long j) (e j)) ∙ table_put empty (take i xs) (get_or xs i empty) (omega arith) ∙ ap (table empty) (sym next)

  pub filled_all : (i : ℕ) → length xs ≤ i → filled i ≡ table empty xs
  filled_all i h = ap (table empty) (take_all i xs h)
