-- A network and a label that nothing refuses: the network is accepted, and the label is a board's; the answer is then the board's. Assumes nothing.
use mathlib.Core.Bool.{not}
use mathlib.Core.List.{List}
use mathlib.Core.Option.{none}
use mathlib.Core.Path.{◌≡◌}
use Prim.Native.Nat.{ℕ, ◌≤◌}
use native.Mathlib.Omega.{arith}
use lib.Dec.{eqb}
use lib.ListN.{length}
use borrow.Author.Tests.{eqb-false, eq-eqb, ne_eqb}
use Rattle.lemmas.proofs.Bools.{neither, same_by}
use Rattle.paper.specs.Label.{Label}
use Rattle.paper.specs.File.{label_size, boards_of}
use Rattle.paper.specs.Rows.{first}
use Rattle.paper.specs.Refusal.{network_rows, network_refusal}
use Rattle.paper.specs.Return.{label_rows, earth_rows, earth_refusal, return_at, refused_or, earth_said}
use Rattle.follows.proofs.Rows.{clear, behind, both_none}
use Rattle.return_path.specs.Truth.{named}

pub record Asked (net : List ℕ) (l : Label) : Type 0 where
  pub network : network_refusal net ≡ none
  pub label_size_lem : length l ≡ label_size
  pub from : 1 ≤ named net l

module _ (net : List ℕ) (l : Label) where
  pub asked : earth_refusal net l ≡ none → Asked net l
  unfolding earth_rows label_rows
  asked e =
      let (e1, e2) = both_none (network_rows net) (label_rows (boards_of net) l) e in
      let (c14, _) = clear (label_rows (boards_of net) l) e2 in
      let (size, there) = neither (not (eqb (length l) label_size)) (eqb (named net l) 0) c14 in
      let n = eqb-false (named net l) 0 there in
      record { network = e1; label_size_lem = same_by (length l) label_size size; from = omega arith }

  pub answered : Asked net l → earth_said net l ≡ return_at (boards_of net) (named net l)
  unfolding earth_said refused_or earth_rows label_rows first
  answered a = rw (behind (network_rows net) (label_rows (boards_of net) l) a.network, eq-eqb (length l) label_size a.label_size_lem, ne_eqb (named net l) 0 (λ z. let f = a.from in omega arith))
