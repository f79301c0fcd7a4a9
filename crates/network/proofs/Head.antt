-- What a head gives that breaks no rule. Assumes nothing.
use mathlib.Core.List.{List}
use mathlib.Core.Option.{none}
use mathlib.Core.Path.{◌≡◌}
use Prim.Native.Nat.{ℕ, ◌+◌, ◌*◌, ◌≤◌}
use lib.ListN.{length}
use borrow.Author.Tests.{ltb-false, not-false}
use Rattle.lemmas.proofs.Bools.{same_by}
use Rattle.follows.proofs.Rows.{clear}
use Rattle.follows.proofs.Accepted.{head_ranges_lem}
use Rattle.paper.specs.Rows.{first}
use Rattle.paper.specs.File.{head_of}
use Rattle.paper.specs.Refusal.{head_rows, head_ranges}

pub record HeadKept (s : List ℕ) : Type 0 where
  pub long : 8 ≤ length s
  pub few : (head_of s).boards ≤ 256
  pub size : length s ≡ 8 + 44 * (head_of s).boards

pub kept_head : (s : List ℕ) → first (head_rows s) ≡ none → HeadKept s
unfolding head_rows
kept_head s e =
    let t = clear (head_rows s) e in
    record { long = ltb-false (length s) 8 t.0; few = (head_ranges_lem (head_of s) (not-false (head_ranges (head_of s)) t.1.1.0)).boards_range.1; size = same_by (length s) (8 + 44 * (head_of s).boards) t.1.1.1.0 }
