-- The column "Must hold" of the kind table: each row's test, from tests of the impedances. Assumes nothing.
use mathlib.Core.Bool.{Bool, true, not, ◌&&◌, and-true, and_assoc}
use mathlib.Core.List.{List, [], ◌∷◌}
use mathlib.Core.Path.{◌≡◌, sym, ◌∙◌, ap}
use Prim.Native.Nat.{ℕ, ◌≤◌}
use lib.ListN.{get_or, get_or-eq_default}
use Rattle.paper.specs.declared.Board.{Board}
use Rattle.paper.specs.Kind.{is_zero, same_ohms, kinds, kind_of, holds, all_hold}
use Rattle.follows.proofs.KindTable.{unknown, each_row}

abbrev pub tests : Bool → Bool → Bool → Bool → Bool → List Bool
tests some1 some2 same no0 non =
    let live = some1 && some2 in
    live ∷ (live && no0 && non) ∷ (same && non) ∷ same ∷ same ∷ (same && no0 && non) ∷ []

abbrev tests_of : Board → List Bool
tests_of b = tests (not (is_zero b.z1)) (not (is_zero b.z2)) (same_ohms b.z1 b.z2) (is_zero b.z0) (is_zero b.zn)

rules : (b : Board) (k : ℕ) → get_or (tests_of b) k true ≡ all_hold (kind_of k).rules b
unfolding kind_of kinds all_hold holds
rules b =
    each_row (λ k row. get_or (tests_of b) k true ≡ all_hold row.rules b)
    (simp and-true, (simp (and-true, and_assoc), (simp and-true, (simp and-true, (simp and-true, (simp (and-true, and_assoc), tt))))))
    (λ k h. get_or-eq_default (tests_of b) true {n = k} h)

pub rules_at : (k : ℕ) (b : Board) {some1 some2 same no0 non : Bool} → b.kind ≡ k → some1 ≡ not (is_zero b.z1) → some2 ≡ not (is_zero b.z2) → same ≡ same_ohms b.z1 b.z2
    → no0 ≡ is_zero b.z0
    → non ≡ is_zero b.zn
    → get_or (tests some1 some2 same no0 non) k true ≡ all_hold (kind_of b.kind).rules b
rules_at k b e e1 e2 es e0 en = (λ i. get_or (tests (e1 i) (e2 i) (es i) (e0 i) (en i)) k true) ∙ rules b k ∙ ap (λ n. all_hold (kind_of n).rules b) (sym e)

pub rules_none : (b : Board) → 6 ≤ b.kind → true ≡ all_hold (kind_of b.kind).rules b
unfolding kind_of kinds all_hold
rules_none b h = rw (unknown b.kind h)
