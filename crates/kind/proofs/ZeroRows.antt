-- "Zero sequence" of the kind table, where the code's match took no row. Assumes nothing.
use mathlib.Core.Path.{◌≡◌, refl}
use Prim.Native.Nat.{ℕ}
use Rattle.paper.specs.Kind.{none, kinds, kind_of}
use Rattle.follows.proofs.KindTable.{each_row}

-- none, where no earlier arm of the match took the kind
abbrev Others : ℕ → Type 0
Others k = (((Unit {0} × (k ≡ 0 → ⊥)) × (k ≡ 2 → ⊥)) × (k ≡ 3 → ⊥)) × (k ≡ 4 → ⊥)

pub blocked : {k : ℕ} → Others k → (kind_of k).zero_seq ≡ none
unfolding kind_of kinds
blocked {k} =
    each_row (λ k row. Others k → row.zero_seq ≡ none)
    (λ n. absurd (n.0.0.0.1 refl), (λ n. refl, (λ n. absurd (n.0.0.1 refl), (λ n. absurd (n.0.1 refl), (λ n. absurd (n.1 refl), (λ n. refl, tt))))))
    (λ k h n. refl) k
