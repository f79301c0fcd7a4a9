-- A root as a computed test, for tables of wrong answers. Assumes nothing.
use Rattle.std.proofs.Common.{ℕ, ◌+◌, ◌*◌, Bool, ◌&&◌, T, ltb, leb, le→leb, lt→ltb}
use mir.Facts.{yes_and}
use Rattle.root.specs.Root.{Root}

abbrev pub is_root : ℕ → ℕ → ℕ → Bool
is_root num den n = leb (n * n * den) num && ltb num ((n + 1) * (n + 1) * den)

pub root_passes : {num den n : ℕ} → Root num den n → T (is_root num den n)
root_passes {num} {den} {n} r =
    yes_and (leb (n * n * den) num) (ltb num ((n + 1) * (n + 1) * den)) (le→leb (n * n * den) num r.low) (lt→ltb num ((n + 1) * (n + 1) * den) r.high)
