-- Four numbers, number by number. Assumes nothing.
use mathlib.Core.Path.{◌≡◌, refl}
use mathlib.Core.List.{List}
use Prim.Native.Nat.{ℕ, ◌<◌}
use lib.IntN.{ℤ, pos}
use lib.ListN.{length, get_or}
use Rattle.lemmas.proofs.Table.{each_at}
use Rattle.worked.specs.Four.{four_of}

pub four_at : (v : List ℤ) (k : ℕ) → k < 4 → get_or (four_of v) k (pos 0) ≡ get_or v k (pos 0)
unfolding four_of
four_at v k h = each_at (λ (j : ℕ). get_or (four_of v) j (pos 0) ≡ get_or v j (pos 0)) 4 k h (refl, (refl, (refl, (refl, tt))))

pub four_length : (v : List ℤ) → length (four_of v) ≡ 4
unfolding four_of
four_length v = refl
