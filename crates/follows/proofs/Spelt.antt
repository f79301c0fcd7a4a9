-- Bytes that are taken one behind the other are a part of the list. Assumes nothing.
use mathlib.Core.List.{List, ◌∷◌}
use mathlib.Core.Path.{◌≡◌, refl, sym, ◌∙◌, ap}
use Prim.Native.Nat.{ℕ, zero, suc, ◌+◌, ◌≤◌}
use native.Mathlib.Omega.{arith}
use lib.ListN.{length, get_or, take, drop}
use lib.Seq.{drop-cons, take_all}
use Rattle.paper.specs.Bytes.{bytes_at}

pub part_bytes : (n i : ℕ) (s : List ℕ) → i + n ≤ length s → bytes_at n s i ≡ take n (drop i s)
unfolding bytes_at
part_bytes zero i s h = refl
part_bytes (suc n) i s h =
    let next : i + 1 ≡ suc i = omega arith in
    ap (λ (l : List ℕ). get_or s i 0 ∷ l) (part_bytes n (i + 1) s (omega arith) ∙ ap (λ (m : ℕ). take n (drop m s)) next)
    ∙ ap (take (suc n)) (sym (drop-cons s i 0 (omega arith)))

-- from the front on
pub front_bytes : (k : ℕ) (s : List ℕ) → k ≤ length s → bytes_at k s 0 ≡ take k s
front_bytes k s h = part_bytes k 0 s (omega arith)

pub all_bytes : (s : List ℕ) (k : ℕ) → length s ≡ k → bytes_at k s 0 ≡ s
all_bytes s k e = front_bytes k s (omega arith) ∙ take_all k s (omega arith)
