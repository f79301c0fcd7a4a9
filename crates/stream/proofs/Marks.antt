-- The marks by their index. Assumes nothing.
use mathlib.Core.Path.{◌≡◌, refl, sym, ap, ◌∙◌}
use Prim.Native.Nat.{ℕ, zero, suc, ◌+◌, ◌*◌, ◌/◌, ◌%◌, ◌<◌}
use native.Mathlib.Nat.{add-mul-mod_self_left}
use native.Mathlib.Omega.{arith}
use lib.IntN.{pos}
use lib.ListN.{length, get_or}
use Rattle.lemmas.specs.Table.{tab}
use Rattle.lemmas.proofs.Table.{tab_at}
use Rattle.stream.specs.Case.{marks, mark_at, byte_marks, byte_mark_at}

tab_length : {X : Type 0} (f : ℕ → X) (i k : ℕ) → length (tab f i k) ≡ k
tab_length f i zero = refl
tab_length f i (suc k) = ap suc (tab_length f (suc i) k)

pub marks_length : (n : ℕ) → length (marks n) ≡ n
unfolding marks
marks_length n = tab_length mark_at _ n

pub mark_at_lem : (n i : ℕ) → i < n → get_or (marks n) i (pos 0) ≡ mark_at i
unfolding marks
mark_at_lem n i h = tab_at mark_at (pos 0) n i h

pub byte_marks_length : (n : ℕ) → length (byte_marks n) ≡ n
unfolding byte_marks
byte_marks_length n = tab_length byte_mark_at _ n

-- by the low byte of its index alone
pub byte_mark_at_lem : (n i : ℕ) → i < n → (7 * (i % 256) + 3) % 256 ≡ get_or (byte_marks n) i 0
unfolding byte_marks
byte_mark_at_lem n i h =
    let whole : 7 * (i % 256) + 3 + 256 * (7 * (i / 256)) ≡ 7 * i + 3 = omega arith in
    sym (add-mul-mod_self_left (7 * (i % 256) + 3) 256 (7 * (i / 256))) ∙ ap (λ (m : ℕ). m % 256) whole ∙ sym (tab_at byte_mark_at 0 n i h)
