-- A kind by its name has that name's number, and a number without a name is none of the table's. Assumes nothing.
use mathlib.Core.Path.{◌≡◌, sym, ◌∙◌, ap}
use Prim.Native.Nat.{ℕ, zero, suc, ◌+◌, ◌≤◌}
use native.Mathlib.Omega.{arith}
use Rattle.std.specs.Prelude.{Result, Ok, Err}
use Rattle.kind.specs.declared.Kind.{Kind}
use Rattle.kind.specs.declared.Kind.TheVariants.{Source, FloatingSource, Cable, StarStar, DeltaStar, Blocking}
use Rattle.kind.specs.declared.UnknownKind.{UnknownKind}
use Rattle.kind.specs.Named.{number_of, named}

pub by_name : (n : ℕ) {k : Kind} → named n ≡ Ok k → n ≡ number_of k
by_name zero {k} e = let s : Source ≡ k = cc in ap number_of s
by_name (suc zero) {k} e = let s : FloatingSource ≡ k = cc in ap number_of s
by_name (suc (suc zero)) {k} e = let s : Cable ≡ k = cc in ap number_of s
by_name (suc (suc (suc zero))) {k} e = let s : StarStar ≡ k = cc in ap number_of s
by_name (suc (suc (suc (suc zero)))) {k} e = let s : DeltaStar ≡ k = cc in ap number_of s
by_name (suc (suc (suc (suc (suc zero))))) {k} e = let s : Blocking ≡ k = cc in ap number_of s
by_name (suc (suc (suc (suc (suc (suc n)))))) e = cc

pub unnamed : (n : ℕ) {u : UnknownKind} → named n ≡ Err u → 6 ≤ n
unnamed zero e = let z : ◌≡◌ {A = ℕ} 0 1 = cc in absurd (omega arith)
unnamed (suc zero) e = let z : ◌≡◌ {A = ℕ} 0 1 = cc in absurd (omega arith)
unnamed (suc (suc zero)) e = let z : ◌≡◌ {A = ℕ} 0 1 = cc in absurd (omega arith)
unnamed (suc (suc (suc zero))) e = let z : ◌≡◌ {A = ℕ} 0 1 = cc in absurd (omega arith)
unnamed (suc (suc (suc (suc zero)))) e = let z : ◌≡◌ {A = ℕ} 0 1 = cc in absurd (omega arith)
unnamed (suc (suc (suc (suc (suc zero))))) e = let z : ◌≡◌ {A = ℕ} 0 1 = cc in absurd (omega arith)
unnamed (suc (suc (suc (suc (suc (suc n)))))) e = omega arith

-- ---- of a number that was looked up: the table's row, or none
pub row : {n : ℕ} {r : Result Kind UnknownKind} {x k : Kind} → r ≡ named n → r ≡ Ok x → x ≡ k → n ≡ number_of k
row {n} e is same = by_name n (sym e ∙ is ∙ ap Ok same)

pub no_row : {n : ℕ} {r : Result Kind UnknownKind} {u : UnknownKind} → r ≡ named n → r ≡ Err u → 6 ≤ n
no_row {n} e is = unnamed n (sym e ∙ is)

pub past_the_table : (n : ℕ) → 6 ≤ n → named n ≡ Err (record { 0 = n })
past_the_table zero h = absurd (omega arith)
past_the_table (suc zero) h = absurd (omega arith)
past_the_table (suc (suc zero)) h = absurd (omega arith)
past_the_table (suc (suc (suc zero))) h = absurd (omega arith)
past_the_table (suc (suc (suc (suc zero)))) h = absurd (omega arith)
past_the_table (suc (suc (suc (suc (suc zero))))) h = absurd (omega arith)
past_the_table (suc (suc (suc (suc (suc (suc n)))))) h = let e : 6 + n ≡ suc (suc (suc (suc (suc (suc n))))) = omega arith in cc
