-- The table of turns and turning, as the contracts of `row`, `turn` and `mul` have them: what a caller gets of them. Assumes nothing.
use mathlib.Core.Path.{◌≡◌, sym, ap, ◌∙◌}
use Prim.Native.Nat.{ℕ, suc, ◌+◌}
use Rattle.lemmas.proofs.RuledOut.{ever}
use Rattle.turn.specs.declared.Num.{Num}
use Rattle.turn.specs.Number.{◌*N◌, times_t, power_n}
use Rattle.turn.proofs.Powers.{times_t_lem, power_suc, again}
use Rattle.turn.proofs.arithmetic.NumMul.mul.Reads as mul
use Rattle.phasor.proofs.turns.row.Reads as row
use Rattle.phasor.proofs.turns.turn.Reads as turn

-- what row(n), mul(a, b) and turn(a, n) may answer
abbrev Row : ℕ → Num → Type 0
Row n = ever (row.Post tt) (n, tt)

abbrev Product : Num → Num → Num → Type 0
Product a b = ever (mul.Post tt) (a, (b, tt))

abbrev Turned : Num → ℕ → Num → Type 0
Turned a n = ever (turn.Post tt) (a, (n, tt))

-- "row n times t is row n + 1"
pub rule : (n : ℕ) {p q : Num} → Row n p → Row (suc n) q → power_n 1 *N p ≡ q
rule n {p} a b = times_t_lem p ∙ ap times_t a.1 ∙ sym (power_suc n) ∙ sym b.1

-- and row 12 is row 0, and so on round
pub round : (n : ℕ) {p q : Num} → Row (12 + n) p → Row n q → p ≡ q
round n a b = a.1 ∙ again n ∙ sym b.1

-- turning is multiplying by the row, and so is what `mul` makes of the two
pub turning : (a : Num) (n : ℕ) {p r : Num} → Row n p → Turned a n r → r ≡ p *N a
turning a n p r = r.1 ∙ ap (λ (m : Num). m *N a) (sym p.1)

pub turning_multiplied : (a : Num) (n : ℕ) {p m r : Num} → Row n p → Product p a m → Turned a n r → r ≡ m
turning_multiplied a n p m r = turning a n p r ∙ sym m.1
