-- 01, 'The four faults at board k': "Amps: the greatest whole n not above |I|·volts·1,000,000/unit". Assumes nothing.
use Rattle.std.specs.Prelude.{Bool, cond, [], ◌∷◌, ℕ, zero, suc, ◌+◌, ◌*◌, ◌/◌, leb, nat_abs, get_or}
use Rattle.turn.specs.declared.Num.{Num}
use Rattle.turn.specs.Number.{◌+N◌, ◌*N◌, conj_n}
use Rattle.paper.specs.declared.Ohms.{Ohms}
use Rattle.paper.specs.Phase.{Asked, the_d, the_i, shows}

-- the greatest n with n·n ≤ m, for m below 4 to the number of digits: a binary digit at a time
unfoldable pub root : ℕ → ℕ → ℕ
root zero m = 0
root (suc digits) m = let n = 2 * root digits (m / 4) in cond (leb (suc n * suc n) m) (suc n) n

-- the greatest n with n·n·under ≤ over (over / under is below 4 ^ 80 in every accepted call)
unfoldable pub greatest : ℕ → ℕ → ℕ
greatest over under = root 80 (over / under)

module _ (q : Asked) where
  open q use {head, fault}

  -- "odd phase as a, I is Ia (kinds 0, 1), Ib (2) or the earth current 3I0 (3)", over D
  unfoldable pub said : Num
  said =
      let I = the_i q in
      let Ia = shows 0 0 0 I 0 in
      let Ib = shows 0 0 0 I 1 in
      get_or (Ia ∷ Ia ∷ Ib ∷ (I.s0 +N I.s0 +N I.s0) ∷ []) fault.kind Ia

  -- "|I|² is then a fraction of whole numbers": I times its conjugate, over D²
  unfoldable pub said_square : ℕ
  said_square = nat_abs (said *N conj_n said).x0

  -- (|I|·volts·1,000,000/unit)² as a fraction
  unfoldable pub amps_over : ℕ
  amps_over = said_square * ((head.volts * 1000000) * (head.volts * 1000000))

  unfoldable pub amps_under : ℕ
  amps_under = (nat_abs (the_d q) * head.unit) * (nat_abs (the_d q) * head.unit)

  unfoldable pub amps : ℕ
  amps = greatest amps_over amps_under

-- |I|²·D in closed form, at a board without earth return or with one: |1|², |3|² or 0, |t⁸ - t⁴|², and |3 Z2|² or 0 (and 0 for a number that is no kind). That it is said_square over D is a theorem (`amps`, `Exact`)
unfoldable pub factor : Bool → Ohms → ℕ → ℕ
factor unearthed z2 kind = get_or (1 ∷ cond unearthed 0 9 ∷ 3 ∷ cond unearthed 0 (9 * (z2.r * z2.r + z2.x * z2.x)) ∷ []) kind 0

unfoldable pub amps_open : Unit {0}
unfolding root greatest said said_square amps_over amps_under amps factor
amps_open = tt
