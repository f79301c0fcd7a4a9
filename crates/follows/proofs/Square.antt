-- The squares of the divisors' absolute values, as natural numbers. The parts of impedances are natural numbers, so Δ's square has no minus in it either: that is
-- why it is not 0, and why it is greatest where all the parts are. Assumes nothing.
use mathlib.Core.Path.{◌≡◌, refl, sym, ◌∙◌, ap, subst}
use Prim.Native.Nat.{ℕ, ◌+◌, ◌*◌}
use lib.IntN.{ℤ, pos, ◌-ℤ◌}
use Rattle.lemmas.proofs.Ring.{ℤring}
use Rattle.lemmas.proofs.Solver.{E, con, ◌⊕◌, ◌⊗◌, ◌⊖◌}
use Rattle.lemmas.proofs.Solve.{solve}
use Rattle.turn.specs.declared.Num.{Num}
use Rattle.turn.specs.Number.{power_n, ◌+N◌, ◌·N◌, ◌*N◌, times_t, square_n}
use Rattle.turn.proofs.Form.{Form, add_f, mul_f, complex_f}
use Rattle.paper.specs.declared.Ohms.{Ohms}
use Rattle.paper.specs.Kind.{◌+Ω◌}
use Rattle.paper.specs.Fault.{num_of, G, Δ, D}
use Rattle.follows.proofs.Row.{each_row, GOf, ΔOf, DOf}

-- "G = Z0 + 3Zf"
unfoldable pub earthed : Ohms → Ohms → Ohms
earthed z0 zf = z0 +Ω (zf +Ω zf +Ω zf)

pub G_is : (z1 z2 z0 zf : Ohms) → GOf z1 z2 z0 zf ≡ num_of (earthed z0 zf)
unfolding G num_of earthed ◌+N◌ ◌+Ω◌
G_is z1 z2 z0 zf = refl

-- sums of impedances are sums of numbers
pub num_add : (a b : Ohms) → num_of a +N num_of b ≡ num_of (a +Ω b)
unfolding num_of ◌+N◌ ◌+Ω◌
num_add a b = refl

-- ---- |z|², and the real part of a times b's conjugate
unfoldable pub sq : Ohms → ℕ
sq z = z.r * z.r + z.x * z.x

unfoldable pub dot : Ohms → Ohms → ℕ
dot a b = a.r * b.r + a.x * b.x

pub square_num : (z : Ohms) → square_n (num_of z) ≡ pos (sq z)
unfolding num_of square_n sq
square_num z = refl

-- |ab + ac + bc|² = |a|²|b + c|² + |b|²|c|² + 2 re(ac*)|b|² + 2 re(ab*)|c|²
unfoldable pub sqΔ : Ohms → Ohms → Ohms → ℕ
sqΔ a b c = sq a * sq (b +Ω c) + sq b * sq c + 2 * (dot a c * sq b) + 2 * (dot a b * sq c)

module _ (r1 x1 r2 x2 r3 x3 : E ℤ) where
  abbrev δ : Form
  δ = add_f (add_f (mul_f (complex_f r1 x1) (complex_f r2 x2)) (mul_f (complex_f r1 x1) (complex_f r3 x3))) (mul_f (complex_f r2 x2) (complex_f r3 x3))

  abbrev norm : E ℤ → E ℤ → E ℤ
  norm r x = r ⊗ r ⊕ x ⊗ x

  abbrev left : E ℤ
  left = norm δ.f0 δ.f3

  abbrev right : E ℤ
  right =
      norm r1 x1 ⊗ norm (r2 ⊕ r3) (x2 ⊕ x3) ⊕ norm r2 x2 ⊗ norm r3 x3 ⊕ con (pos 2) ⊗ ((r1 ⊗ r3 ⊕ x1 ⊗ x3) ⊗ norm r2 x2)
      ⊕ con (pos 2) ⊗ ((r1 ⊗ r2 ⊕ x1 ⊗ x2) ⊗ norm r3 x3)

square_sum : (a b c : Ohms) → square_n (num_of a *N num_of b +N num_of a *N num_of c +N num_of b *N num_of c) ≡ pos (sqΔ a b c)
unfolding num_of square_n sqΔ sq dot ◌+Ω◌ ◌*N◌ ◌+N◌ ◌·N◌ times_t
square_sum a b c = solve ℤring 6 left right tt (pos a.r) (pos a.x) (pos b.r) (pos b.x) (pos c.r) (pos c.x)

pub square-Δ : (z1 z2 z0 zf : Ohms) → square_n (ΔOf z1 z2 z0 zf) ≡ pos (sqΔ z1 z2 (earthed z0 zf))
unfolding Δ
square-Δ z1 z2 z0 zf =
    ap (λ (g : Num). square_n (num_of z1 *N num_of z2 +N num_of z1 *N g +N num_of z2 *N g)) (G_is z1 z2 z0 zf) ∙ square_sum z1 z2 (earthed z0 zf)

-- Δ's real part is a difference of natural numbers
real_sum : (a b c : Ohms) → (num_of a *N num_of b +N num_of a *N num_of c +N num_of b *N num_of c).x0
    ≡ pos (a.r * b.r + a.r * c.r + b.r * c.r) -ℤ pos (a.x * b.x + a.x * c.x + b.x * c.x)
unfolding num_of ◌*N◌ ◌+N◌ ◌·N◌ times_t
real_sum a b c =
    solve ℤring 6 (λ r1 x1 r2 x2 r3 x3. (δ r1 x1 r2 x2 r3 x3).f0) (λ r1 x1 r2 x2 r3 x3. (r1 ⊗ r2 ⊕ r1 ⊗ r3 ⊕ r2 ⊗ r3) ⊖ (x1 ⊗ x2 ⊕ x1 ⊗ x3 ⊕ x2 ⊗ x3)) tt (pos a.r)
    (pos a.x) (pos b.r) (pos b.x) (pos c.r) (pos c.x)

pub real-Δ : (z1 z2 z0 zf : Ohms) → let g = earthed z0 zf in
    (ΔOf z1 z2 z0 zf).x0 ≡ pos (z1.r * z2.r + z1.r * g.r + z2.r * g.r) -ℤ pos (z1.x * z2.x + z1.x * g.x + z2.x * g.x)
unfolding Δ
real-Δ z1 z2 z0 zf =
    ap (λ (g : Num). (num_of z1 *N num_of z2 +N num_of z1 *N g +N num_of z2 *N g).x0) (G_is z1 z2 z0 zf) ∙ real_sum z1 z2 (earthed z0 zf)

-- ---- so what holds of these natural numbers holds of D
module _ (z1 z2 z0 zf : Ohms) (P : ℤ → Type 0) where
  pub each_D : P (pos (sq (z1 +Ω zf))) → P (pos (sq (z1 +Ω z2 +Ω earthed z0 zf))) → P (pos (sq (z1 +Ω z2 +Ω zf))) → P (pos (sqΔ z1 z2 (earthed z0 zf)))
      → P (pos 1)
      → (kind : ℕ)
      → P (DOf z1 z2 z0 zf kind)
  unfolding D square_n sq num_of G earthed power_n ◌+N◌ ◌+Ω◌
  each_D p0 p1 p2 p3 p4 =
      each_row (num_of z1) (num_of z2) (num_of z0) (num_of zf) (λ d n. P (square_n d)) p0 p1 p2 (subst P (sym (square-Δ z1 z2 z0 zf)) p3) p4
