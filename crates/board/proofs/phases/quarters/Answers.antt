use mathlib.Core.Bool.{cond}
use mathlib.Core.List.{List, []}
use mathlib.Core.Path.{◌≡◌, sym, ap, ◌∙◌}
use Prim.Native.Nat.{ℕ, ◌+◌, ◌*◌, ◌/◌, ◌%◌, ◌<◌}
use native.Mathlib.Nat.{mul-one, mul-zero}
use native.Mathlib.Omega.{arith}
use lib.Dec.{eqb, lit≤}
use Rattle.lemmas.proofs.Solver.{var}
use Rattle.lemmas.proofs.Table.{each_at}
use Rattle.lemmas.proofs.Words.{Known, reads, kept}
use Rattle.paper.specs.Bounds.{Plane, most_w}
use Rattle.turn.specs.declared.Num.{Num}
use Rattle.turn.specs.Number.{complex_n, turn_n}
use Rattle.turn.proofs.Operands.{coordinates}
use Rattle.turn.proofs.Powers.{turn_zero, turn_add, turn_same}
use Rattle.turn.proofs.Within.{within_weak}
use Rattle.fits.proofs.Plane.{plane_is, plane_turn}
use Rattle.fits.proofs.Needs.{within_is}
use Rattle.board.proofs.phases.quarters.Goals as goal

-- `board::phases::quarters` meets its contract: a quarter back is t⁹, two are t⁶, and twelve turns go round. Assumes nothing.
-- turned by k or not
once : (k m : ℕ) (a : Num) → m < 2 → cond (eqb m 1) (turn_n k a) a ≡ turn_n (k * m) a
once k m a h = each_at (λ (m : ℕ). cond (eqb m 1) (turn_n k a) a ≡ turn_n (k * m) a) 2 m h (sym (ap (λ n. turn_n n a) (mul-zero k) ∙ turn_zero a), (ap (λ n. turn_n n a) (sym (mul-one k)), tt))

-- two quarters and one, of n: whole rounds are left out
rounds : (q m b : ℕ) → (6 * m + 9 * b) % 12 ≡ 9 * (2 * (2 * q + m) + b) % 12
rounds q m b = omega arith

quarters_of : (n : ℕ) → (6 * (n / 2 % 2) + 9 * (n % 2)) % 12 ≡ 9 * n % 12
quarters_of n = let e : 2 * (2 * (n / 2 / 2) + n / 2 % 2) + n % 2 ≡ n = omega arith in rounds (n / 2 / 2) (n / 2 % 2) (n % 2) ∙ ap (λ (k : ℕ). 9 * k % 12) e

-- R + jX, taken apart and put together
whole : (a : Num) {z : Num} → Plane most_w a → z ≡ complex_n (kept a.x0) (kept a.x3) → z ≡ a
whole a p e = let k : List Known = coordinates p.within [] in e ∙ (λ i. complex_n (reads k (var 0) tt i) (reads k (var 3) tt i)) ∙ sym (plane_is p)

-- turned by a quarter or not
odd : (n : ℕ) (a : Num) {z b : Num} → z ≡ a → b ≡ cond (eqb (n % 2) 1) (turn_n 9 z) z → b ≡ turn_n (9 * (n % 2)) a
odd n a {z} e d = d ∙ once 9 (n % 2) z (omega arith) ∙ ap (λ (z : Num). turn_n (9 * (n % 2)) z) e

pub turn_if-b-requires : goal.turn_if-b-requires
turn_if-b-requires c = within_is (whole c.args.a c.requires c.complex-z.ensures) (within_weak (lit≤ tt) c.requires.within)

pub turn_if-requires : goal.turn_if-requires
turn_if-requires c =
    let n = c.args.n in
    let a = c.args.a in
    within_is (odd n a (whole a c.requires c.complex-z.ensures) c.turn_if-b.ensures) (within_weak (lit≤ tt) (plane_turn (9 * (n % 2)) c.requires))

pub returns : goal.returns
returns c =
    let n = c.args.n in
    let a = c.args.a in
    let m = n / 2 % 2 in
    c.turn_if.ensures
    ∙ once 6 m c.turn_if-b.result (omega arith)
    ∙ ap (λ (b : Num). turn_n (6 * m) b) (odd n a (whole a c.requires c.complex-z.ensures) c.turn_if-b.ensures)
    ∙ sym (turn_add (6 * m) (9 * (n % 2)) a)
    ∙ turn_same (6 * m + 9 * (n % 2)) (9 * n) a (quarters_of n)
