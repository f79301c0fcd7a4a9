-- 01, 'The number'. What stands in quotes is the paper's. Assumes nothing.
use Rattle.std.specs.Prelude.{ℕ, zero, suc, ℤ, pos, neg_ℤ, ◌+ℤ◌, ◌*ℤ◌}
use Rattle.turn.specs.declared.Num.{Num}

-- "A number is four whole numbers (x0, x1, x2, x3), meaning x0 + x1 t + x2 t² + x3 t³, with t⁴ = t² - 1."

-- a whole number
abbrev pub whole_n : ℤ → Num
whole_n n = record { x0 = n; x1 = pos 0; x2 = pos 0; x3 = pos 0 }

-- "R + jX is (R, 0, 0, X)."
abbrev pub complex_n : ℤ → ℤ → Num
complex_n r x = record { x0 = r; x1 = pos 0; x2 = pos 0; x3 = x }

-- sums, and whole multiples, coordinate by coordinate
infixl 6 ◌+N◌ ◌-N◌
infixl 7 ◌*N◌ ◌·N◌
unfoldable pub ◌+N◌ : Num → Num → Num
a +N b = record { x0 = a.x0 +ℤ b.x0; x1 = a.x1 +ℤ b.x1; x2 = a.x2 +ℤ b.x2; x3 = a.x3 +ℤ b.x3 }

unfoldable pub neg_n : Num → Num
neg_n a = record { x0 = neg_ℤ a.x0; x1 = neg_ℤ a.x1; x2 = neg_ℤ a.x2; x3 = neg_ℤ a.x3 }

abbrev pub ◌-N◌ : Num → Num → Num
a -N b = a +N neg_n b

unfoldable pub ◌·N◌ : ℤ → Num → Num
n ·N a = record { x0 = n *ℤ a.x0; x1 = n *ℤ a.x1; x2 = n *ℤ a.x2; x3 = n *ℤ a.x3 }

-- t times a: x0 t + x1 t² + x2 t³ + x3 t⁴, and "t⁴ = t² - 1"
unfoldable pub times_t : Num → Num
times_t a = record { x0 = neg_ℤ a.x3; x1 = a.x0; x2 = a.x1 +ℤ a.x3; x3 = a.x2 }

-- the product: x0 b + x1 (t b) + x2 (t² b) + x3 (t³ b)
unfoldable pub ◌*N◌ : Num → Num → Num
a *N b = a.x0 ·N b +N a.x1 ·N times_t b +N a.x2 ·N times_t (times_t b) +N a.x3 ·N times_t (times_t (times_t b))

-- tⁿ, "t be a turn of 30 degrees forward"
unfoldable pub power_n : ℕ → Num
power_n zero = whole_n (pos 1)
power_n (suc n) = times_t (power_n n)

-- n such turns
abbrev pub turn_n : ℕ → Num → Num
turn_n n a = power_n n *N a

-- "the constants one, j, a and a²": "j = t³, and the 120 degree operator a = t⁴"
abbrev pub one_n : Num
one_n = power_n 0

abbrev pub j_n : Num
j_n = power_n 3

abbrev pub a_n : Num
a_n = power_n 4

abbrev pub a2_n : Num
a2_n = a_n *N a_n

-- the conjugate: every turn goes backwards, so t becomes t¹¹, t² becomes t²² and t³ becomes t³³
unfoldable pub conj_n : Num → Num
conj_n a = a.x0 ·N power_n 0 +N a.x1 ·N power_n 11 +N a.x2 ·N power_n 22 +N a.x3 ·N power_n 33

-- the square of the absolute value of R + jX: R² + X²
unfoldable pub square_n : Num → ℤ
square_n a = a.x0 *ℤ a.x0 +ℤ a.x3 *ℤ a.x3
