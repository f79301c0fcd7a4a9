-- 01, 'Figures worked through', its end: numbers as the program prints them. Assumes nothing.
use Rattle.std.specs.Prelude.{cond, List, [], ◌∷◌, ◌++◌, ℕ, zero, suc, ◌+◌, ◌/◌, ◌%◌, ltb, ℤ, pos, negsuc}

-- with k digits at most
unfoldable pub digits : ℕ → ℕ → List ℕ
digits zero n = []
digits (suc k) n = let front = digits k (n / 10) in cond (ltb n 10) ((0x30 + n) ∷ []) (front ++ ((0x30 + n % 10) ∷ []))

-- no number of 64 bits has more than twenty (proofs/, `decimal_whole`)
unfoldable pub decimal : ℕ → List ℕ
decimal n = digits 20 n

-- '-' in front of negatives
unfoldable pub signed : ℤ → List ℕ
signed (pos n) = decimal n
signed (negsuc n) = 0x2D ∷ decimal (suc n)

-- numbers to a line's end, a space before each
unfoldable pub row : List ℤ → List ℕ
row [] = 0x0A ∷ []
row (z ∷ zs) = (0x20 ∷ signed z) ++ row zs

unfoldable pub decimal_open : Unit {0}
unfolding digits decimal signed row
decimal_open = tt
