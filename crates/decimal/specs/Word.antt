-- A signed number's word. Assumes nothing.
use Rattle.std.specs.Prelude.{ℕ, ◌-◌, ℤ, pos, negsuc}

-- a signed number of 64 bits as the unsigned one with the same bits: a number below 0 counts down from 2 ^ 64
unfoldable pub word_of : ℤ → ℕ
word_of (pos n) = n
word_of (negsuc n) = 18446744073709551615 - n
