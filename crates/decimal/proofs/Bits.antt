-- A signed word as the unsigned one with the same bits. Assumes nothing.
use mathlib.Core.Path.{◌≡◌, refl}
use native.Mathlib.Omega.{arith}
use lib.IntN.{ℤ, pos, negsuc}
use mir.Syntax.{w64}
use Rattle.std.specs.Int.{cast_unsigned}
use Rattle.decimal.specs.Word.{word_of}

pub word_is : (z : ℤ) → cast_unsigned w64 z ≡ word_of z
unfolding word_of
word_is (pos n) = refl
word_is (negsuc n) = omega arith
