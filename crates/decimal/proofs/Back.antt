-- A signed number from its word. Assumes nothing.
use mathlib.Core.Path.{◌≡◌, ap}
use Prim.Native.Nat.{◌^◌, ◌<◌}
use native.Mathlib.Omega.{arith}
use lib.IntN.{ℤ, pos, negsuc}
use mir.Syntax.{w64}
use mir.Val.{SFits}
use Rattle.decimal.specs.Word.{word_of}

pub word_fits : (z : ℤ) → SFits w64 z → word_of z < 256 ^ 8
unfolding word_of
word_fits (pos n) f = omega (arith, f.sfits)
word_fits (negsuc n) f = omega (arith, f.sfits)

pub same_word : (y z : ℤ) → SFits w64 y → SFits w64 z → word_of y ≡ word_of z → y ≡ z
unfolding word_of
same_word (pos m) (pos n) f g e = ap pos e
same_word (pos m) (negsuc n) f g e = absurd (omega (arith, f.sfits, g.sfits, e))
same_word (negsuc m) (pos n) f g e = absurd (omega (arith, f.sfits, g.sfits, e))
same_word (negsuc m) (negsuc n) f g e = let same : m ≡ n = omega (arith, f.sfits, g.sfits, e) in ap negsuc same
