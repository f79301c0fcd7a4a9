-- The products of two numbers' coordinates, as words with their bounds: what the proof of `mul` computes with. Assumes nothing.
use mathlib.Core.List.{List, [], ◌∷◌}
use lib.IntN.{ℤ}
use mir.Syntax.{w64}
use mir.Val.{SFits}
use Rattle.lemmas.specs.Small.{Small}
use Rattle.lemmas.proofs.Distance.{small_weak, small_mul}
use Rattle.lemmas.proofs.Words.{Known, times}
use Rattle.turn.specs.declared.Num.{Num}
use Rattle.turn.specs.Bounds.{Factors}

-- a struct's coordinates fit their words
pub record Words (a : Num) : Type 0 where
  pub s0 : SFits w64 a.x0
  pub s1 : SFits w64 a.x1
  pub s2 : SFits w64 a.x2
  pub s3 : SFits w64 a.x3

-- the sixteen products of two numbers' coordinates, each a word at most 2 ^ 60 from 0
module _ {a b : Num} (f : Factors a b) where
  abbrev pub product : {x y : ℤ} → SFits w64 x → SFits w64 y → Small f.left x → Small f.right y → Known
  product p q u v = times p q (small_weak f.room (small_mul u v))

  abbrev pub line : Words b → {x : ℤ} → SFits w64 x → Small f.left x → List Known → List Known
  line q s u rest = product s q.s0 u f.other.w0 ∷ product s q.s1 u f.other.w1 ∷ product s q.s2 u f.other.w2 ∷ product s q.s3 u f.other.w3 ∷ rest

  abbrev pub products : Words a → Words b → List Known
  products p q = line q p.s0 f.one.w0 (line q p.s1 f.one.w1 (line q p.s2 f.one.w2 (line q p.s3 f.one.w3 [])))
