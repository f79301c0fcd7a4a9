-- Signed words of 64 bits: the goals that ask whether a computed number fits, and what is read back of one that was stored.
-- An expression of words is a value of `E`. What the machine computes for it stores each part and reads it back; a computed test
-- on the parts' bounds then says that every part fits, and so that the machine's number is the one that the expression means.
-- Assumes nothing.
use mathlib.Core.Path.{◌≡◌, refl, sym, ap, ap₂, ◌∙◌, subst}
use mathlib.Core.Bool.{Bool, ◌&&◌}
use mathlib.Core.List.{List}
use Prim.Native.Nat.{ℕ, ◌+◌, ◌*◌, ◌^◌, ◌≤◌, ◌<◌}
use native.Mathlib.Nat.{le_refl, le_trans, lt_of_le_of_lt}
use native.Mathlib.Omega.{arith}
use lib.Dec.{T, ltb, ltb→lt}
use lib.ListN.{get_or}
use lib.IntN.{ℤ, pos, negsuc, nat_abs, neg_ℤ, ◌+ℤ◌, ◌-ℤ◌, ◌*ℤ◌, +ℤ_idl}
use lib.Signed.{mag}
use mir.Syntax.{w64}
use mir.Val.{SFits, to_z, of_z}
use mir.Facts.{to_z-of_z}
use Rattle.lemmas.proofs.Solver.{E, var, con, ◌⊕◌, ◌⊗◌, ◌⊖◌, ⊝◌}
use Rattle.lemmas.specs.Small.{Small}
use Rattle.lemmas.proofs.Bools.{both_t}
use Rattle.lemmas.proofs.Distance.{small_itself, small_neg, small_add, small_sub, small_mul}

mag≤natAbs : (z : ℤ) → mag z ≤ nat_abs z
mag≤natAbs (pos n) = le_refl n
mag≤natAbs (negsuc n) = omega arith

-- a number below 2 ^ 63 from 0 fits
pub sfits : {z : ℤ} {b : ℕ} → Small b z → b < 2 ^ 63 → SFits w64 z
sfits {z} h k = record { sfits = lt_of_le_of_lt (le_trans (mag≤natAbs z) h.small) k }

-- a word: what the machine computes, the number that it is, and how far from 0 that is at most
pub record Known : Type 0 where
  pub word : ℤ
  pub value : ℤ
  pub bound : ℕ
  pub is : word ≡ value
  pub held : Small bound value

-- a word that is its number
abbrev pub know : {b : ℕ} {z : ℤ} → Small b z → Known
know {b} {z} h = record { word = z; value = z; bound = b; is = refl; held = h }

abbrev pub lit : ℤ → Known
lit z = know (small_itself z)

-- a word, stored and read back
abbrev pub kept : ℤ → ℤ
kept x = to_z w64 (of_z w64 x)

abbrev nth : List Known → ℕ → Known
nth k i = get_or k i (lit (pos 0))

-- what the machine computes, what it means, and how far from 0 that is at most
abbrev pub mach : List Known → E ℤ → ℤ
mach k (var i) = (nth k i).word
mach k (con z) = z
mach k (a ⊕ b) = kept (mach k a) +ℤ kept (mach k b)
mach k (a ⊗ b) = kept (mach k a) *ℤ kept (mach k b)
mach k (a ⊖ b) = kept (mach k a) -ℤ kept (mach k b)
mach k (⊝ a) = pos 0 -ℤ kept (mach k a)

abbrev pub means : List Known → E ℤ → ℤ
means k (var i) = (nth k i).value
means k (con z) = z
means k (a ⊕ b) = means k a +ℤ means k b
means k (a ⊗ b) = means k a *ℤ means k b
means k (a ⊖ b) = means k a -ℤ means k b
means k (⊝ a) = neg_ℤ (means k a)

abbrev pub most : List Known → E ℤ → ℕ
most k (var i) = (nth k i).bound
most k (con z) = nat_abs z
most k (a ⊕ b) = most k a + most k b
most k (a ⊗ b) = most k a * most k b
most k (a ⊖ b) = most k a + most k b
most k (⊝ a) = most k a

-- the test: every part is below 2 ^ 63 from 0
abbrev room : ℕ → Bool
room n = ltb n (2 ^ 63)

abbrev pub ok : List Known → E ℤ → Bool
ok k (var i) = room (most k (var i))
ok k (con z) = room (nat_abs z)
ok k (a ⊕ b) = room (most k a + most k b) && (ok k a && ok k b)
ok k (a ⊗ b) = room (most k a * most k b) && (ok k a && ok k b)
ok k (a ⊖ b) = room (most k a + most k b) && (ok k a && ok k b)
ok k (⊝ a) = ok k a

-- what the test gives of each expression
record Near (x z : ℤ) (b : ℕ) : Type 0 where
  pub is : x ≡ z
  pub small : Small b z
  pub space : T (room b)

fit : {x z : ℤ} {b : ℕ} → Near x z b → SFits w64 x
fit {b = b} n = subst (SFits w64) (sym n.is) (sfits n.small (ltb→lt b (2 ^ 63) n.space))

back : {x z : ℤ} {b : ℕ} → Near x z b → kept x ≡ z
back n = to_z-of_z (fit n) ∙ n.is

module _ {x z y v : ℤ} {b d : ℕ} (p : Near x z b) (q : Near y v d) where
  sum : T (room (b + d)) → Near (kept x +ℤ kept y) (z +ℤ v) (b + d)
  sum t = record { is = rw (back p, back q); small = small_add p.small q.small; space = t }

  product : T (room (b * d)) → Near (kept x *ℤ kept y) (z *ℤ v) (b * d)
  product t = record { is = rw (back p, back q); small = small_mul p.small q.small; space = t }

  difference : T (room (b + d)) → Near (kept x -ℤ kept y) (z -ℤ v) (b + d)
  difference t = record { is = rw (back p, back q); small = small_sub p.small q.small; space = t }

opposite : {x z : ℤ} {b : ℕ} → Near x z b → Near (pos 0 -ℤ kept x) (neg_ℤ z) b
opposite {z = z} p = record { is = ap (λ u. pos 0 -ℤ u) (back p) ∙ +ℤ_idl (neg_ℤ z); small = small_neg p.small; space = p.space }

near : (k : List Known) (e : E ℤ) → T (ok k e) → Near (mach k e) (means k e) (most k e)
near k (var i) t = record { is = (nth k i).is; small = (nth k i).held; space = t }
near k (con z) t = record { is = refl; small = small_itself z; space = t }
near k (a ⊕ b) t =
    let h = both_t (room (most k a + most k b)) (ok k a && ok k b) t in
    let g = both_t (ok k a) (ok k b) h.1 in
    sum (near k a g.0) (near k b g.1) h.0
near k (a ⊗ b) t =
    let h = both_t (room (most k a * most k b)) (ok k a && ok k b) t in
    let g = both_t (ok k a) (ok k b) h.1 in
    product (near k a g.0) (near k b g.1) h.0
near k (a ⊖ b) t =
    let h = both_t (room (most k a + most k b)) (ok k a && ok k b) t in
    let g = both_t (ok k a) (ok k b) h.1 in
    difference (near k a g.0) (near k b g.1) h.0
near k (⊝ a) t = opposite (near k a t)

-- ---- the two answers: such a goal's, and what is read back at the end
pub fits : (k : List Known) (e : E ℤ) → T (ok k e) → SFits w64 (mach k e)
fits k e t = fit (near k e t)

pub reads : (k : List Known) (e : E ℤ) → T (ok k e) → kept (mach k e) ≡ means k e
reads k e t = back (near k e t)

-- ---- where a product's bound comes from a law and not from numerals, the product is one word
abbrev pub times : {b : ℕ} {x y : ℤ} → SFits w64 x → SFits w64 y → Small b (x *ℤ y) → Known
times {b} {x} {y} p q h = record { word = kept x *ℤ kept y; value = x *ℤ y; bound = b; is = ap₂ ◌*ℤ◌ (to_z-of_z p) (to_z-of_z q); held = h }

-- ---- from unsigned words
pub signed : (n : ℕ) → n < 2 ^ 63 → to_z w64 n ≡ pos n
signed n h = to_z-of_z {w = w64} {z = pos n} (record { sfits = h })
