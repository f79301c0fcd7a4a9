-- How far a signed word lies from 0, and its text by that. Assumes nothing.
use mathlib.Core.Bool.{true, false, true≢false}
use mathlib.Core.Path.{◌≡◌, refl, sym, ap, ◌∙◌}
use mathlib.Core.List.{◌∷◌}
use Prim.Native.Nat.{ℕ, suc, ◌-◌, ◌≤◌}
use native.Mathlib.Omega.{arith}
use lib.IntN.{ℤ, pos, negsuc, nat_abs}
use lib.Signed.{mag, lt_z}
use mir.Syntax.{w64}
use mir.Val.{SFits}
use mir.Facts.{to_z-of_z}
use borrow.Author.Tests.{ltb-true}
use Rattle.lemmas.proofs.Words.{kept}
use Rattle.decimal.specs.Decimal.{decimal, signed}

-- ---- a number below 0, as the code tests it
negative : (z : ℤ) → lt_z z (pos 0) ≡ true → (z ≡ negsuc (nat_abs z - 1)) × (1 ≤ nat_abs z) × (nat_abs z - 1 ≡ mag z)
negative (pos n) h = absurd (omega (arith, ltb-true n 0 h))
negative (negsuc n) h = (ap negsuc (omega arith), omega arith, omega arith)

positive : (z : ℤ) → lt_z z (pos 0) ≡ false → (z ≡ pos (nat_abs z)) × (nat_abs z ≡ mag z)
positive (pos n) h = (refl, refl)
positive (negsuc n) h = absurd (true≢false h)

module _ (z : ℤ) (f : SFits w64 z) where
  is_kept : kept z ≡ z
  is_kept = to_z-of_z f

  module _ (h : lt_z (kept z) (pos 0) ≡ true) where
    below : (z ≡ negsuc (nat_abs z - 1)) × (1 ≤ nat_abs z) × (nat_abs z - 1 ≡ mag z)
    below = negative z (rw is_kept at h)

    pub signed_below : {n : ℕ} → n ≡ nat_abs (kept z) → signed z ≡ 0x2D ∷ decimal n
    unfolding signed
    signed_below {n} m = let e : suc (nat_abs z - 1) ≡ n = omega (arith, below.1, m, ap nat_abs is_kept) in ap signed below.0 ∙ ap (λ (n : ℕ). 0x2D ∷ decimal n) e

  module _ (h : lt_z (kept z) (pos 0) ≡ false) where
    above : (z ≡ pos (nat_abs z)) × (nat_abs z ≡ mag z)
    above = positive z (rw is_kept at h)

    pub signed_above : {n : ℕ} → n ≡ nat_abs (kept z) → signed z ≡ decimal n
    unfolding signed
    signed_above m = ap signed above.0 ∙ ap decimal (sym (m ∙ ap nat_abs is_kept))
