-- What each contract of this crate rules out: a call that it allows, and an answer that it does not. Assumes nothing.
use mathlib.Core.List.{List, [], ◌∷◌}
use mathlib.Core.Path.{ap}
use Prim.Native.Nat.{ℕ, ◌*◌}
use lib.Dec.{lit<, lit≤}
use lib.IntN.{ℤ, pos, negsuc, ◌-ℤ◌, ◌*ℤ◌}
use base.Fml.{Lft}
use Rattle.lemmas.specs.Over.{over}
use Rattle.lemmas.proofs.RuledOut.{◌↛◌, RuledOut, ever, ends, by, by_equation, whole, wholes, lent_out}
use Rattle.worked.specs.Four.{four_of}
use Rattle.worked.proofs.less_square.Reads as less-square
use Rattle.worked.proofs.square.Reads as square
use Rattle.worked.proofs.fill.Reads as fill

-- ---- four numbers, and a buffer of six
abbrev v : List ℤ
v = pos 1 ∷ pos 2 ∷ pos 3 ∷ pos 4 ∷ []

abbrev six : ℕ → ℕ → ℕ → ℕ → ℕ → ℕ → List ℤ
six a b c d e f = pos a ∷ pos b ∷ pos c ∷ pos d ∷ pos e ∷ pos f ∷ []

-- ---- the contracts
pub less_square_not : RuledOut (less-square.Pre tt) (ever (less-square.Post tt)) (
    (pos 1, (pos 2, tt)) ↛ negsuc 1  -- less_square_of_a
    ∷ (pos 1, (pos 2, tt)) ↛ pos 5  -- less_square_added
    ∷ [])
less_square_not =
    by_equation (λ a. a.0 -ℤ a.1.0 *ℤ a.1.0) whole (λ a z e s. s)
    ((record { small = lit≤ tt }, record { small = lit≤ tt }), ((record { small = lit≤ tt }, record { small = lit≤ tt }), tt)) tt

pub square_not : RuledOut (square.Pre tt) (ever (square.Post tt)) (
    (6, tt) ↛ 35  -- square_entry
    ∷ (6, tt) ↛ 49  -- square_of_the_next
    ∷ [])
square_not = by_equation (λ a. a.0 * a.0) (λ n. n) (λ a z e s. s) (lit< tt, (lit< tt, tt)) tt

module _ (κ : Lft) where
  pub fill_not : RuledOut (fill.Pre (κ, tt)) (ends (fill.Post (κ, tt))) (
      (lent_out (six 9 9 9 9 9 9), (1, (v, tt))) ↛ (tt, (lent_out (six 9 1 2 3 9 9), (1, (v, tt))))  -- fill_short_part
      ∷ (lent_out (six 9 9 9 9 9 9), (2, (v, tt))) ↛ (tt, (lent_out (six 9 9 1 2 3 9), (2, (v, tt))))  -- fill_three
      ∷ [])
  unfolding over four_of
  fill_not =
      by (λ z. wholes z.1.0.now) (λ a. wholes (over a.1.0 (four_of a.1.1.0) a.0.now)) (λ a z s. ap wholes s)
      ((lit< tt, lit≤ tt), ((lit< tt, lit≤ tt), tt)) tt
