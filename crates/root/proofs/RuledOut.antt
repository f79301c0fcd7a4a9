-- What each contract of this crate rules out: a call that it allows, and an answer that it does not. Assumes nothing.
use Rattle.std.proofs.Common.{ℕ, ◌+◌, ◌-◌, ◌*◌, ◌^◌, true, false, leb, [], ◌∷◌, arith, lit≤}
use Rattle.lemmas.proofs.RuledOut.{◌↛◌, RuledOut, ever, by_test, by_equation, bool}
use Rattle.root.specs.Root.{Root}
use Rattle.root.proofs.Tested.{is_root, root_passes}
use Rattle.root.proofs.product.Reads as product
use Rattle.root.proofs.reaches.Reads as reaches
use Rattle.root.proofs.root.Reads as root

abbrev last : ℕ
last = 2 ^ 64 - 1

-- ---- the contracts
pub product_not : RuledOut (product.Pre tt) (ever (product.Post tt)) (
    (2 ^ 16, (2 ^ 48, tt)) ↛ 0  -- product_drops_a_carry
    ∷ (3, (5, tt)) ↛ 0  -- product_low_word
    ∷ (3, (5, tt)) ↛ 64424509455  -- product_swaps_digits
    ∷ [])
product_not = by_equation (λ a. a.0 * a.1.0) (λ n. n) (λ a z e s. s) (tt, (tt, (tt, tt))) tt

-- of products at and past 2 ^ 128, and of comparisons of numbers past 64 bits
pub reaches_not : RuledOut (reaches.Pre tt) (ever (reaches.Post tt)) (
    (2, (3, (1, tt))) ↛ true  -- reaches_den_by_its_high_word
    ∷ (2, (3, (2 ^ 64, tt))) ↛ true  -- reaches_past_a_square
    ∷ (2 ^ 33, (0, (2 ^ 62, tt))) ↛ true  -- times_forgets_the_third_word
    ∷ (1, (0, (2 ^ 64, tt))) ↛ true  -- times_ignores_the_high_word
    ∷ (1, (2 ^ 128 - 1, (2 ^ 64 + last, tt))) ↛ false  -- times_misses_a_carry
    ∷ (1, (2 ^ 128 - 1, (last * 2 ^ 64, tt))) ↛ false  -- times_past_too_soon
    ∷ (2, (2 ^ 128 - 1, (2 ^ 126, tt))) ↛ true  -- fitted_at_2_128
    ∷ (1, (1, (2 ^ 64, tt))) ↛ true  -- at_most_by_the_low_word
    ∷ (1, (2 ^ 64 + 1, (2 ^ 64 + 1, tt))) ↛ false  -- at_most_is_less
    ∷ (1, (2 ^ 64, (1, tt))) ↛ false  -- at_most_turned
    ∷ (1, (2 ^ 63, (2 ^ 64, tt))) ↛ true  -- value_of_63_bits
    ∷ [])
reaches_not = by_equation (λ a. leb (a.0 * a.0 * a.1.1.0) a.1.0) bool (λ a z e s. s) (tt, (tt, (tt, (tt, (tt, (tt, (tt, (tt, (tt, (tt, (tt, tt))))))))))) tt

-- roots of 10, 17 and 0
pub root_not : RuledOut (root.Pre tt) (ever (root.Post tt)) (
    (10, (1, tt)) ↛ 2  -- root_one_less
    ∷ (10, (1, tt)) ↛ 4  -- root_one_more
    ∷ (0, (1, tt)) ↛ 1  -- root_too_large
    ∷ (17, (1, tt)) ↛ 3  -- root_too_small
    ∷ (10, (1, tt)) ↛ 0  -- root_turned
    ∷ [])
root_not = by_test (λ a n. is_root a.0 a.1.0 n) (λ a n s. root_passes s.1) (lit≤ tt, (lit≤ tt, (lit≤ tt, (lit≤ tt, (lit≤ tt, tt))))) tt

-- root_of_no_fraction: where den is 0, no number is the root
pub no_root_of_nothing : (num n : ℕ) → Root num 0 n → ⊥
no_root_of_nothing num n r = omega (arith, r.high)
