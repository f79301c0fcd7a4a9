use mathlib.Core.Path.{◌∙◌}
use mathlib.Core.List.{List}
use Prim.Native.Nat.{ℕ, ◌+◌, ◌*◌}
use lib.IntN.{ℤ}
use Rattle.lemmas.proofs.Solver.{E, var, ◌⊕◌, ◌⊖◌, ◌⊗◌}
use Rattle.lemmas.proofs.Words.{Known, fits, reads as read}
use Rattle.turn.specs.Number.{◌*N◌, ◌+N◌, ◌·N◌, times_t}
use Rattle.turn.proofs.Form.{mul_f, by_coordinates}
use Rattle.turn.proofs.Products.{Words, products}
use Rattle.std.proofs.Common.{rules}
use Rattle.turn.proofs.arithmetic.NumMul.mul.Goals as goal

-- The product. Each product of two coordinates is at most 2 ^ 60 from 0, and a coordinate of the result sums at most six:
-- one computed test says that every part fits. That the code's sums are the definition's is the solver's. Assumes nothing.
words_a : (c : goal.After-struct_told-8-1) → Words c.args.self
words_a c = record { s0 = search rules; s1 = search rules; s2 = search rules; s3 = search rules }

words_b : (c : goal.After-struct_told-8-1) → Words c.args.b
words_b c = record { s0 = search rules; s1 = search rules; s2 = search rules; s3 = search rules }

-- the sixteen products: a's coordinate i times b's coordinate j stands at 4 i + j
abbrev k : goal.After-struct_told-8-1 → List Known
k c = products c.requires (words_a c) (words_b c)

-- the code's sums, of any sixteen
abbrev Pairs : Type 0
Pairs = ℕ → ℕ → E ℤ

abbrev c4 : Pairs → E ℤ
c4 p = p 1 3 ⊕ p 2 2 ⊕ p 3 1

abbrev c5 : Pairs → E ℤ
c5 p = p 2 3 ⊕ p 3 2

abbrev r0 : Pairs → E ℤ
r0 p = p 0 0 ⊖ c4 p ⊖ p 3 3

abbrev r1 : Pairs → E ℤ
r1 p = p 0 1 ⊕ p 1 0 ⊖ c5 p

abbrev r2 : Pairs → E ℤ
r2 p = p 0 2 ⊕ p 1 1 ⊕ p 2 0 ⊕ c4 p

abbrev r3 : Pairs → E ℤ
r3 p = p 0 3 ⊕ p 1 2 ⊕ p 2 1 ⊕ p 3 0 ⊕ c5 p

-- of the words, and of the coordinates
abbrev p : Pairs
p i j = var (4 * i + j)

abbrev q : Pairs
q i j = var i ⊗ var (4 + j)

pub returns : goal.returns
unfolding ◌*N◌ ◌+N◌ ◌·N◌ times_t
returns c =
    let s = c.args in
    (λ i. record { x0 = read (k c) (r0 p) tt i; x1 = read (k c) (r1 p) tt i; x2 = read (k c) (r2 p) tt i; x3 = read (k c) (r3 p) tt i })
    ∙ by_coordinates 2 (λ a b. record { f0 = r0 q; f1 = r1 q; f2 = r2 q; f3 = r3 q }) mul_f tt s.self s.b

pub overflow_mul-c4 : goal.overflow_mul-c4
overflow_mul-c4 c = fits (k c) (p 1 3) tt

pub overflow_mul-c4-2 : goal.overflow_mul-c4-2
overflow_mul-c4-2 c = fits (k c) (p 2 2) tt

pub overflow_add-c4 : goal.overflow_add-c4
overflow_add-c4 c = fits (k c) (p 1 3 ⊕ p 2 2) tt

pub overflow_mul-c4-3 : goal.overflow_mul-c4-3
overflow_mul-c4-3 c = fits (k c) (p 3 1) tt

pub overflow_add-c4-2 : goal.overflow_add-c4-2
overflow_add-c4-2 c = fits (k c) (c4 p) tt

pub overflow_mul-c5 : goal.overflow_mul-c5
overflow_mul-c5 c = fits (k c) (p 2 3) tt

pub overflow_mul-c5-2 : goal.overflow_mul-c5-2
overflow_mul-c5-2 c = fits (k c) (p 3 2) tt

pub overflow_add-c5 : goal.overflow_add-c5
overflow_add-c5 c = fits (k c) (c5 p) tt

pub overflow_mul-c6 : goal.overflow_mul-c6
overflow_mul-c6 c = fits (k c) (p 3 3) tt

pub overflow_mul-result : goal.overflow_mul-result
overflow_mul-result c = fits (k c) (p 0 0) tt

pub overflow_sub-result : goal.overflow_sub-result
overflow_sub-result c = fits (k c) (p 0 0 ⊖ c4 p) tt

pub overflow_sub-result-2 : goal.overflow_sub-result-2
overflow_sub-result-2 c = fits (k c) (r0 p) tt

pub overflow_mul-result-2 : goal.overflow_mul-result-2
overflow_mul-result-2 c = fits (k c) (p 0 1) tt

pub overflow_mul-result-3 : goal.overflow_mul-result-3
overflow_mul-result-3 c = fits (k c) (p 1 0) tt

pub overflow_add-result : goal.overflow_add-result
overflow_add-result c = fits (k c) (p 0 1 ⊕ p 1 0) tt

pub overflow_sub-result-3 : goal.overflow_sub-result-3
overflow_sub-result-3 c = fits (k c) (r1 p) tt

pub overflow_mul-result-4 : goal.overflow_mul-result-4
overflow_mul-result-4 c = fits (k c) (p 0 2) tt

pub overflow_mul-result-5 : goal.overflow_mul-result-5
overflow_mul-result-5 c = fits (k c) (p 1 1) tt

pub overflow_add-result-2 : goal.overflow_add-result-2
overflow_add-result-2 c = fits (k c) (p 0 2 ⊕ p 1 1) tt

pub overflow_mul-result-6 : goal.overflow_mul-result-6
overflow_mul-result-6 c = fits (k c) (p 2 0) tt

pub overflow_add-result-3 : goal.overflow_add-result-3
overflow_add-result-3 c = fits (k c) (p 0 2 ⊕ p 1 1 ⊕ p 2 0) tt

pub overflow_add-result-4 : goal.overflow_add-result-4
overflow_add-result-4 c = fits (k c) (r2 p) tt

pub overflow_mul-result-7 : goal.overflow_mul-result-7
overflow_mul-result-7 c = fits (k c) (p 0 3) tt

pub overflow_mul-result-8 : goal.overflow_mul-result-8
overflow_mul-result-8 c = fits (k c) (p 1 2) tt

pub overflow_add-result-5 : goal.overflow_add-result-5
overflow_add-result-5 c = fits (k c) (p 0 3 ⊕ p 1 2) tt

pub overflow_mul-result-9 : goal.overflow_mul-result-9
overflow_mul-result-9 c = fits (k c) (p 2 1) tt

pub overflow_add-result-6 : goal.overflow_add-result-6
overflow_add-result-6 c = fits (k c) (p 0 3 ⊕ p 1 2 ⊕ p 2 1) tt

pub overflow_mul-result-10 : goal.overflow_mul-result-10
overflow_mul-result-10 c = fits (k c) (p 3 0) tt

pub overflow_add-result-7 : goal.overflow_add-result-7
overflow_add-result-7 c = fits (k c) (p 0 3 ⊕ p 1 2 ⊕ p 2 1 ⊕ p 3 0) tt

pub overflow_add-result-8 : goal.overflow_add-result-8
overflow_add-result-8 c = fits (k c) (r3 p) tt
