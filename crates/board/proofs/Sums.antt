-- What the phases show, as sums over 1, a and a² of sequences that only quarters have turned. Assumes nothing.
use mathlib.Core.Path.{◌≡◌, sym, ap, ap₂, ◌∙◌}
use mathlib.Core.List.{List, [], ◌∷◌}
use Prim.Native.Nat.{ℕ, ◌+◌, ◌*◌, ◌/◌, ◌%◌, ◌≤◌}
use native.Mathlib.Omega.{arith}
use lib.IntN.{ℤ}
use lib.ListN.{length}
use Rattle.lemmas.proofs.Solver.{E, con, ◌⊕◌, ◌⊗◌}
use Rattle.lemmas.proofs.Solve.{solve}
use Rattle.turn.specs.declared.Num.{Num}
use Rattle.turn.specs.Number.{◌+N◌, power_n, times_t, turn_n}
use Rattle.turn.proofs.TRing.{Tring}
use Rattle.turn.proofs.Powers.{turn_zero, turn_add, turn_same}
use Rattle.paper.specs.declared.Seq.{Seq}
use Rattle.paper.specs.Phase.{four, shows, phase, phases}
use Rattle.paper.specs.Answer.{flat}
use Rattle.board.specs.Put.{shown_at, sum_of, laid}
use Rattle.board.proofs.Rows.{all_shown}

-- ---- what the code adds up for each p and i: c0 + a c1 + a² c2, and both sides as the solver has them
abbrev over_thirds : Num → Num → Num → Num
over_thirds c0 c1 c2 = c0 +N (turn_n 4 c1 +N turn_n 8 c2)

abbrev thirds_e : E Num → E Num → E Num → E Num
thirds_e c0 c1 c2 = c0 ⊕ (con (power_n 4) ⊗ c1 ⊕ con (power_n 8) ⊗ c2)

abbrev sum_e : ℕ → ℕ → E Num → E Num → E Num → E Num
sum_e p i u v w = con (power_n (8 * p)) ⊗ (u ⊕ con (power_n (8 * i)) ⊗ v ⊕ con (power_n (4 * i)) ⊗ w)

pub odd_0 : (u v w : Num) → u +N (v +N w) ≡ sum_of 0 u v w 0
unfolding power_n times_t
odd_0 = solve Tring 3 (λ u v w. u ⊕ (v ⊕ w)) (sum_e 0 0) tt

pub next_0 : (u v w : Num) → over_thirds u w v ≡ sum_of 0 u v w 1
unfolding power_n times_t
next_0 = solve Tring 3 (λ u v w. thirds_e u w v) (sum_e 0 1) tt

pub last_0 : (u v w : Num) → over_thirds u v w ≡ sum_of 0 u v w 2
unfolding power_n times_t
last_0 = solve Tring 3 (λ u v w. thirds_e u v w) (sum_e 0 2) tt

pub odd_1 : (u v w : Num) → turn_n 8 (u +N (v +N w)) ≡ sum_of 1 u v w 0
unfolding power_n times_t
odd_1 = solve Tring 3 (λ u v w. con (power_n 8) ⊗ (u ⊕ (v ⊕ w))) (sum_e 1 0) tt

pub next_1 : (u v w : Num) → over_thirds w v u ≡ sum_of 1 u v w 1
unfolding power_n times_t
next_1 = solve Tring 3 (λ u v w. thirds_e w v u) (sum_e 1 1) tt

pub last_1 : (u v w : Num) → over_thirds v w u ≡ sum_of 1 u v w 2
unfolding power_n times_t
last_1 = solve Tring 3 (λ u v w. thirds_e v w u) (sum_e 1 2) tt

pub odd_2 : (u v w : Num) → turn_n 4 (u +N (v +N w)) ≡ sum_of 2 u v w 0
unfolding power_n times_t
odd_2 = solve Tring 3 (λ u v w. con (power_n 4) ⊗ (u ⊕ (v ⊕ w))) (sum_e 2 0) tt

pub next_2 : (u v w : Num) → over_thirds v u w ≡ sum_of 2 u v w 1
unfolding power_n times_t
next_2 = solve Tring 3 (λ u v w. thirds_e v u w) (sum_e 2 1) tt

pub last_2 : (u v w : Num) → over_thirds w u v ≡ sum_of 2 u v w 2
unfolding power_n times_t
last_2 = solve Tring 3 (λ u v w. thirds_e w u v) (sum_e 2 2) tt

-- three phases put one after the other are laid, where p is known to be q
module _ (p q : ℕ) (e : p ≡ q) (f : ℕ) (h : f ≤ 2) (u v w : Num) (xs : List ℤ) where
  pub puts : {g k : ℕ} {a b c : Num} {l m n : List ℤ} → g ≡ (f + 1) % 3 → k ≡ (g + 1) % 3 → l ≡ shown_at f a xs → m ≡ shown_at g b l → n ≡ shown_at k c m
      → a ≡ sum_of q u v w 0 → b ≡ sum_of q u v w 1 → c ≡ sum_of q u v w 2 → n ≡ laid f (sum_of p u v w) xs
  unfolding laid
  puts {g} {k} {a} {b} {c} eg ek ea eb ec a0 b1 c2 =
      let f0 : f ≡ (f + 0) % 3 = omega arith in
      let f2 : k ≡ (f + 2) % 3 = omega arith in
      ec
      ∙ ap (shown_at k c) (eb ∙ ap (shown_at g b) ea)
      ∙ (λ i. shown_at (f2 i) (c2 i) (shown_at (eg i) (b1 i) (shown_at (f0 i) (a0 i) xs)))
      ∙ ap (λ (m : ℕ). laid f (sum_of m u v w) xs) (sym e)

-- ---- a turn is quarters back and thirds forward: thirds in d only say which phase shows what
-- which phase on from the odd one that is
past : (p i n : ℕ) → (((p + n) % 3 + i) % 3 + 2 * p) % 3 ≡ (n + i) % 3
past p i n = omega arith

rounds : (q n : ℕ) → (12 * q + n) % 12 ≡ n % 12
rounds q n = omega arith

-- where n + i is k past whole threes, i thirds forward and n quarters back are k thirds and n turns
thirds_back : (q k i n : ℕ) → n + i ≡ 3 * q + k → (8 * i + 9 * n) % 12 ≡ (8 * k + n) % 12
thirds_back q k i n e = let h : 8 * i + 9 * n ≡ 12 * (2 * q) + (8 * k + n) = omega (arith, e) in ap (λ (m : ℕ). m % 12) h ∙ rounds (2 * q) (8 * k + n)

thirds_forth : (q k i sj sk : ℕ) → 11 * sj + sk + i ≡ 3 * q + k → (4 * i + 9 * (sj + 11 * sk)) % 12 ≡ (4 * k + (sj + 11 * sk)) % 12
thirds_forth q k i sj sk e =
    let h : 12 * (3 * sj) + (4 * i + 9 * (sj + 11 * sk)) ≡ 12 * (q + 7 * sk) + (4 * k + (sj + 11 * sk)) = omega (arith, e) in
    sym (rounds (3 * sj) (4 * i + 9 * (sj + 11 * sk))) ∙ ap (λ (m : ℕ). m % 12) h ∙ rounds (q + 7 * sk) (4 * k + (sj + 11 * sk))

module _ (p sj sk : ℕ) (X : Seq) where
  abbrev back : ℕ
  back = 11 * sj + sk

  abbrev forth : ℕ
  forth = sj + 11 * sk

  abbrev from : ℕ
  from = (p + back) % 3

  named : (i : ℕ) → sum_of p X.s0 (turn_n (9 * back) X.s1) (turn_n (9 * forth) X.s2) i ≡ phase p sj sk X ((from + i) % 3)
  unfolding phase shows
  named i =
      let k : ℕ = ((from + i) % 3 + 2 * p) % 3 in
      let q : ℕ = (back + i) / 3 in
      let k_is : k ≡ (back + i) % 3 = past p i back in
      let e : back + i ≡ 3 * q + k = omega (arith, k_is) in
      let a : 8 * k + back ≡ 8 * k + 11 * sj + sk = omega arith in
      let b : 4 * k + forth ≡ 4 * k + sj + 11 * sk = omega arith in
      ap₂ (λ (v w : Num). turn_n (8 * p) (X.s0 +N v +N w)) (sym (turn_add (8 * i) (9 * back) X.s1) ∙ turn_same (8 * i + 9 * back) (8 * k + 11 * sj + sk) X.s1 (thirds_back q k i back e ∙ ap (λ (n : ℕ). n % 12) a))
      (sym (turn_add (4 * i) (9 * forth) X.s2) ∙ turn_same (4 * i + 9 * forth) (4 * k + sj + 11 * sk) X.s2 (thirds_forth q k i sj sk e ∙ ap (λ (n : ℕ). n % 12) b))

  pub laid_shows : {f : ℕ} {u v w : Num} (xs : List ℤ) → length xs ≡ 12 → f ≡ from → u ≡ turn_n (9 * 0) X.s0 → v ≡ turn_n (9 * back) X.s1 → w ≡ turn_n (9 * forth) X.s2
      → laid f (sum_of p u v w) xs ≡ flat (phases p sj sk X)
  unfolding phases
  laid_shows xs e ef eu ev ew =
      (λ j. laid (ef j) (sum_of p ((eu ∙ turn_zero X.s0) j) (ev j) (ew j)) xs) ∙ (λ j. laid from (λ i. named i j) xs) ∙ all_shown (phase p sj sk X) from xs (omega arith) e

-- ---- at the faulted board itself nothing is turned: s turns forward and s back
module _ (p s : ℕ) (X : Seq) where
  still : (i : ℕ) → shows p s s X i ≡ shows p 0 0 X i
  unfolding shows
  still i =
      let e : (8 * i + 11 * s + s) % 12 ≡ (8 * i + 11 * 0 + 0) % 12 = omega arith in
      let d : (4 * i + s + 11 * s) % 12 ≡ (4 * i + 0 + 11 * 0) % 12 = omega arith in
      ap₂ (λ (v w : Num). turn_n (8 * p) (X.s0 +N v +N w)) (turn_same (8 * i + 11 * s + s) (8 * i + 11 * 0 + 0) X.s1 e) (turn_same (4 * i + s + 11 * s) (4 * i + 0 + 11 * 0) X.s2 d)

  pub same_turn : phases p s s X ≡ phases p 0 0 X
  unfolding phases phase
  same_turn = λ j. four (still ((0 + 2 * p) % 3) j) ∷ four (still ((1 + 2 * p) % 3) j) ∷ four (still ((2 + 2 * p) % 3) j) ∷ []
