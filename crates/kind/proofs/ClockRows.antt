-- The kind table read row by row, for each outcome of the code's tests of a kind. Assumes nothing.
use mathlib.Core.Bool.{Bool, true, false, not, ◌&&◌, ◌||◌, beq, or-false}
use mathlib.Core.List.{List}
use mathlib.Core.Path.{◌≡◌, refl, sym}
use Prim.Native.Nat.{ℕ, ◌%◌, ◌≤◌, ◌<◌}
use native.Mathlib.Omega.{arith}
use lib.Dec.{T, ltb, eqb}
use mir.Syntax.{w8}
use mir.Val.{Fits}
use borrow.Author.Tests.{le-ltb}
use Rattle.lemmas.proofs.Table.{each_at, every, every_at}
use Rattle.paper.specs.declared.Board.{Board}
use Rattle.paper.specs.Bytes.{one_of}
use Rattle.paper.specs.Kind.{kinds, known, kind_of, stands_at}
use Rattle.paper.specs.Refusal.{kind_wrong}
use Rattle.follows.proofs.KindTable.{unknown, each_row}

-- ---- "Clock"
beq→ : (a b : Bool) → T (beq a b) → a ≡ b
beq→ true true t = refl
beq→ true false t = absurd t
beq→ false true t = absurd t
beq→ false false t = refl

-- a test of a byte that says which bytes are listed, by computing it at each
listed : (p : ℕ → Bool) (l : List ℕ) → T (every (λ c. beq (p c) (one_of c l)) 0 256) → (c : ℕ) → Fits w8 c → p c ≡ one_of c l
listed p l t c f = beq→ (p c) (one_of c l) (every_at (λ c. beq (p c) (one_of c l)) 256 c f.fits t)

module _ (k c : ℕ) (f : Fits w8 c) where
  pub clock_0 : k < 4 → eqb c 0 ≡ one_of c (kind_of k).clocks
  unfolding kind_of kinds one_of
  clock_0 h = each_at (λ k. eqb c 0 ≡ one_of c (kind_of k).clocks) 4 k h (e, (e, (e, (e, tt))))
    where
      e : eqb c 0 ≡ (eqb c 0 || false)
      e = sym (or-false (eqb c 0))

  pub clock_odd : k ≡ 4 → (ltb c 12 && eqb (c % 2) 1) ≡ one_of c (kind_of k).clocks
  unfolding kind_of kinds one_of
  clock_odd e = rw e (listed (λ c. ltb c 12 && eqb (c % 2) 1) (kind_of 4).clocks tt c f)

  pub clock_any : k ≡ 5 → ltb c 12 ≡ one_of c (kind_of k).clocks
  unfolding kind_of kinds one_of
  clock_any e = rw e (listed (λ c. ltb c 12) (kind_of 5).clocks tt c f)

  pub clock_none : 4 ≤ k → (k ≡ 4 → ⊥) → (k ≡ 5 → ⊥) → false ≡ one_of c (kind_of k).clocks
  unfolding kind_of kinds one_of
  clock_none h a b = rw (unknown k (omega arith))

-- ---- 9. An unknown kind has no clock, so whether it is known need not be asked
known_clock : (k c : ℕ) → (not (known k) || not (one_of c (kind_of k).clocks)) ≡ not (one_of c (kind_of k).clocks)
unfolding known kind_of kinds one_of
known_clock k c =
    each_row (λ k row. (not (known k) || not (one_of c row.clocks)) ≡ not (one_of c row.clocks)) (refl, (refl, (refl, (refl, (refl, (refl, tt))))))
    (λ k h. rw (le-ltb k 6 h)) k

beq_true : (b : Bool) → b ≡ beq true b
beq_true true = refl
beq_true false = refl

stands : (k r : ℕ) → stands_at (kind_of k).stands r ≡ beq (ltb k 2) (eqb r 1)
unfolding kind_of kinds stands_at
stands k r =
    let first = beq_true (eqb r 1) in
    each_row (λ k row. stands_at row.stands r ≡ beq (ltb k 2) (eqb r 1)) (first, (first, (refl, (refl, (refl, (refl, tt))))))
    (λ k h. rw (le-ltb k 2 (omega arith))) k

pub kind_wrong_lem : (r : ℕ) (b : Board) {clock : Bool} → clock ≡ one_of b.clock (kind_of b.kind).clocks
    → (not clock || not (beq (ltb b.kind 2) (eqb r 1))) ≡ kind_wrong r b
unfolding kind_wrong
kind_wrong_lem r b e = rw (e, known_clock b.kind b.clock, stands b.kind r)
