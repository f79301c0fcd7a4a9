-- Equations between numbers, coordinate by coordinate: a form is a number whose coordinates are the solver's expressions. Its operations are those of
-- specs/Number.antt, and what `by_coordinates` gives is compared with them by the checker.
--   by_coordinates 2 (λ a b. mul_f a b) (λ a b. mul_f b a) tt x y : x *N y ≡ y *N x
-- Assumes nothing.
use mathlib.Core.Path.{◌≡◌}
use mathlib.Core.Bool.{Bool, ◌&&◌}
use mathlib.Core.List.{List, [], ◌∷◌, ◌++◌}
use Prim.Native.Nat.{ℕ, zero, suc}
use lib.Dec.{T}
use lib.IntN.{ℤ, pos}
use Rattle.lemmas.proofs.Bools.{both_t}
use Rattle.lemmas.proofs.Ring.{ℤcoef, ℤring}
use Rattle.lemmas.proofs.Solver.{E, var, con, ◌⊕◌, ◌⊗◌, ⊝◌, eval, same, ring}
use Rattle.lemmas.proofs.Solve.{Fun}
use Rattle.turn.specs.declared.Num.{Num}

pub record Form : Type 0 where
  pub f0 : E ℤ
  pub f1 : E ℤ
  pub f2 : E ℤ
  pub f3 : E ℤ

abbrev pub add_f : Form → Form → Form
add_f a b = record { f0 = a.f0 ⊕ b.f0; f1 = a.f1 ⊕ b.f1; f2 = a.f2 ⊕ b.f2; f3 = a.f3 ⊕ b.f3 }

abbrev pub neg_f : Form → Form
neg_f a = record { f0 = ⊝ a.f0; f1 = ⊝ a.f1; f2 = ⊝ a.f2; f3 = ⊝ a.f3 }

abbrev pub scale_f : E ℤ → Form → Form
scale_f n a = record { f0 = n ⊗ a.f0; f1 = n ⊗ a.f1; f2 = n ⊗ a.f2; f3 = n ⊗ a.f3 }

abbrev pub times_t_f : Form → Form
times_t_f a = record { f0 = ⊝ a.f3; f1 = a.f0; f2 = a.f1 ⊕ a.f3; f3 = a.f2 }

-- p t⁰ .. s, a sum of multiples
abbrev pub sum_f : Form → Form → Form → Form → Form → Form
sum_f a p q r s = add_f (add_f (add_f (scale_f a.f0 p) (scale_f a.f1 q)) (scale_f a.f2 r)) (scale_f a.f3 s)

abbrev pub mul_f : Form → Form → Form
mul_f a b = sum_f a b (times_t_f b) (times_t_f (times_t_f b)) (times_t_f (times_t_f (times_t_f b)))

-- a known number, a whole number, R + jX
abbrev pub con_f : Num → Form
con_f n = record { f0 = con n.x0; f1 = con n.x1; f2 = con n.x2; f3 = con n.x3 }

abbrev pub complex_f : E ℤ → E ℤ → Form
complex_f r x = record { f0 = r; f1 = con (pos 0); f2 = con (pos 0); f3 = x }

abbrev pub whole_f : E ℤ → Form
whole_f r = complex_f r (con (pos 0))

-- ---- the solver at each coordinate
-- four tests
pub four : (a b c d : Bool) → T (a && (b && (c && d))) → T a × T b × T c × T d
four a b c d t =
    let h = both_t a (b && (c && d)) t in
    let g = both_t b (c && d) h.1 in
    let e = both_t c d g.1 in
    (h.0, g.0, e.0, e.1)

abbrev pub same_f : Form → Form → Bool
same_f p q = same ℤcoef p.f0 q.f0 && (same ℤcoef p.f1 q.f1 && (same ℤcoef p.f2 q.f2 && same ℤcoef p.f3 q.f3))

abbrev pub ev_f : List ℤ → Form → Num
ev_f ρ p = record { x0 = eval ℤring ρ p.f0; x1 = eval ℤring ρ p.f1; x2 = eval ℤring ρ p.f2; x3 = eval ℤring ρ p.f3 }

-- two numbers with the same coordinates
pub alike : {a b : Num} → a.x0 ≡ b.x0 → a.x1 ≡ b.x1 → a.x2 ≡ b.x2 → a.x3 ≡ b.x3 → a ≡ b
alike p q r s = λ i. record { x0 = p i; x1 = q i; x2 = r i; x3 = s i }

pub ring_f : (ρ : List ℤ) (p q : Form) → T (same_f p q) → ev_f ρ p ≡ ev_f ρ q
ring_f ρ p q t =
    let s = four (same ℤcoef p.f0 q.f0) (same ℤcoef p.f1 q.f1) (same ℤcoef p.f2 q.f2) (same ℤcoef p.f3 q.f3) t in
    alike (ring ℤring ρ p.f0 q.f0 s.0) (ring ℤring ρ p.f1 q.f1 s.1) (ring ℤring ρ p.f2 q.f2 s.2) (ring ℤring ρ p.f3 q.f3 s.3)

-- ---- numbers by name
abbrev pub at_forms : {B : Type 0} (n i : ℕ) → Fun n Form B → B
at_forms zero i f = f
at_forms (suc n) i f = at_forms n (suc (suc (suc (suc i)))) (f (record { f0 = var i; f1 = var (suc i); f2 = var (suc (suc i)); f3 = var (suc (suc (suc i))) }))

abbrev pub AllN : ℕ → List ℤ → (List ℤ → Type 0) → Type 0
AllN zero ρ P = P ρ
AllN (suc n) ρ P = (x : Num) → AllN n (ρ ++ (x.x0 ∷ x.x1 ∷ x.x2 ∷ x.x3 ∷ [])) P

all : (n : ℕ) (ρ : List ℤ) (P : List ℤ → Type 0) → ((σ : List ℤ) → P σ) → AllN n ρ P
all zero ρ P h = h ρ
all (suc n) ρ P h = λ x. all n (ρ ++ (x.x0 ∷ x.x1 ∷ x.x2 ∷ x.x3 ∷ [])) P h

pub by_coordinates : (n : ℕ) (f g : Fun n Form Form) → T (same_f (at_forms n 0 f) (at_forms n 0 g)) → AllN n [] (λ ρ. ev_f ρ (at_forms n 0 f) ≡ ev_f ρ (at_forms n 0 g))
by_coordinates n f g t = all n [] (λ ρ. ev_f ρ (at_forms n 0 f) ≡ ev_f ρ (at_forms n 0 g)) (λ ρ. ring_f ρ (at_forms n 0 f) (at_forms n 0 g) t)
