-- The numbers R + jX: their two other coordinates are 0. Sums, opposites, products and conjugates of such are such. Assumes nothing.
use mathlib.Core.Path.{◌≡◌, refl, ◌∙◌, ap, ap₂}
use lib.IntN.{ℤ, pos, neg_ℤ, ◌+ℤ◌}
use Rattle.turn.specs.declared.Num.{Num}
use Rattle.turn.specs.Number.{whole_n, complex_n, ◌+N◌, neg_n, ◌*N◌, conj_n, square_n}
use Rattle.turn.proofs.Conj.{complex_mul, complex_conj, complex_square}
use Rattle.paper.specs.declared.Ohms.{Ohms}
use Rattle.paper.specs.Fault.{num_of}
use Rattle.paper.specs.Bounds.{Flat}

-- it is the form R + jX, with R and X the two coordinates left
pub flat_is : {n : Num} → Flat n → n ≡ complex_n n.x0 n.x3
flat_is {n} f = λ i. record { x0 = n.x0; x1 = f.no_t i; x2 = f.no_t² i; x3 = n.x3 }

pub flat_of : {n : Num} (r x : ℤ) → n ≡ complex_n r x → Flat n
flat_of r x e = record { no_t = ap (λ (m : Num). m.x1) e; no_t² = ap (λ (m : Num). m.x2) e }

pub flat_complex : (r x : ℤ) → Flat (complex_n r x)
flat_complex r x = flat_of r x refl

pub flat_num : (z : Ohms) → Flat (num_of z)
unfolding num_of
flat_num z = flat_complex (pos z.r) (pos z.x)

pub flat_add : {a b : Num} → Flat a → Flat b → Flat (a +N b)
unfolding ◌+N◌
flat_add f g = record { no_t = ap₂ ◌+ℤ◌ f.no_t g.no_t; no_t² = ap₂ ◌+ℤ◌ f.no_t² g.no_t² }

pub flat_neg : {a : Num} → Flat a → Flat (neg_n a)
unfolding neg_n
flat_neg f = record { no_t = ap neg_ℤ f.no_t; no_t² = ap neg_ℤ f.no_t² }

pub flat_mul : {a b : Num} → Flat a → Flat b → Flat (a *N b)
flat_mul {a} {b} f g = flat_of _ _ (ap₂ ◌*N◌ (flat_is f) (flat_is g) ∙ complex_mul a.x0 a.x3 b.x0 b.x3)

pub flat_conj : {a : Num} → Flat a → Flat (conj_n a)
flat_conj {a} f = flat_of _ _ (ap conj_n (flat_is f) ∙ complex_conj a.x0 a.x3)

-- times its conjugate it is the whole number R² + X²
pub flat_square : {a : Num} → Flat a → a *N conj_n a ≡ whole_n (square_n a)
unfolding square_n
flat_square {a} f = ap (λ (n : Num). n *N conj_n n) (flat_is f) ∙ complex_square a.x0 a.x3
