-- A commutative ring over an explicit carrier (`CRing κ`), with a map `lit` of coefficients into it that respects the operations.
-- The coefficients `κ` are a type that computes, with a test for zero: `Solver` keeps a term's coefficient there, and a constant
-- of an expression is `lit z`, so that a large constant costs nothing. The carrier need be no set.
-- ℤ is such a ring, with itself for the coefficients. Assumes nothing.
use mathlib.Core.Path.{◌≡◌, refl, sym, ◌∙◌, ap, ap₂}
use mathlib.Core.Bool.{Bool, false}
use lib.Dec.{T, eqb, eqb→eq}
use lib.IntN.{ℤ, pos, negsuc, neg_ℤ, ◌+ℤ◌, ◌*ℤ◌, +ℤ_assoc, +ℤ_comm, +ℤ_idl, +ℤ_invr, *ℤ_comm}
use Rattle.lemmas.proofs.Integers.{*ℤ-assoc, *ℤ-distribr, one-*ℤ}

-- what coefficients compute with: no law is asked of it
pub record Coef : Type 1 where
  pub K : Type 0
  pub kone : K
  pub kadd : K → K → K
  pub kmul : K → K → K
  pub kneg : K → K
  pub kzero : K → Bool

pub record CRing (κ : Coef) : Type 1 where
  pub C : Type 0
  pub zer : C
  pub uni : C
  pub add : C → C → C
  pub mul : C → C → C
  pub neg : C → C
  pub lit : κ.K → C
  pub add_assoc : (a b c : C) → add (add a b) c ≡ add a (add b c)
  pub add_comm : (a b : C) → add a b ≡ add b a
  pub add_zer : (a : C) → add zer a ≡ a
  pub add_neg : (a : C) → add a (neg a) ≡ zer
  pub mul_assoc : (a b c : C) → mul (mul a b) c ≡ mul a (mul b c)
  pub mul_comm : (a b : C) → mul a b ≡ mul b a
  pub mul_uni : (a : C) → mul uni a ≡ a
  pub distr : (a b c : C) → mul (add a b) c ≡ add (mul a c) (mul b c)
  pub lit_zer : (x : κ.K) → T (κ.kzero x) → lit x ≡ zer
  pub lit_uni : lit κ.kone ≡ uni
  pub lit_add : (x y : κ.K) → lit (κ.kadd x y) ≡ add (lit x) (lit y)
  pub lit_mul : (x y : κ.K) → lit (κ.kmul x y) ≡ mul (lit x) (lit y)
  pub lit_neg : (x : κ.K) → lit (κ.kneg x) ≡ neg (lit x)

-- ---- ℤ
abbrev pub is_zero : ℤ → Bool
is_zero (pos n) = eqb n 0
is_zero (negsuc n) = false

pub is_zero→ : (c : ℤ) → T (is_zero c) → c ≡ pos 0
is_zero→ (pos n) t = ap pos (eqb→eq n 0 t)
is_zero→ (negsuc n) t = absurd t

abbrev pub ℤcoef : Coef
ℤcoef = record { K = ℤ; kone = pos 1; kadd = ◌+ℤ◌; kmul = ◌*ℤ◌; kneg = neg_ℤ; kzero = is_zero }

abbrev pub ℤring : CRing ℤcoef
ℤring = record {
  C = ℤ;
  zer = pos 0;
  uni = pos 1;
  add = ◌+ℤ◌;
  mul = ◌*ℤ◌;
  neg = neg_ℤ;
  lit = λ z. z;
  add_assoc = +ℤ_assoc;
  add_comm = +ℤ_comm;
  add_zer = +ℤ_idl;
  add_neg = +ℤ_invr;
  mul_assoc = *ℤ-assoc;
  mul_comm = *ℤ_comm;
  mul_uni = one-*ℤ;
  distr = *ℤ-distribr;
  lit_zer = is_zero→;
  lit_uni = refl;
  lit_add = λ x y. refl;
  lit_mul = λ x y. refl;
  lit_neg = λ x. refl;
}

-- ---- the laws that follow
module _ {κ : Coef} (R : CRing κ) where
  open R use {C, zer, uni, add, mul, neg, lit, add_assoc, add_comm, add_zer, add_neg, mul_assoc, mul_comm, mul_uni, distr, lit_zer, lit_uni, lit_add, lit_mul, lit_neg}

  pub zer_add : (a : C) → add a zer ≡ a
  zer_add a = add_comm a zer ∙ add_zer a

  pub add_left_comm : (a b c : C) → add a (add b c) ≡ add b (add a c)
  add_left_comm a b c = sym (add_assoc a b c) ∙ ap (λ t. add t c) (add_comm a b) ∙ add_assoc b a c

  pub add_swap : (a b c d : C) → add (add a b) (add c d) ≡ add (add a c) (add b d)
  add_swap a b c d = add_assoc a b (add c d) ∙ ap (λ t. add a t) (add_left_comm b c d) ∙ sym (add_assoc a c (add b d))

  pub mul_left_comm : (a b c : C) → mul a (mul b c) ≡ mul b (mul a c)
  mul_left_comm a b c = sym (mul_assoc a b c) ∙ ap (λ t. mul t c) (mul_comm a b) ∙ mul_assoc b a c

  pub mul_swap : (a b c d : C) → mul (mul a b) (mul c d) ≡ mul (mul a c) (mul b d)
  mul_swap a b c d = mul_assoc a b (mul c d) ∙ ap (λ t. mul a t) (mul_left_comm b c d) ∙ sym (mul_assoc a c (mul b d))

  pub uni_mul : (a : C) → mul a uni ≡ a
  uni_mul a = mul_comm a uni ∙ mul_uni a

  pub distl : (a b c : C) → mul a (add b c) ≡ add (mul a b) (mul a c)
  distl a b c = mul_comm a (add b c) ∙ distr b c a ∙ ap₂ add (mul_comm b a) (mul_comm c a)

  -- x + y = x gives y = 0
  pub add_cancel : (x y : C) → add x y ≡ x → y ≡ zer
  add_cancel x y h = sym (add_zer y) ∙ ap (λ t. add t y) (sym (add_neg x) ∙ add_comm x (neg x)) ∙ add_assoc (neg x) x y ∙ ap (λ t. add (neg x) t) h ∙ add_comm (neg x) x ∙ add_neg x

  pub zer_mul : (a : C) → mul zer a ≡ zer
  zer_mul a = add_cancel (mul zer a) (mul zer a) (sym (distr zer zer a) ∙ ap (λ t. mul t a) (add_zer zer))

  pub mul_zer : (a : C) → mul a zer ≡ zer
  mul_zer a = mul_comm a zer ∙ zer_mul a

  -- x + y = 0 gives y = -x
  pub neg_unique : (x y : C) → add x y ≡ zer → y ≡ neg x
  neg_unique x y h = sym (add_zer y) ∙ ap (λ t. add t y) (sym (add_neg x) ∙ add_comm x (neg x)) ∙ add_assoc (neg x) x y ∙ ap (λ t. add (neg x) t) h ∙ zer_add (neg x)

  pub neg_zer : neg zer ≡ zer
  neg_zer = sym (neg_unique zer zer (add_zer zer))

  pub neg_add : (a b : C) → neg (add a b) ≡ add (neg a) (neg b)
  neg_add a b = sym (neg_unique (add a b) (add (neg a) (neg b)) (add_swap a b (neg a) (neg b) ∙ ap₂ add (add_neg a) (add_neg b) ∙ add_zer zer))

  pub neg_mul : (a b : C) → mul (neg a) b ≡ neg (mul a b)
  neg_mul a b = neg_unique (mul a b) (mul (neg a) b) (sym (distr a (neg a) b) ∙ ap (λ t. mul t b) (add_neg a) ∙ zer_mul b)

  -- x - y = 0 gives x = y
  pub sub_zer : (x y : C) → add x (neg y) ≡ zer → x ≡ y
  sub_zer x y h = sym (zer_add x) ∙ ap (λ t. add x t) (sym (add_neg y) ∙ add_comm y (neg y)) ∙ sym (add_assoc x (neg y) y) ∙ ap (λ t. add t y) h ∙ add_zer y
