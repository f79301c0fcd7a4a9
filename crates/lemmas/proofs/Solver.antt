-- A solver for equations between polynomials over a commutative ring (`CRing`), by reflection.
-- An expression `E` is brought to a sorted list of terms by computation, and two expressions with one list have one value.
-- A term has a key (the exponents, eight bits for each variable, as one native number), a coefficient and its variables in order.
-- The keys only sort: where two keys are equal the variables are compared too, so no proof speaks of a key. Assumes nothing.
use mathlib.Core.Path.{◌≡◌, refl, sym, ◌∙◌, ap, ap₂}
use mathlib.Core.List.{List, [], ◌∷◌}
use mathlib.Core.Bool.{Bool, true, false}
use Prim.Native.Nat.{ℕ, zero, suc, ◌+◌, ◌*◌, ◌^◌, compare, Ordering}
use lib.Dec.{T, leb, eqb, eqb→eq}
use Rattle.lemmas.proofs.Ring.{Coef, CRing, zer_add, add_left_comm, add_swap, mul_left_comm, mul_swap, uni_mul, distl, zer_mul, mul_zer, neg_zer, neg_add, neg_mul, sub_zer}

-- ---- expressions
infixl 6 ◌⊕◌ ◌⊖◌
infixl 7 ◌⊗◌
infix 8 ⊝◌
pub data E (K : Type 0) : Type 0 where
  var : ℕ → E K
  con : K → E K
  ◌⊕◌ : E K → E K → E K
  ◌⊗◌ : E K → E K → E K
  ◌⊖◌ : E K → E K → E K
  ⊝◌ : E K → E K

-- a term: its key, its coefficient, its variables
pub data Term (K : Type 0) : Type 0 where
  tm : ℕ → K → List ℕ → Term K

-- an equation to use, and how many times: q times (x - y)
pub data Eqn (K : Type 0) : Type 0 where
  eqn : E K → E K → E K → Eqn K

-- ---- products of variables
abbrev pub ins_v : ℕ → List ℕ → List ℕ
ins_v v [] = v ∷ []
ins_v v (w ∷ m) = elim (leb v w) as (λ _. List ℕ) [ true ↦ v ∷ (w ∷ m) | false ↦ w ∷ ins_v v m ]

abbrev pub mul_m : List ℕ → List ℕ → List ℕ
mul_m [] n = n
mul_m (v ∷ m) n = ins_v v (mul_m m n)

abbrev pub eq_l : List ℕ → List ℕ → Bool
eq_l [] [] = true
eq_l [] (w ∷ n) = false
eq_l (v ∷ m) [] = false
eq_l (v ∷ m) (w ∷ n) = elim (eqb v w) as (λ _. Bool) [ true ↦ eq_l m n | false ↦ false ]

-- ---- polynomials: terms with rising keys
module _ (κ : Coef) where
  open κ use {K, kone, kadd, kmul, kneg, kzero}

  -- a term in front, unless its coefficient is zero
  abbrev pub cons : ℕ → K → List ℕ → List (Term K) → List (Term K)
  cons k c m p = elim (kzero c) as (λ _. List (Term K)) [ true ↦ p | false ↦ tm k c m ∷ p ]

  -- the term k c m and what f adds, merged with a list
  abbrev pub into : ℕ → K → List ℕ → (List (Term K) → List (Term K)) → List (Term K) → List (Term K)
  into k c m f [] = tm k c m ∷ f []
  into k c m f (tm k' d n ∷ q) = elim (compare k k') as (λ _. List (Term K)) [
    | Ordering.lt ↦ tm k c m ∷ f (tm k' d n ∷ q)
    | Ordering.eq ↦ elim (eq_l m n) as (λ _. List (Term K)) [ true ↦ cons k (kadd c d) m (f q) | false ↦ tm k c m ∷ (tm k' d n ∷ f q) ]
    | Ordering.gt ↦ tm k' d n ∷ into k c m f q
  ]

  abbrev pub add_p : List (Term K) → List (Term K) → List (Term K)
  add_p [] q = q
  add_p (tm k c m ∷ p) q = into k c m (add_p p) q

  abbrev pub scale : ℕ → K → List ℕ → List (Term K) → List (Term K)
  scale k c m [] = []
  scale k c m (tm k' d n ∷ q) = tm (k + k') (kmul c d) (mul_m m n) ∷ scale k c m q

  abbrev pub mul_p : List (Term K) → List (Term K) → List (Term K)
  mul_p [] q = []
  mul_p (tm k c m ∷ p) q = add_p (scale k c m q) (mul_p p q)

  abbrev pub neg_p : List (Term K) → List (Term K)
  neg_p [] = []
  neg_p (tm k c m ∷ p) = tm k (kneg c) m ∷ neg_p p

  abbrev pub norm : E K → List (Term K)
  norm (var i) = tm (2 ^ (8 * i)) kone (i ∷ []) ∷ []
  norm (con z) = cons 0 z [] []
  norm (a ⊕ b) = add_p (norm a) (norm b)
  norm (a ⊗ b) = mul_p (norm a) (norm b)
  norm (a ⊖ b) = add_p (norm a) (neg_p (norm b))
  norm (⊝ a) = neg_p (norm a)

  abbrev pub nil : List (Term K) → Bool
  nil [] = true
  nil (t ∷ p) = false

  -- the difference of two expressions is zero
  abbrev pub same : E K → E K → Bool
  same a b = nil (norm (a ⊖ b))

  abbrev pub less : List (Eqn K) → E K → E K
  less [] e = e
  less (eqn q x y ∷ hs) e = less hs (e ⊖ q ⊗ (x ⊖ y))

  -- it is a sum of multiples of differences that are zero
  abbrev pub same_by : List (Eqn K) → E K → E K → Bool
  same_by hs a b = nil (norm (less hs (a ⊖ b)))

-- ---- what the tests say
eq_l→ : (m n : List ℕ) → T (eq_l m n) → m ≡ n
eq_l→ [] [] t = refl
eq_l→ [] (w ∷ n) t = absurd t
eq_l→ (v ∷ m) [] t = absurd t
eq_l→ (v ∷ m) (w ∷ n) t = go (eqb v w) (eqb→eq v w) (eq_l→ m n) t
  where
    go : (b : Bool) → (T b → v ≡ w) → (T (eq_l m n) → m ≡ n) → T (elim b as (λ _. Bool) [ true ↦ eq_l m n | false ↦ false ]) → v ∷ m ≡ w ∷ n
    go true h r t = ap₂ ◌∷◌ (h tt) (r t)
    go false h r t = absurd t

-- ---- the value of an expression, at values of the variables
module _ {κ : Coef} (R : CRing κ) where
  abbrev pub at : List R.C → ℕ → R.C
  at [] i = R.zer
  at (x ∷ xs) zero = x
  at (x ∷ xs) (suc i) = at xs i

module _ {κ : Coef} (R : CRing κ) (ρ : List R.C) where
  open κ use {K, kone, kadd, kmul, kneg, kzero}
  open R use {C, zer, uni, add, mul, neg, lit, add_assoc, add_comm, add_zer, add_neg, mul_assoc, mul_comm, mul_uni, distr, lit_zer, lit_uni, lit_add, lit_mul, lit_neg}

  abbrev pub eval : E K → C
  eval (var i) = at R ρ i
  eval (con z) = lit z
  eval (a ⊕ b) = add (eval a) (eval b)
  eval (a ⊗ b) = mul (eval a) (eval b)
  eval (a ⊖ b) = add (eval a) (neg (eval b))
  eval (⊝ a) = neg (eval a)

  abbrev ev_m : List ℕ → C
  ev_m [] = uni
  ev_m (v ∷ m) = mul (at R ρ v) (ev_m m)

  abbrev ev_p : List (Term K) → C
  ev_p [] = zer
  ev_p (tm k c m ∷ p) = add (mul (lit c) (ev_m m)) (ev_p p)

  ins_v_ev : (v : ℕ) (m : List ℕ) → ev_m (ins_v v m) ≡ mul (at R ρ v) (ev_m m)
  ins_v_ev v [] = refl
  ins_v_ev v (w ∷ m) = go (leb v w) (ins_v_ev v m)
    where
      go : (b : Bool) → ev_m (ins_v v m) ≡ mul (at R ρ v) (ev_m m) → ev_m (elim b as (λ _. List ℕ) [ true ↦ v ∷ (w ∷ m) | false ↦ w ∷ ins_v v m ]) ≡ mul (at R ρ v) (mul (at R ρ w) (ev_m m))
      go true h = refl
      go false h = ap (λ t. mul (at R ρ w) t) h ∙ mul_left_comm R (at R ρ w) (at R ρ v) (ev_m m)

  mul_m_ev : (m n : List ℕ) → ev_m (mul_m m n) ≡ mul (ev_m m) (ev_m n)
  mul_m_ev [] n = sym (mul_uni (ev_m n))
  mul_m_ev (v ∷ m) n = ins_v_ev v (mul_m m n) ∙ ap (λ t. mul (at R ρ v) t) (mul_m_ev m n) ∙ sym (mul_assoc (at R ρ v) (ev_m m) (ev_m n))

  cons_ev : (k : ℕ) (c : K) (m : List ℕ) (p : List (Term K)) → ev_p (cons κ k c m p) ≡ add (mul (lit c) (ev_m m)) (ev_p p)
  cons_ev k c m p = go (kzero c) (lit_zer c)
    where
      go : (b : Bool) → (T b → lit c ≡ zer) → ev_p (elim b as (λ _. List (Term K)) [ true ↦ p | false ↦ tm k c m ∷ p ]) ≡ add (mul (lit c) (ev_m m)) (ev_p p)
      go true h = sym (ap (λ t. add (mul t (ev_m m)) (ev_p p)) (h tt) ∙ ap (λ t. add t (ev_p p)) (zer_mul R (ev_m m)) ∙ add_zer (ev_p p))
      go false h = refl

  -- two terms with the same κ variables, in front of f q
  module _ (s : C) (f : List (Term K) → List (Term K)) (hf : (q : List (Term K)) → ev_p (f q) ≡ add s (ev_p q)) (k : ℕ) (c : K) (m : List ℕ) where
    into_eq : (k' : ℕ) (d : K) (n : List ℕ) (q : List (Term K)) (b : Bool) → (T b → m ≡ n)
        → ev_p (elim b as (λ _. List (Term K)) [ true ↦ cons κ k (kadd c d) m (f q) | false ↦ tm k c m ∷ (tm k' d n ∷ f q) ])
        ≡ add (add (mul (lit c) (ev_m m)) s) (add (mul (lit d) (ev_m n)) (ev_p q))
    into_eq k' d n q true h = cons_ev k (kadd c d) m (f q)
        ∙ ap₂ add (ap (λ t. mul t (ev_m m)) (lit_add c d) ∙ distr (lit c) (lit d) (ev_m m)) (hf q)
        ∙ add_swap R (mul (lit c) (ev_m m)) (mul (lit d) (ev_m m)) s (ev_p q)
        ∙ ap (λ l. add (add (mul (lit c) (ev_m m)) s) (add (mul (lit d) (ev_m l)) (ev_p q))) (h tt)
    into_eq k' d n q false h = ap (λ t. add (mul (lit c) (ev_m m)) (add (mul (lit d) (ev_m n)) t)) (hf q)
        ∙ ap (λ t. add (mul (lit c) (ev_m m)) t) (add_left_comm R (mul (lit d) (ev_m n)) s (ev_p q))
        ∙ sym (add_assoc (mul (lit c) (ev_m m)) s (add (mul (lit d) (ev_m n)) (ev_p q)))

    into_ev : (q : List (Term K)) → ev_p (into κ k c m f q) ≡ add (add (mul (lit c) (ev_m m)) s) (ev_p q)
    into_ev [] = ap (λ t. add (mul (lit c) (ev_m m)) t) (hf []) ∙ sym (add_assoc (mul (lit c) (ev_m m)) s zer)
    into_ev (tm k' d n ∷ q) = go (compare k k') (into_ev q)
      where
        go : (o : Ordering) → ev_p (into κ k c m f q) ≡ add (add (mul (lit c) (ev_m m)) s) (ev_p q)
            → ev_p (elim o as (λ _. List (Term K)) [
              | Ordering.lt ↦ tm k c m ∷ f (tm k' d n ∷ q)
              | Ordering.eq ↦ elim (eq_l m n) as (λ _. List (Term K)) [ true ↦ cons κ k (kadd c d) m (f q) | false ↦ tm k c m ∷ (tm k' d n ∷ f q) ]
              | Ordering.gt ↦ tm k' d n ∷ into κ k c m f q
            ])
            ≡ add (add (mul (lit c) (ev_m m)) s) (add (mul (lit d) (ev_m n)) (ev_p q))
        go Ordering.lt h = ap (λ t. add (mul (lit c) (ev_m m)) t) (hf (tm k' d n ∷ q)) ∙ sym (add_assoc (mul (lit c) (ev_m m)) s (ev_p (tm k' d n ∷ q)))
        go Ordering.eq h = into_eq k' d n q (eq_l m n) (eq_l→ m n)
        go Ordering.gt h = ap (λ t. add (mul (lit d) (ev_m n)) t) h ∙ add_left_comm R (mul (lit d) (ev_m n)) (add (mul (lit c) (ev_m m)) s) (ev_p q)

  add_p_ev : (p q : List (Term K)) → ev_p (add_p κ p q) ≡ add (ev_p p) (ev_p q)
  add_p_ev [] q = sym (add_zer (ev_p q))
  add_p_ev (tm k c m ∷ p) q = into_ev (ev_p p) (add_p κ p) (add_p_ev p) k c m q

  scale_ev : (k : ℕ) (c : K) (m : List ℕ) (q : List (Term K)) → ev_p (scale κ k c m q) ≡ mul (mul (lit c) (ev_m m)) (ev_p q)
  scale_ev k c m [] = sym (mul_zer R (mul (lit c) (ev_m m)))
  scale_ev k c m (tm k' d n ∷ q) =
      ap₂ add (ap₂ mul (lit_mul c d) (mul_m_ev m n) ∙ mul_swap R (lit c) (lit d) (ev_m m) (ev_m n)) (scale_ev k c m q)
      ∙ sym (distl R (mul (lit c) (ev_m m)) (mul (lit d) (ev_m n)) (ev_p q))

  mul_p_ev : (p q : List (Term K)) → ev_p (mul_p κ p q) ≡ mul (ev_p p) (ev_p q)
  mul_p_ev [] q = sym (zer_mul R (ev_p q))
  mul_p_ev (tm k c m ∷ p) q = add_p_ev (scale κ k c m q) (mul_p κ p q) ∙ ap₂ add (scale_ev k c m q) (mul_p_ev p q) ∙ sym (distr (mul (lit c) (ev_m m)) (ev_p p) (ev_p q))

  neg_p_ev : (p : List (Term K)) → ev_p (neg_p κ p) ≡ neg (ev_p p)
  neg_p_ev [] = sym (neg_zer R)
  neg_p_ev (tm k c m ∷ p) = ap₂ add (ap (λ t. mul t (ev_m m)) (lit_neg c) ∙ neg_mul R (lit c) (ev_m m)) (neg_p_ev p) ∙ sym (neg_add R (mul (lit c) (ev_m m)) (ev_p p))

  norm_ev : (e : E K) → ev_p (norm κ e) ≡ eval e
  norm_ev (var i) = zer_add R (mul (lit kone) (mul (at R ρ i) uni)) ∙ ap₂ mul lit_uni (uni_mul R (at R ρ i)) ∙ mul_uni (at R ρ i)
  norm_ev (con z) = cons_ev 0 z [] [] ∙ zer_add R (mul (lit z) uni) ∙ uni_mul R (lit z)
  norm_ev (a ⊕ b) = add_p_ev (norm κ a) (norm κ b) ∙ ap₂ add (norm_ev a) (norm_ev b)
  norm_ev (a ⊗ b) = mul_p_ev (norm κ a) (norm κ b) ∙ ap₂ mul (norm_ev a) (norm_ev b)
  norm_ev (a ⊖ b) = add_p_ev (norm κ a) (neg_p κ (norm κ b)) ∙ ap₂ add (norm_ev a) (neg_p_ev (norm κ b) ∙ ap neg (norm_ev b))
  norm_ev (⊝ a) = neg_p_ev (norm κ a) ∙ ap neg (norm_ev a)

  nil_ev : (p : List (Term K)) → T (nil κ p) → ev_p p ≡ zer
  nil_ev [] t = refl
  nil_ev (u ∷ p) t = absurd t

  pub ring : (a b : E K) → T (same κ a b) → eval a ≡ eval b
  ring a b t = sub_zer R (eval a) (eval b) (sym (norm_ev (a ⊖ b)) ∙ nil_ev (norm κ (a ⊖ b)) t)

  -- ---- with equations: a - b is a sum of multiples of x - y where x = y
  abbrev pub Means : List (Eqn K) → Type 0
  Means [] = Unit {0}
  Means (eqn q x y ∷ hs) = (eval x ≡ eval y) × Means hs

  less_ev : (hs : List (Eqn K)) → Means hs → (e : E K) → eval (less κ hs e) ≡ eval e
  less_ev [] h e = refl
  less_ev (eqn q x y ∷ hs) h e = less_ev hs h.1 (e ⊖ q ⊗ (x ⊖ y))
      ∙ ap (λ t. add (eval e) (neg (mul (eval q) (add t (neg (eval y)))))) h.0
      ∙ ap (λ t. add (eval e) (neg (mul (eval q) t))) (add_neg (eval y))
      ∙ ap (λ t. add (eval e) (neg t)) (mul_zer R (eval q))
      ∙ ap (λ t. add (eval e) t) (neg_zer R)
      ∙ zer_add R (eval e)

  pub ring_by : (hs : List (Eqn K)) → Means hs → (a b : E K) → T (same_by κ hs a b) → eval a ≡ eval b
  ring_by hs h a b t = sub_zer R (eval a) (eval b) (sym (less_ev hs h (a ⊖ b)) ∙ sym (norm_ev (less κ hs (a ⊖ b))) ∙ nil_ev (norm κ (less κ hs (a ⊖ b))) t)
