-- Answers that a contract rules out, as a table that is computed at once: of each row the contract allows the call and not the answer. Assumes nothing.
use mathlib.Core.Bool.{Bool, true, false, not, ◌&&◌, cond}
use mathlib.Core.List.{List, [], ◌∷◌}
use mathlib.Core.Option.{Option, some, none as nothing}
use mathlib.Core.Path.{◌≡◌, refl, ap, subst}
use Prim.Native.Nat.{ℕ, suc, ◌+◌, ◌*◌}
use lib.Dec.{T, eqb, eqb_refl}
use lib.IntN.{ℤ, pos, negsuc}
use denote.Bor.{Bor}
use denote.MutBor.{MutBor}
use Rattle.lemmas.proofs.Bools.{both_t}

-- a call's arguments, and an answer that is not its own
infixl 90 ◌↛◌
pub data Row (A Z : Type 0) : Type 0 where
  ◌↛◌ : A → Z → Row A Z

-- what the contract asks of the arguments
abbrev pub Asked : {A Z : Type 0} → (A → Type 0) → List (Row A Z) → Type 0
Asked asks [] = Unit {0}
Asked asks (a ↛ z ∷ rows) = asks a × Asked asks rows

-- what it says of them and of an answer
abbrev pub Denied : {A Z : Type 0} → (A → Z → Type 0) → List (Row A Z) → Type 0
Denied says [] = Unit {0}
Denied says (a ↛ z ∷ rows) = (says a z → ⊥) × Denied says rows

-- an answer, whatever is left at the end of the call
abbrev pub ever : {A Z E : Type 0} → (A → Z → E → Type 0) → A → Z → Type 0
ever {E = E} says a z = (e : E) × says a z e

-- an answer with what is left at the end of the call
abbrev pub ends : {A Z E : Type 0} → (A → Z → E → Type 0) → A → Z × E → Type 0
ends says a z = says a z.0 z.1

-- every call of the table is allowed, and its answer is not
pub record RuledOut {A Z : Type 0} (asks : A → Type 0) (says : A → Z → Type 0) (rows : List (Row A Z)) : Type 0 where
  pub asked : Asked asks rows
  pub denied : Denied says rows

-- ---- by a test that every answer passes which the contract allows
module _ {A Z : Type 0} (allows : A → Z → Bool) where
  abbrev pub none : List (Row A Z) → Bool
  none [] = true
  none (a ↛ z ∷ rows) = not (allows a z) && none rows

  no : (b : Bool) → T (not b) → T b → ⊥
  no true n y = n
  no false n y = y

  module _ (says : A → Z → Type 0) (passes : (a : A) (z : Z) → says a z → T (allows a z)) where
    deny : (rows : List (Row A Z)) → T (none rows) → Denied says rows
    deny [] t = tt
    deny (a ↛ z ∷ rows) t = let h = both_t (not (allows a z)) (none rows) t in (λ s. no (allows a z) h.0 (passes a z s), deny rows h.1)

  pub by_test : {asks : A → Type 0} {says : A → Z → Type 0} {rows : List (Row A Z)} → ((a : A) (z : Z) → says a z → T (allows a z)) → Asked asks rows → T (none rows) → RuledOut asks says rows
  by_test {says = says} {rows = rows} passes asked t = record { asked = asked; denied = deny says passes rows t }

-- ---- by a number of the answer, and what the contract makes of it
pub by : {A Z : Type 0} (told : Z → ℕ) (right : A → ℕ) {asks : A → Type 0} {says : A → Z → Type 0} {rows : List (Row A Z)} → ((a : A) (z : Z) → says a z → told z ≡ right a) → Asked asks rows → T (none (λ a z. eqb (told z) (right a)) rows) → RuledOut asks says rows
by told right means = by_test (λ a z. eqb (told z) (right a)) (λ a z s. subst (λ n. T (eqb (told z) n)) (means a z s) (eqb_refl (told z)))

-- where the contract is an equation
pub by_equation : {A Z E : Type 0} (right : A → Z) (told : Z → ℕ) {asks : A → Type 0} {says : A → Z → E → Type 0} {rows : List (Row A Z)} → ((a : A) (z : Z) (e : E) → says a z e → z ≡ right a) → Asked asks rows → T (none (λ a z. eqb (told z) (told (right a))) rows) → RuledOut asks (ever says) rows
by_equation right told means = by told (λ a. told (right a)) (λ a z s. ap told (means a z s.0 s.1))

-- where it says what is left only if nothing is refused: by a number of the answer, and then one of what is left
abbrev pub unless : {X : Type 0} → Option X → Bool → Bool
unless nothing b = b
unless (some x) b = true

also : (b : Bool) {X : Type 0} (o : Option X) (c : Bool) → T b → (o ≡ nothing → T c) → T (b && unless o c)
also true nothing c t f = f refl
also true (some x) c t f = tt
also false o c t f = absurd t

pub by_parts : {A Z X : Type 0} (told : Z → ℕ) (right : A → ℕ) (refusal : A → Option X) (left : Z → ℕ) (leaves : A → ℕ) {asks : A → Type 0} {says : A → Z → Type 0} {rows : List (Row A Z)}
    → ((a : A) (z : Z) → says a z → (told z ≡ right a) × (refusal a ≡ nothing → left z ≡ leaves a)) → Asked asks rows
    → T (none (λ a z. eqb (told z) (right a) && unless (refusal a) (eqb (left z) (leaves a))) rows) → RuledOut asks says rows
by_parts told right refusal left leaves means =
    by_test (λ a z. eqb (told z) (right a) && unless (refusal a) (eqb (left z) (leaves a)))
    (λ a z s. also (eqb (told z) (right a)) (refusal a) (eqb (left z) (leaves a)) (subst (λ n. T (eqb (told z) n)) (means a z s).0 (eqb_refl (told z))) (λ e. subst (λ n. T (eqb (left z) n)) ((means a z s).1 e) (eqb_refl (left z))))

-- ---- answers told as numbers: nothing rests on which, only that they differ where the answers do
abbrev pub bool : Bool → ℕ
bool b = cond b 1 0

abbrev pub whole : ℤ → ℕ
whole (pos n) = n + n
whole (negsuc n) = suc (n + n)

-- a list of numbers below 2⁶⁴
abbrev pub list : List ℕ → ℕ
list [] = 0
list (x ∷ xs) = suc x + 18446744073709551617 * list xs

-- rows of them
abbrev pub lists : List (List ℕ) → ℕ
lists [] = 0
lists (xs ∷ rows) = list (list xs ∷ lists rows ∷ [])

abbrev pub wholes : List ℤ → ℕ
wholes [] = 0
wholes (z ∷ zs) = suc (whole z) + 18446744073709551617 * wholes zs

-- ---- what a caller lends
abbrev pub lent : {A : Type 0} → List A → Bor (List A)
lent xs = record { ref_ptr = (0, 0); now = xs }

-- and lends to be written
abbrev pub lent_out : {A : Type 0} → List A → MutBor (List A)
lent_out xs = record { ref_ptr = (0, 0); ghost_name = 0; now = xs }
