-- Tests that two answers, two lists or two numbers are the same; and that what passes is. The figures compute with the tests and state the equations. Assumes nothing.
use mathlib.Core.Path.{◌≡◌, refl, sym, ◌∙◌, ap, ap₂}
use mathlib.Core.Bool.{Bool, true, false, not, cond, ◌&&◌}
use mathlib.Core.List.{List, [], ◌∷◌}
use mathlib.Core.Option.{Option, none, some}
use lib.Dec.{T, eqb, eqb→eq}
use lib.IntN.{ℤ, pos, negsuc}
use lib.ListN.{get_or}
use Prim.Native.Nat.{ℕ, zero, suc}
use Rattle.lemmas.proofs.Bools.{both_t}
use Rattle.turn.specs.declared.Num.{Num}
use Rattle.paper.specs.declared.Lent.{Lent}
use Rattle.paper.specs.declared.Lent.TheVariants.{NetworkBytes, FaultBytes, LabelBytes}
use Rattle.paper.specs.declared.Part.{Part}
use Rattle.paper.specs.declared.Answer.{Answer}
use Rattle.paper.specs.declared.Written.{Written}
use Rattle.paper.specs.Bytes.{same_bytes}
use Rattle.paper.specs.Phase.{four}
use Rattle.paper.specs.Return.{Said}

abbrev pub sameℤ : ℤ → ℤ → Bool
sameℤ (pos m) (pos n) = eqb m n
sameℤ (pos m) (negsuc n) = false
sameℤ (negsuc m) (pos n) = false
sameℤ (negsuc m) (negsuc n) = eqb m n

sameℤ→ : (a b : ℤ) → T (sameℤ a b) → a ≡ b
sameℤ→ (pos m) (pos n) t = ap pos (eqb→eq m n t)
sameℤ→ (pos m) (negsuc n) t = absurd t
sameℤ→ (negsuc m) (pos n) t = absurd t
sameℤ→ (negsuc m) (negsuc n) t = ap negsuc (eqb→eq m n t)

abbrev pub same_list : List ℤ → List ℤ → Bool
same_list [] [] = true
same_list [] (y ∷ ys) = false
same_list (x ∷ xs) [] = false
same_list (x ∷ xs) (y ∷ ys) = sameℤ x y && same_list xs ys

pub same_list→ : (xs ys : List ℤ) → T (same_list xs ys) → xs ≡ ys
same_list→ [] [] t = refl
same_list→ [] (y ∷ ys) t = absurd t
same_list→ (x ∷ xs) [] t = absurd t
same_list→ (x ∷ xs) (y ∷ ys) t = let h = both_t (sameℤ x y) (same_list xs ys) t in ap₂ ◌∷◌ (sameℤ→ x y h.0) (same_list→ xs ys h.1)

abbrev pub same_num : Num → Num → Bool
same_num a b = same_list (four a) (four b)

pub same_num→ : (a b : Num) → T (same_num a b) → a ≡ b
same_num→ a b t = ap back (same_list→ (four a) (four b) t)
  where
    back : List ℤ → Num
    back xs = record { x0 = get_or xs 0 (pos 0); x1 = get_or xs 1 (pos 0); x2 = get_or xs 2 (pos 0); x3 = get_or xs 3 (pos 0) }

-- whose bytes, by a number for each
abbrev pub ordinal : Lent → ℕ
ordinal NetworkBytes = 1
ordinal FaultBytes = 2
ordinal LabelBytes = 3

pub same_ordinal : (a b : Lent) → ordinal a ≡ ordinal b → a ≡ b
same_ordinal a b e = sym (there a) ∙ ap back e ∙ there b
  where
    back : ℕ → Lent
    back zero = NetworkBytes
    back (suc zero) = NetworkBytes
    back (suc (suc zero)) = FaultBytes
    back (suc (suc (suc n))) = LabelBytes

    there : (a : Lent) → back (ordinal a) ≡ a
    there NetworkBytes = refl
    there FaultBytes = refl
    there LabelBytes = refl

abbrev pub same_lent : Lent → Lent → Bool
same_lent a b = eqb (ordinal a) (ordinal b)

same_lent→ : (a b : Lent) → T (same_lent a b) → a ≡ b
same_lent→ a b t = same_ordinal a b (eqb→eq (ordinal a) (ordinal b) t)

abbrev pub same_part : Part → Part → Bool
same_part a b = same_lent a.whose b.whose && (eqb a.start b.start && eqb a.len b.len)

same_part→ : (a b : Part) → T (same_part a b) → a ≡ b
same_part→ a b t =
    let h = both_t (same_lent a.whose b.whose) (eqb a.start b.start && eqb a.len b.len) t in
    let g = both_t (eqb a.start b.start) (eqb a.len b.len) h.1 in
    λ i. record { whose = same_lent→ a.whose b.whose h.0 i; start = eqb→eq a.start b.start g.0 i; len = eqb→eq a.len b.len g.1 i }

abbrev pub same_answer : Answer → Answer → Bool
same_answer a b = (eqb a.number b.number && eqb a.place b.place) && ((eqb a.n b.n && eqb a.amps b.amps) && same_part a.part b.part)

pub same_answer→ : (a b : Answer) → T (same_answer a b) → a ≡ b
same_answer→ a b t =
    let h = both_t (eqb a.number b.number && eqb a.place b.place) ((eqb a.n b.n && eqb a.amps b.amps) && same_part a.part b.part) t in
    let f = both_t (eqb a.number b.number) (eqb a.place b.place) h.0 in
    let g = both_t (eqb a.n b.n && eqb a.amps b.amps) (same_part a.part b.part) h.1 in
    let e = both_t (eqb a.n b.n) (eqb a.amps b.amps) g.0 in
    λ i. record {
      amps = eqb→eq a.amps b.amps e.1 i;
      part = same_part→ a.part b.part g.1 i;
      place = eqb→eq a.place b.place f.1 i;
      n = eqb→eq a.n b.n e.0 i;
      number = eqb→eq a.number b.number f.0 i;
    }

-- ---- what writing returns, and bytes
abbrev pub same_written : Written → Written → Bool
same_written a b = (eqb a.number b.number && eqb a.place b.place) && (eqb a.len b.len && same_part a.part b.part)

pub same_written→ : (a b : Written) → T (same_written a b) → a ≡ b
same_written→ a b t =
    let h = both_t (eqb a.number b.number && eqb a.place b.place) (eqb a.len b.len && same_part a.part b.part) t in
    let f = both_t (eqb a.number b.number) (eqb a.place b.place) h.0 in
    let g = both_t (eqb a.len b.len) (same_part a.part b.part) h.1 in
    λ i. record { part = same_part→ a.part b.part g.1 i; len = eqb→eq a.len b.len g.0 i; place = eqb→eq a.place b.place f.1 i; number = eqb→eq a.number b.number f.0 i }

pub same_bytes→ : (xs ys : List ℕ) → T (same_bytes xs ys) → xs ≡ ys
unfolding same_bytes
same_bytes→ [] [] t = refl
same_bytes→ [] (y ∷ ys) t = absurd t
same_bytes→ (x ∷ xs) [] t = absurd t
same_bytes→ (x ∷ xs) (y ∷ ys) t = let h = both_t (eqb x y) (same_bytes xs ys) t in ap₂ ◌∷◌ (eqb→eq x y h.0) (same_bytes→ xs ys h.1)

-- ---- what is said of an earth return
abbrev same_bool : Bool → Bool → Bool
same_bool a b = cond a b (not b)

same_bool→ : (a b : Bool) → T (same_bool a b) → a ≡ b
same_bool→ true true t = refl
same_bool→ true false t = absurd t
same_bool→ false true t = absurd t
same_bool→ false false t = refl

abbrev same_shown : Option Part → Option Part → Bool
same_shown none none = true
same_shown none (some q) = false
same_shown (some p) none = false
same_shown (some p) (some q) = same_part p q

same_shown→ : (a b : Option Part) → T (same_shown a b) → a ≡ b
same_shown→ none none t = refl
same_shown→ none (some q) t = absurd t
same_shown→ (some p) none t = absurd t
same_shown→ (some p) (some q) t = ap some (same_part→ p q t)

abbrev pub same_said : Said → Said → Bool
same_said a b = (eqb a.number b.number && same_bool a.earthed b.earthed) && (eqb a.place b.place && same_shown a.shown b.shown)

pub same_said→ : (a b : Said) → T (same_said a b) → a ≡ b
same_said→ a b t =
    let h = both_t (eqb a.number b.number && same_bool a.earthed b.earthed) (eqb a.place b.place && same_shown a.shown b.shown) t in
    let f = both_t (eqb a.number b.number) (same_bool a.earthed b.earthed) h.0 in
    let g = both_t (eqb a.place b.place) (same_shown a.shown b.shown) h.1 in
    λ i. record { number = eqb→eq a.number b.number f.0 i; earthed = same_bool→ a.earthed b.earthed f.1 i; place = eqb→eq a.place b.place g.0 i; shown = same_shown→ a.shown b.shown g.1 i }
