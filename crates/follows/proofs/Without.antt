-- A table of refusals and its rows of one number: none tests true, and the table without them refuses the same; or one does first, and that one is named, or a row before it. Assumes nothing.
use mathlib.Core.Bool.{Bool, true, false, not, cond, ◌&&◌}
use mathlib.Core.List.{List, [], ◌∷◌, ◌++◌, append-nil, append_assoc}
use mathlib.Core.Option.{Option, some}
use mathlib.Core.Path.{◌≡◌, refl, sym, ◌∙◌, ap, subst}
use Prim.Native.Nat.{ℕ, zero, suc}
use lib.Dec.{T, eqb}
use borrow.Author.Tests.{eq-eqb, eqb-true}
use Rattle.lemmas.proofs.Bools.{both_t, both, untrue}
use Rattle.paper.specs.declared.Part.{Part}
use Rattle.paper.specs.declared.Refusal.{Refusal}
use Rattle.paper.specs.Rows.{Row, row, first}
use Rattle.follows.specs.Forgotten.{without, rows_before}
use Rattle.follows.proofs.Rows.{◌then◌, first_then, Each, each_behind}

module _ (n : ℕ) where
  -- all of them test false, and none has place r
  abbrev pub Silent : ℕ → Row → Type 0
  Silent r (row m b p s) = m ≡ n → (b ≡ false) × (p ≡ r → ⊥)

  abbrev pub Quiet : ℕ → List Row → Type 0
  Quiet r = Each (Silent r)

  -- there is none
  abbrev pub others : List Row → Bool
  others [] = true
  others (row m b p s ∷ rows) = not (eqb m n) && others rows

  pub quiet_others : (r : ℕ) (rows : List Row) → T (others rows) → Quiet r rows
  quiet_others r [] t = tt
  quiet_others r (row m b p s ∷ rows) t =
      let h = both_t (not (eqb m n)) (others rows) t in
      ((λ e. absurd (subst (λ (c : Bool). T (not c)) (eq-eqb m n e) h.0)), quiet_others r rows h.1)

  pub without_same : (r : ℕ) (rows : List Row) → Quiet r rows → first (without n rows) ≡ first rows
  unfolding first without
  without_same r [] h = refl
  without_same r (row m b p s ∷ rows) h = go (without_same r rows h.1) (eqb m n) refl
    where
      go : first (without n rows) ≡ first rows → (c : Bool) → eqb m n ≡ c → first (without n (row m b p s ∷ rows)) ≡ first (row m b p s ∷ rows)
      go same true e = rw e (same ∙ sym (ap (λ (c : Bool). first (row m c p s ∷ rows)) (h.0 (eqb-true m n e)).0))
      go same false e = rw e (ap (cond b (some (record { part = s; place = p; number = m }))) same)

  before_quiet : (r : ℕ) (rows later : List Row) → Quiet r rows → rows_before n r (rows ++ later) ≡ rows ++ rows_before n r later
  unfolding rows_before
  before_quiet r [] later h = refl
  before_quiet r (row m b p s ∷ rows) later h =
      rw (untrue (eqb m n && eqb p r) (λ t. let e = both (eqb m n) (eqb p r) t in (h.0 (eqb-true m n e.0)).1 (eqb-true p r e.1)))
      (ap (λ (l : List Row). row m b p s ∷ l) (before_quiet r rows later h.1))

  -- the first of them that tests true
  pub record Split (r : ℕ) (s : Part) (rows : List Row) : Type 0 where
    pub earlier : List Row
    pub later : List Row
    pub is : rows ≡ earlier ++ (row n true r s ∷ later)
    pub quiet : Quiet r earlier

  pub named_by : {r : ℕ} {s : Part} {rows : List Row} → Split r s rows → first rows ≡ first (without n (rows_before n r rows) ++ (row n true r s ∷ []))
  unfolding first rows_before
  named_by {r} {s} {rows} x =
      ap first x.is ∙ first_then x.earlier _
      ∙ ap (λ (o : Option Refusal). o then some (record { part = s; place = r; number = n })) (sym (without_same r x.earlier x.quiet) ∙ ap (λ (l : List Row). first (without n l)) (sym cut))
      ∙ sym (first_then (without n (rows_before n r rows)) (row n true r s ∷ []))
    where
      here : rows_before n r (row n true r s ∷ x.later) ≡ []
      here = rw (eq-eqb n n refl, eq-eqb r r refl) refl

      cut : rows_before n r rows ≡ x.earlier
      cut = ap (rows_before n r) x.is ∙ before_quiet r x.earlier _ x.quiet ∙ ap (λ (l : List Row). x.earlier ++ l) here ∙ append-nil x.earlier

  -- by the place of the first, with its part; 0 if there is none
  abbrev pub Found : (ℕ → Part) → ℕ → List Row → Type 0
  Found part zero rows = Quiet 0 rows
  Found part (suc r) rows = Split (suc r) (part (suc r)) rows

  pub found_behind : (part : ℕ → Part) (r : ℕ) (rows later : List Row) → Quiet r rows → Found part r later → Found part r (rows ++ later)
  found_behind part zero rows later h f = each_behind (Silent 0) rows later h f
  found_behind part (suc r) rows later h f =
      record {
        earlier = rows ++ f.earlier;
        later = f.later;
        is = ap (λ (l : List Row). rows ++ l) f.is ∙ sym (append_assoc rows f.earlier _);
        quiet = each_behind (Silent (suc r)) rows f.earlier h f.quiet;
      }

  pub found_before : (part : ℕ → Part) (r : ℕ) (rows later : List Row) → Found part r rows → Quiet 0 later → Found part r (rows ++ later)
  found_before part zero rows later f h = each_behind (Silent 0) rows later f h
  found_before part (suc r) rows later f h =
      record { earlier = f.earlier; later = f.later ++ later; is = ap (λ (l : List Row). l ++ later) f.is ∙ append_assoc f.earlier _ later; quiet = f.quiet }
