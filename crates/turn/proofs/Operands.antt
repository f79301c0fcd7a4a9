-- The coordinates of a number, as words with their bounds: what the proofs of the operations compute with. Assumes nothing.
use mathlib.Core.Path.{◌≡◌, refl, ap, ap₂, ◌∙◌}
use mathlib.Core.Bool.{Bool, ◌&&◌}
use mathlib.Core.List.{List, [], ◌∷◌}
use Prim.Native.Nat.{ℕ, zero, suc}
use lib.Dec.{T}
use lib.IntN.{ℤ, neg_ℤ, ◌+ℤ◌, ◌-ℤ◌, ◌*ℤ◌}
use Rattle.lemmas.proofs.Ring.{ℤring}
use Rattle.lemmas.proofs.Solver.{E, var, con, ◌⊕◌, ◌⊗◌, ◌⊖◌, ⊝◌, eval}
use Rattle.lemmas.proofs.Words.{Known, know, kept, mach, means, ok, reads}
use Rattle.turn.specs.declared.Num.{Num}
use Rattle.turn.specs.Bounds.{Within}
use Rattle.turn.proofs.Form.{Form, four, alike, ev_f}

-- four words, before what follows
abbrev pub coordinates : {b : ℕ} {a : Num} → Within b a → List Known → List Known
coordinates p rest = know p.w0 ∷ know p.w1 ∷ know p.w2 ∷ know p.w3 ∷ rest

-- ---- a form of one number's coordinates: what the machine keeps of it, the test that it fits, and then it is the form itself
abbrev pub kept_f : List Known → Form → Num
kept_f k f = record { x0 = kept (mach k f.f0); x1 = kept (mach k f.f1); x2 = kept (mach k f.f2); x3 = kept (mach k f.f3) }

abbrev pub ok_f : List Known → Form → Bool
ok_f k f = ok k f.f0 && (ok k f.f1 && (ok k f.f2 && ok k f.f3))

module _ {b : ℕ} {a : Num} (p : Within b a) where
  abbrev ρ : List ℤ
  ρ = a.x0 ∷ a.x1 ∷ a.x2 ∷ a.x3 ∷ []

  abbrev k : List Known
  k = coordinates p []

  means_is : (e : E ℤ) → means k e ≡ eval ℤring ρ e
  means_is (var zero) = refl
  means_is (var (suc zero)) = refl
  means_is (var (suc (suc zero))) = refl
  means_is (var (suc (suc (suc zero)))) = refl
  means_is (var (suc (suc (suc (suc i))))) = refl
  means_is (con z) = refl
  means_is (x ⊕ y) = ap₂ ◌+ℤ◌ (means_is x) (means_is y)
  means_is (x ⊗ y) = ap₂ ◌*ℤ◌ (means_is x) (means_is y)
  means_is (x ⊖ y) = ap₂ ◌-ℤ◌ (means_is x) (means_is y)
  means_is (⊝ x) = ap neg_ℤ (means_is x)

  pub kept_form : (f : Form) → T (ok_f k f) → kept_f k f ≡ ev_f ρ f
  kept_form f t =
      let s = four (ok k f.f0) (ok k f.f1) (ok k f.f2) (ok k f.f3) t in
      alike (reads k f.f0 s.0 ∙ means_is f.f0) (reads k f.f1 s.1 ∙ means_is f.f1) (reads k f.f2 s.2 ∙ means_is f.f2) (reads k f.f3 s.3 ∙ means_is f.f3)
