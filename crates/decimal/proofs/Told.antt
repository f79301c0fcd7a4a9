-- Texts in a lent buffer told apart: what a contract that says `Wrote` rules out, for the tables of wrong answers. Assumes nothing.
use mathlib.Core.Bool.{Bool, true, ◌&&◌}
use mathlib.Core.List.{List, [], ◌∷◌, ◌++◌}
use mathlib.Core.Path.{◌≡◌, sym, ◌∙◌}
use Prim.Native.Nat.{ℕ, ◌+◌}
use Prim.Native.Char.{code}
use Prim.Native.String as S
use lib.Dec.{T, eqb, leb, leb→le}
use lib.ListN.{length, take, drop, replicate}
use denote.MutBor.{MutBor}
use Rattle.lemmas.specs.Over.{over}
use Rattle.lemmas.proofs.Bools.{both_t}
use Rattle.lemmas.proofs.RuledOut.{Row, ◌↛◌, Asked, RuledOut, none, by, list, lent_out}
use Rattle.decimal.specs.declared.Pen.{Pen}
use Rattle.decimal.specs.Writing.{Fits, Writes}

-- words as bytes
abbrev pub bytes : S.String → List ℕ
bytes S.[] = []
bytes (S.◌∷◌ c s) = code c ∷ bytes s

-- a pen at a place of a buffer of n dots
abbrev pub pen : ℕ → ℕ → MutBor Pen
pen n at = record { ref_ptr = (0, 0); ghost_name = 0; now = record { out = lent_out (replicate n 46); at = at } }

-- an answer: where the pen is then, and what the buffer holds
abbrev pub leaves : {A E : Type 0} → (A → Unit {0} → MutBor Pen × E → Type 0) → A → ℕ × List ℕ → Type 0
leaves {E = E} says a z = (e : MutBor Pen × E) × (e.0.now.at ≡ z.0) × (e.0.now.out.now ≡ z.1) × says a tt e

abbrev told : ℕ × List ℕ → ℕ
told z = list (z.0 ∷ z.1)

abbrev fits : ℕ → List ℕ → List ℕ → Bool
fits at s buffer = leb (at + length s) (length buffer)

pub room : {s : List ℕ} {pen : Pen} → T (fits pen.at s pen.out.now) → Fits s pen
room {s} {pen} t = record { room = record { fits = leb→le (pen.at + length s) (length pen.out.now) t } }

-- ---- calls with a pen, and more that the text is made of
module _ {B : Type 0} (text : B → List ℕ) where
  abbrev Call : Type 0
  Call = MutBor Pen × B

  abbrev Rows : Type 0
  Rows = List (Row Call (ℕ × List ℕ))

  abbrev Said : {E : Type 0} → Call → Unit {0} → MutBor Pen × E → Type 0
  Said a u e = Writes (text a.1) a.0.now e.0.now

  abbrev right : Call → ℕ × List ℕ
  right a =
      let s = text a.1 in
      let from = a.0.now.at in
      let buffer = a.0.now.out.now in
      (from + length s, take from buffer ++ (s ++ drop (length s) (drop from buffer)))

  means : {E : Type 0} (a : Call) (z : ℕ × List ℕ) → leaves (Said {E = E}) a z → told z ≡ told (right a)
  unfolding over
  means a z s i = told ((sym s.1 ∙ s.3.wrote.behind) i, (sym s.2 ∙ s.3.wrote.stands) i)

  abbrev Differ : Rows → Type 0
  Differ rows = T (none (λ a z. eqb (told z) (told (right a))) rows)

  pub by_text : {E : Type 0} {asks : Call → Type 0} {rows : Rows} → Asked asks rows → Differ rows → RuledOut asks (leaves (Said {E = E})) rows
  by_text = by told (λ a. told (right a)) means

  -- where room is all that is asked
  abbrev Asks : Call → Type 0
  Asks a = Fits (text a.1) a.0.now

  abbrev all_fit : Rows → Bool
  all_fit [] = true
  all_fit (a ↛ z ∷ rows) = fits a.0.now.at (text a.1) a.0.now.out.now && all_fit rows

  rooms : (rows : Rows) → T (all_fit rows) → Asked Asks rows
  rooms [] t = tt
  rooms (a ↛ z ∷ rows) t = let h = both_t (fits a.0.now.at (text a.1) a.0.now.out.now) (all_fit rows) t in (room h.0, rooms rows h.1)

  pub by_room : {E : Type 0} {rows : Rows} → T (all_fit rows) → Differ rows → RuledOut Asks (leaves (Said {E = E})) rows
  by_room {rows = rows} t = by_text (rooms rows t)
