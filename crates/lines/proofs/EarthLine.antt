-- The line about an earth return: its pieces as they are written, and its length. Assumes nothing.
use mathlib.Core.Bool.{Bool, true, false, cond}
use mathlib.Core.List.{List, [], ◌∷◌, ◌++◌}
use mathlib.Core.Option.{Option, none, some}
use mathlib.Core.Path.{◌≡◌, refl}
use Prim.Native.Nat.{ℕ, ◌≤◌}
use native.Mathlib.Omega.{arith}
use lib.IntN.{pos}
use lib.ListN.{length, length-append}
use Rattle.decimal.specs.Decimal.{decimal, signed, row}
use Rattle.decimal.proofs.Decimal.{decimal_most}
use Rattle.paper.specs.declared.Part.{Part}
use Rattle.paper.specs.Bytes.{text}
use Rattle.paper.specs.Return.{Said}
use Rattle.lines.specs.Lines.{line, refused_text}
use Rattle.lines.specs.Earth.{earth_line, earth_text, earth_most}

pub record_pieces : (words : List ℕ) (place : ℕ) → line words (pos place ∷ []) ≡ words ++ ((0x20 ∷ decimal place) ++ (0x0A ∷ []))
unfolding line row signed
record_pieces words place = refl

-- ---- no line is longer
pub earth_most_lem : (s : Said) → length (earth_text s) ≤ earth_most
unfolding earth_text earth_line line refused_text row signed text
earth_most_lem s = go s.shown
  where
    one : (words : List ℕ) → length words ≤ 24 → length (words ++ row (pos s.place ∷ [])) ≤ 50
    one words h = omega (arith, length-append words (row (pos s.place ∷ [])), length-append (0x20 ∷ decimal s.place) (0x0A ∷ []), decimal_most s.place)

    by : (b : Bool) → length (line (cond b (text "earth return from record") (text "none, stopped at record")) (pos s.place ∷ [])) ≤ 50
    by true = one (text "earth return from record") (omega arith)
    by false = one (text "none, stopped at record") (omega arith)

    go : (o : Option Part) → length (earth_line s o) ≤ 50
    go none = by s.earthed
    go (some p) =
        omega (
          arith,
          length-append (text "REFUSED") (row (pos s.number ∷ pos s.place ∷ [])),
          length-append (0x20 ∷ decimal s.number) (row (pos s.place ∷ [])),
          length-append (0x20 ∷ decimal s.place) (0x0A ∷ []),
          decimal_most s.number,
          decimal_most s.place,
        )
