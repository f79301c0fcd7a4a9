-- 02, R-4: the line that the program `earth` prints, byte for byte. Assumes nothing.
use Rattle.std.specs.Prelude.{cond, List, [], ◌∷◌, ℕ, pos}
use Rattle.std.proofs.Math.Option.{Option, none, some}
use Rattle.paper.specs.declared.Part.{Part}
use Rattle.paper.specs.Bytes.{text}
use Rattle.paper.specs.Return.{Said}
use Rattle.lines.specs.Lines.{line, refused_text}

-- "earth return from record r", or "none, stopped at record r"; a refusal, which alone shows bytes, is 01's line
unfoldable pub earth_line : Said → Option Part → List ℕ
earth_line s none = line (cond s.earthed (text "earth return from record") (text "none, stopped at record")) (pos s.place ∷ [])
earth_line s (some p) = refused_text s.number s.place

unfoldable pub earth_text : Said → List ℕ
earth_text s = earth_line s s.shown

-- no line is longer (proofs/, `earth_most_lem`)
abbrev pub earth_most : ℕ
earth_most = 50

unfoldable pub earth_open : Unit {0}
unfolding earth_line earth_text
earth_open = tt
