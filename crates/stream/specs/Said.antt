-- An answer of `earth` in a stream of answers: its bytes. Assumes nothing.
use Rattle.std.specs.Prelude.{cond, List, ◌++◌, ℕ}
use Rattle.std.proofs.Math.Option.{Option, none, some}
use Rattle.paper.specs.declared.Part.{Part}
use Rattle.paper.specs.Return.{Said}
use Rattle.stream.specs.Layout.{three_of, part_of}

-- the part that is shown, three zeros for none
unfoldable pub shown_of : Option Part → List ℕ
shown_of none = three_of 0 0 0
shown_of (some p) = part_of p

-- number, place, whether there is an earth return, the part that is shown, and its bytes
unfoldable pub said_of : Said → List ℕ → List ℕ
said_of s shown = three_of s.number s.place (cond s.earthed 1 0) ++ (shown_of s.shown ++ shown)

-- the same where a record is named
abbrev pub named_of : ℕ → ℕ → List ℕ → List ℕ
named_of place earthed shown = three_of 0 place earthed ++ (three_of 0 0 0 ++ shown)
