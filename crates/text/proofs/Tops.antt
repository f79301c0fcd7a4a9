-- The lines above the boards, piece by piece as they are written. Assumes nothing.
use mathlib.Core.Path.{◌≡◌, refl, sym, ap}
use mathlib.Core.List.{List, [], ◌∷◌, ◌++◌}
use Prim.Native.Nat.{ℕ, ◌-◌, ◌≤◌}
use native.Mathlib.Omega.{arith}
use lib.IntN.{ℤ, pos}
use lib.ListN.{length, get_or, take, drop}
use Rattle.std.proofs.lemmas.List.{take_rest}
use Rattle.decimal.specs.Decimal.{row}
use Rattle.lines.specs.Lines.{line, fault_line, three_lines, fours}
use Rattle.paper.specs.declared.Fault.{Fault}
use Rattle.paper.specs.Bytes.{text}
use Rattle.text.specs.Text.{current_lines, top_lines}
use Rattle.text.specs.Lying.{currents_lying, top_lying}

first_number : (zs : List ℤ) → 1 ≤ length zs → get_or zs 0 (pos 0) ∷ [] ≡ take 1 zs
first_number [] h = absurd (omega arith)
first_number (z ∷ zs) h = refl

pub current_pieces : (zs : List ℤ) → 1 ≤ length zs → currents_lying zs ≡ (0x44 ∷ row (take 1 zs)) ++ three_lines (0x49 ∷ 0x20 ∷ []) (fours (take (length zs - 1) (drop 1 zs)))
unfolding currents_lying current_lines line text
current_pieces zs h = rw (take_rest zs 1) (ap (λ (l : List ℤ). 0x44 ∷ row l ++ three_lines (0x49 ∷ 0x20 ∷ []) (fours (drop 1 zs))) (first_number zs h))

pub top_pieces : (f : Fault) {g : Fault} (n : ℕ) (zs : List ℤ) → g ≡ f → top_lying f n zs ≡ fault_line g.label g.kind g.phase n ++ currents_lying zs
unfolding top_lying top_lines currents_lying
top_pieces f n zs e = ap (λ (x : Fault). fault_line x.label x.kind x.phase n ++ currents_lying zs) (sym e)
