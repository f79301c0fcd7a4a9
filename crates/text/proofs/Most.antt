-- No text is longer than `text_most`. Assumes nothing.
use mathlib.Core.List.{List, [], ◌∷◌, ◌++◌}
use mathlib.Core.Option.{Option, none, some}
use mathlib.Core.Path.{◌≡◌, refl}
use Prim.Native.Nat.{ℕ, suc, ◌+◌, ◌*◌, ◌≤◌}
use native.Mathlib.Omega.{arith}
use lib.IntN.{ℤ, pos, negsuc}
use lib.ListN.{length, length-append}
use Rattle.paper.specs.declared.Refusal.{Refusal}
use Rattle.paper.specs.declared.Seq.{Seq}
use Rattle.paper.specs.Bytes.{bytes_at, text}
use Rattle.paper.specs.File.{board_of, fault_of, decoded, records_of, boards_of}
use Rattle.paper.specs.Chain.{Boards}
use Rattle.paper.specs.Refusal.{refusal}
use Rattle.paper.specs.Phase.{Asked, asked, the_d, phase, phases, four, fault_currents, board_voltages, record_currents}
use Rattle.paper.specs.Amps.{amps}
use Rattle.follows.proofs.Accepted.{accepted_network_lem, accepted_fault}
use Rattle.decimal.specs.Decimal.{signed, row}
use Rattle.decimal.proofs.Decimal.{decimal_most}
use Rattle.lines.specs.Name.{unspaced}
use Rattle.lines.specs.Lines.{line, phase_lines, three_lines, fault_line, refused_text}
use Rattle.lines.proofs.Unspaced.{unspaced_most}
use Rattle.lines.specs.Boards.{board_lines}
use Rattle.text.specs.Text.{current_lines, top_lines, boards_lines, accepted_text, text_of, room, printed, text_most}

signed_most : (z : ℤ) → length (signed z) ≤ 21
unfolding signed
signed_most (pos n) = omega (arith, decimal_most n)
signed_most (negsuc n) = omega (arith, decimal_most (suc n))

row_most : (zs : List ℤ) → length (row zs) ≤ 22 * length zs + 1
unfolding row
row_most [] = omega arith
row_most (z ∷ zs) = omega (arith, signed_most z, row_most zs, length-append (signed z) (row zs))

line_most : (front : List ℕ) (zs : List ℤ) → length (line front zs) ≤ length front + 22 * length zs + 1
unfolding line
line_most front zs = omega (arith, row_most zs, length-append front (row zs))

-- three lines of four numbers each
phase_most : (what : List ℕ) (letter : ℕ) (zs : List ℤ) (more : List (List ℤ)) → length zs ≡ 4
    → length (phase_lines what letter (zs ∷ more)) ≤ (length what + 90) + length (phase_lines what (suc letter) more)
unfolding phase_lines
phase_most what letter zs more e =
    let front = what ++ (letter ∷ []) in
    omega (arith, line_most front zs, length-append what (letter ∷ []), length-append (line front zs) (phase_lines what (suc letter) more))

three_most : (what : List ℕ) (p sj sk : ℕ) (X : Seq) → length (three_lines what (phases p sj sk X)) ≤ 3 * length what + 270
unfolding three_lines phases phase_lines
three_most what p sj sk X =
    let a = four (phase p sj sk X 0) in
    let b = four (phase p sj sk X 1) in
    let c = four (phase p sj sk X 2) in
    omega (arith, phase_most what 0x61 a (b ∷ c ∷ []) refl, phase_most what 0x62 b (c ∷ []) refl, phase_most what 0x63 c [] refl)

-- ---- boards
abbrev Twelve : Boards → Type 0
Twelve [] = Unit {0}
Twelve (b ∷ bs) = (length b.label ≡ 12) × Twelve bs

decoded_twelve : (recs : List (List ℕ)) → Twelve (decoded recs)
unfolding decoded board_of bytes_at
decoded_twelve [] = tt
decoded_twelve (s ∷ recs) = (refl, decoded_twelve recs)

boards_twelve : (net : List ℕ) → Twelve (boards_of net)
unfolding boards_of
boards_twelve net = decoded_twelve (records_of net)

fault_twelve : (flt : List ℕ) → length (fault_of flt).label ≡ 12
unfolding fault_of bytes_at
fault_twelve flt = refl

module _ (q : Asked) where
  voltages_most : (what : List ℕ) (r : ℕ) → length (three_lines what (board_voltages q r)) ≤ 3 * length what + 270
  unfolding board_voltages
  voltages_most what r = three_most what _ _ _ _

  currents_most : (what : List ℕ) (r : ℕ) → length (three_lines what (record_currents q r)) ≤ 3 * length what + 270
  unfolding record_currents
  currents_most what r = three_most what _ _ _ _

  fault_most_lem : (what : List ℕ) → length (three_lines what (fault_currents q)) ≤ 3 * length what + 270
  unfolding fault_currents
  fault_most_lem what = three_most what _ _ _ _

  board_most : (l : List ℕ) (r : ℕ) → length l ≡ 12 → length (board_lines l (board_voltages q r) (record_currents q r)) ≤ 630
  unfolding board_lines text
  board_most l r e =
      let v = unspaced l ++ (0x20 ∷ 0x56 ∷ 0x20 ∷ []) in
      let i = unspaced l ++ (0x20 ∷ 0x49 ∷ 0x20 ∷ []) in
      omega (
        arith,
        unspaced_most l,
        length-append (unspaced l) (0x20 ∷ 0x56 ∷ 0x20 ∷ []),
        length-append (unspaced l) (0x20 ∷ 0x49 ∷ 0x20 ∷ []),
        voltages_most v r,
        currents_most i r,
        length-append (three_lines v (board_voltages q r)) (three_lines i (record_currents q r)),
      )

  boards_most : (r : ℕ) (bs : Boards) → Twelve bs → length (boards_lines q r bs) ≤ 630 * length bs
  unfolding boards_lines
  boards_most r [] h = omega arith
  boards_most r (b ∷ bs) h =
      omega (
        arith,
        board_most b.label r h.0,
        boards_most (suc r) bs h.1,
        length-append (board_lines b.label (board_voltages q r) (record_currents q r)) (boards_lines q (suc r) bs),
      )

  top_most : length q.fault.label ≡ 12 → length (top_lines q.fault (amps q) (the_d q) (fault_currents q)) ≤ 385
  unfolding top_lines current_lines fault_line text
  top_most e =
      let word : List ℕ = 0x46 ∷ 0x41 ∷ 0x55 ∷ 0x4C ∷ 0x54 ∷ 0x20 ∷ [] in
      let l : List ℕ = unspaced q.fault.label in
      let zs : List ℤ = pos q.fault.kind ∷ pos q.fault.phase ∷ pos (amps q) ∷ [] in
      let d : List ℕ = line (0x44 ∷ []) (the_d q ∷ []) in
      omega (
        arith,
        unspaced_most q.fault.label,
        length-append word l,
        line_most (word ++ l) zs,
        line_most (0x44 ∷ []) (the_d q ∷ []),
        fault_most_lem (0x49 ∷ 0x20 ∷ []),
        length-append d (three_lines (0x49 ∷ 0x20 ∷ []) (fault_currents q)),
        length-append (line (word ++ l) zs) (d ++ three_lines (0x49 ∷ 0x20 ∷ []) (fault_currents q)),
      )

  accepted_most : length q.fault.label ≡ 12 → Twelve q.boards → length q.boards ≤ 256 → length (accepted_text q) ≤ text_most
  unfolding accepted_text
  accepted_most f b h =
      omega (arith, top_most f, boards_most 1 q.boards b, length-append (top_lines q.fault (amps q) (the_d q) (fault_currents q)) (boards_lines q 1 q.boards))

refused_most : (number place : ℕ) → length (refused_text number place) ≤ text_most
unfolding refused_text text
refused_most number place = omega (arith, line_most (0x52 ∷ 0x45 ∷ 0x46 ∷ 0x55 ∷ 0x53 ∷ 0x45 ∷ 0x44 ∷ []) (pos number ∷ pos place ∷ []))

few_boards : (net flt : List ℕ) → refusal net flt room ≡ none → length (boards_of net) ≤ 256
few_boards net flt e = let n = accepted_network_lem net (accepted_fault net flt room e).network in omega (arith, n.count, n.head_in.boards_range)

pub printed_most : (net flt : List ℕ) → length (printed net flt) ≤ text_most
unfolding printed text_of asked
printed_most net flt = go (refusal net flt room) refl
  where
    go : (o : Option Refusal) → refusal net flt room ≡ o → length (text_of o (asked net flt)) ≤ text_most
    go none e = accepted_most (asked net flt) (fault_twelve flt) (boards_twelve net) (few_boards net flt e)
    go (some r) e = refused_most r.number r.place
