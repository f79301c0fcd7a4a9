-- 02, R-3: what is printed of a network and a fault typed in another case differs in the case of letters alone, and a refusal's line not at all. Assumes nothing.
use mathlib.Core.Bool.{Bool, true, false, cond}
use mathlib.Core.List.{List, [], ◌∷◌, ◌++◌, map-append}
use mathlib.Core.Option.{Option, none, some}
use mathlib.Core.Path.{◌≡◌, refl, sym, ◌∙◌, ap}
use Prim.Native.Nat.{ℕ, suc}
use lib.IntN.{ℤ}
use Rattle.paper.specs.declared.Refusal.{Refusal}
use Rattle.paper.specs.Bytes.{text}
use Rattle.paper.specs.Label.{Label, blank, capital, capitals}
use Rattle.paper.specs.Chain.{Boards}
use Rattle.paper.specs.Refusal.{refusal}
use Rattle.paper.specs.Phase.{Asked, asked, the_d, fault_currents, board_voltages, record_currents}
use Rattle.paper.specs.Amps.{amps}
use Rattle.follows.proofs.Case.{capitals_once, blank_capitals}
use Rattle.follows.proofs.Upper.{uppers, upper_fault, upper_asked, D_upper, amps_upper, fault_upper, voltages_upper, currents_upper}
use Rattle.follows.proofs.Retyped.{Retyped, in_network, in_fault, told_alike}
use Rattle.lines.specs.Name.{unspaced}
use Rattle.lines.specs.Lines.{line, fault_line, phase_lines, three_lines}
use Rattle.lines.specs.Boards.{board_lines}
use Rattle.text.specs.Text.{top_lines, boards_lines, accepted_text, text_of, room, printed}

-- ---- texts that differ in the case of letters alone
record AlikeText (s t : List ℕ) : Type 0 where
  in_capitals_lem : capitals s ≡ capitals t

same : {s : List ℕ} → AlikeText s s
same = record { in_capitals_lem = refl }

-- one behind the other
infixl 20 ◌then◌
◌then◌ : {s t s' t' : List ℕ} → AlikeText s t → AlikeText s' t' → AlikeText (s ++ s') (t ++ t')
◌then◌ {s} {t} {s'} {t'} a b = record { in_capitals_lem = map-append capital s s' ∙ (λ i. a.in_capitals_lem i ++ b.in_capitals_lem i) ∙ sym (map-append capital t t') }

-- ---- a label as it is printed: no space has another case, so as many are left out at its end
unspaced_capitals : (l : Label) → capitals (unspaced l) ≡ unspaced (capitals l)
unfolding unspaced
unspaced_capitals [] = refl
unspaced_capitals (x ∷ l) = go (blank (x ∷ l)) (unspaced_capitals l) ∙ ap (λ b. cond b [] (capital x ∷ unspaced (capitals l))) (blank_capitals (x ∷ l))
  where
    go : (b : Bool) → capitals (unspaced l) ≡ unspaced (capitals l) → capitals (cond b [] (x ∷ unspaced l)) ≡ cond b [] (capital x ∷ unspaced (capitals l))
    go true e = refl
    go false e = ap (λ m. capital x ∷ m) e

name_upper : (l : Label) → AlikeText (unspaced l) (unspaced (capitals l))
name_upper l = record { in_capitals_lem = sym (capitals_once (unspaced l)) ∙ ap capitals (unspaced_capitals l) }

-- ---- lines: what stands in front is alike, the numbers are the same
phases_alike : {s t : List ℕ} → AlikeText s t → (letter : ℕ) (zss : List (List ℤ)) → AlikeText (phase_lines s letter zss) (phase_lines t letter zss)
unfolding phase_lines line
phases_alike a letter [] = same
phases_alike a letter (zs ∷ more) = a then same then same then phases_alike a (suc letter) more

module _ (q : Asked) where
  open q use {boards, fault}

  abbrev up : Asked
  up = upper_asked q

  board_upper : (l : Label) (r : ℕ) → AlikeText (board_lines l (board_voltages q r) (record_currents q r)) (board_lines (capitals l) (board_voltages up r) (record_currents up r))
  unfolding board_lines three_lines
  board_upper l r =
      rw (sym (voltages_upper q r), sym (currents_upper q r))
      (phases_alike (name_upper l then same) 0x61 (board_voltages q r) then phases_alike (name_upper l then same) 0x61 (record_currents q r))

  boards_upper : (r : ℕ) (bs : Boards) → AlikeText (boards_lines q r bs) (boards_lines up r (uppers bs))
  unfolding boards_lines
  boards_upper r [] = same
  boards_upper r (b ∷ bs) = board_upper b.label r then boards_upper (suc r) bs

  top_upper : AlikeText (top_lines fault (amps q) (the_d q) (fault_currents q)) (top_lines (upper_fault fault) (amps up) (the_d up) (fault_currents up))
  unfolding top_lines fault_line line
  top_upper = rw (sym (amps_upper q), sym (D_upper q), sym (fault_upper q)) (same {s = text "FAULT "} then name_upper fault.label then same then same)

  text_upper : (o : Option Refusal) → AlikeText (text_of o q) (text_of o up)
  unfolding text_of accepted_text
  text_upper none = top_upper then boards_upper 1 boards
  text_upper (some r) = same

-- ---- the theorems: the same text but for the case of letters; of a refusal the very same, for no label stands in it
pub case_printed : {net net' flt flt' : List ℕ} → Retyped in_network net net' → Retyped in_fault flt flt' → capitals (printed net flt) ≡ capitals (printed net' flt')
unfolding printed
case_printed n f = told_alike n f (λ o q. capitals (text_of o q)) (λ o q. (text_upper q o).in_capitals_lem) room

pub case_refused : {net net' flt flt' : List ℕ} → Retyped in_network net net' → Retyped in_fault flt flt' → {r : Refusal} → refusal net flt room ≡ some r
    → printed net flt ≡ printed net' flt'
unfolding printed text_of
case_refused {net} {net'} {flt} {flt'} n f e =
    let told = told_alike n f (λ o q. o) (λ o q. refl) room in
    (λ i. text_of (e i) (asked net flt)) ∙ (λ i. text_of ((sym e ∙ told) i) (asked net' flt'))
