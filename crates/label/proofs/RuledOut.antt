-- What each contract of this crate rules out: a call that it allows, and an answer that it does not. The rows of `letters_then_spaces` are said of its caller `formed`.
-- Assumes nothing.
use Rattle.std.proofs.Common.{Bor, MutBor, ap, ℕ, ◌-◌, true, false, List, [], ◌∷◌, ◌++◌, length, take, replicate, refl, arith}
use lib.Dec.{lit≤}
use base.Fml.{Lft}
use Rattle.lemmas.proofs.RuledOut.{◌↛◌, RuledOut, ever, ends, by, by_equation, bool, list, lent, lent_out}
use Rattle.paper.specs.declared.Ohms.{Ohms}
use Rattle.paper.specs.declared.Board.{Board}
use Rattle.paper.specs.Bytes.{text, same_bytes, bytes_open}
use Rattle.paper.specs.Kind.{ohms}
use Rattle.paper.specs.Label.{spaces, formed, capitals, label_open}
use Rattle.paper.specs.Chain.{look_from}
use Rattle.paper.specs.File.{boards_of, file_open}
use Rattle.paper.proofs.Told.{parts}
use Rattle.label.specs.declared.places.Place.{Place}
use Rattle.label.specs.declared.places.Found.{Found}
use Rattle.follows.specs.Capitals.{board_in_capitals}
use Rattle.label.specs.Places.{no_place, spelt_at, places_with, found_in, places_open}
use Rattle.label.proofs.case.in_capitals.Reads as in_capitals_call
use Rattle.label.proofs.case.board_in_capitals.Reads as board-in-capitals
use Rattle.label.proofs.same_bytes.Reads as same_bytes
use Rattle.label.proofs.is_spaces.Reads as is-spaces
use Rattle.label.proofs.formed.formed.Reads as formed-at
use Rattle.label.proofs.search.labelled.Reads as labelled
use Rattle.label.proofs.search.find.Reads as find
use Rattle.label.proofs.places.find_all.Reads as find-all
use Rattle.label.proofs.places.places_in.Reads as places-in

-- ---- labels: n letters A; one letter; letters with a space at place n; eleven letters and a byte
abbrev letters : ℕ → List ℕ
letters n = replicate n 65 ++ replicate (12 - n) 32

abbrev letter : ℕ → List ℕ
letter c = c ∷ replicate 11 32

abbrev gap : ℕ → List ℕ
gap n = replicate n 65 ++ (32 ∷ replicate (11 - n) 65)

abbrev ending : ℕ → List ℕ
ending c = replicate 11 65 ++ (c ∷ [])

-- ---- a board by two impedances, label and feeder; boards by label and feeder alone, and a table of 256: A, B under A, A under B, C under A; the others are D under A
abbrev board_over : Ohms → Ohms → ℕ → ℕ → Board
board_over z1 z0 l f = record { z1 = z1; z2 = z1; z0 = z0; zn = ohms 0 0; label = letter l; feeder = letter f; kind = 0; clock = 0 }

abbrev board : ℕ → ℕ → Board
board l f = board_over (ohms 0 0) (ohms 0 0) l f

abbrev boards : List Board
boards = board 65 32 ∷ board 66 65 ∷ board 65 66 ∷ board 67 65 ∷ replicate 252 (board 68 65)

-- the same as it may be typed: A, B under a, C under B, b under A; the others are D under A
abbrev typed : List Board
typed = board 65 32 ∷ board 66 97 ∷ board 67 66 ∷ board 98 65 ∷ replicate 252 (board 68 65)

-- ---- 256 places: what there is, by the own places and the feeders', then the same
abbrev place : ℕ → ℕ → Place
place o f = record { own = o; fed = f }

abbrev pairs : List ℕ → List ℕ → List Place
pairs [] fed = []
pairs (o ∷ own) [] = []
pairs (o ∷ own) (f ∷ fed) = place o f ∷ pairs own fed

abbrev places : ℕ → List ℕ → List ℕ → List Place
places rest own fed = pairs own fed ++ replicate (256 - length own) (place rest rest)

abbrev of_places : List Place → List ℕ
of_places [] = []
of_places (p ∷ ps) = p.own ∷ p.fed ∷ of_places ps

-- ---- a network of four records by label and feeder, and what is found in one
abbrev rec : ℕ → ℕ → List ℕ
rec l f = 66 ∷ 68 ∷ letter l ++ letter f ++ replicate 18 0

-- A, B under a, C under B, b under A
abbrev net : List ℕ
net = 72 ∷ 68 ∷ 230 ∷ 0 ∷ 100 ∷ 0 ∷ 4 ∷ 0 ∷ rec 65 32 ++ rec 66 97 ++ rec 67 66 ++ rec 98 65

abbrev found : List ℕ → List ℕ → ℕ → Found
found own fed asked = record { places = places 0 own fed; asked = asked }

-- the four own places and feeders' places as they are, and the place of the label asked for
abbrev answers : ℕ → Found
answers asked = found (1 ∷ 2 ∷ 3 ∷ 2 ∷ []) (0 ∷ 1 ∷ 2 ∷ 1 ∷ []) asked

-- ---- the contracts
pub in_capitals_not : RuledOut (in_capitals_call.Pre tt) (ever (in_capitals_call.Post tt)) (
    (replicate 12 0x61, tt) ↛ (replicate 11 0x41 ++ (0x61 ∷ []))  -- last_byte_left
    ∷ (replicate 12 0x61, tt) ↛ (0x41 ∷ replicate 11 0x61)  -- only_the_first_letter
    ∷ (letter 0x7A, tt) ↛ letter 0x7A  -- z_left_out
    ∷ (letter 0x60, tt) ↛ letter 0x40  -- grave_is_at
    ∷ (letter 0x7B, tt) ↛ letter 0x5B  -- brace_is_bracket
    ∷ (letter 0xE1, tt) ↛ letter 0xC1  -- letters_past_127
    ∷ [])
unfolding label_open bytes_open
in_capitals_not = by_equation (λ a. capitals a.0) list (λ a z e s. s) (tt, (tt, (tt, (tt, (tt, (tt, tt)))))) tt

pub board_in_capitals_not : RuledOut (board-in-capitals.Pre tt) (ever (board-in-capitals.Post tt)) (
    (board 97 98, tt) ↛ board 65 98  -- feeder_as_typed
    ∷ (board 97 98, tt) ↛ board 97 66  -- label_as_typed
    ∷ (board 97 98, tt) ↛ board 66 65  -- labels_exchanged
    ∷ (board_over (ohms 1 2) (ohms 3 4) 97 98, tt) ↛ board 65 66  -- impedances_lost
    ∷ (board_over (ohms 1 2) (ohms 3 4) 97 98, tt) ↛ board_over (ohms 3 4) (ohms 1 2) 65 66  -- impedances_exchanged
    ∷ [])
unfolding label_open bytes_open
board_in_capitals_not =
    by_equation (λ a. board_in_capitals a.0) (λ b. list (b.kind ∷ b.clock ∷ parts b.z1 ++ parts b.z2 ++ parts b.z0 ++ parts b.zn ++ b.label ++ b.feeder)) (λ a z e s. s)
    (tt, (tt, (tt, (tt, (tt, tt))))) tt

pub same_bytes_not : RuledOut (same_bytes.Pre tt) (ever (same_bytes.Post tt)) (
    (letters 0, (letters 1, tt)) ↛ true  -- labels_half_the_same
    ∷ (letters 8, (letters 12, tt)) ↛ true  -- labels_of_eight
    ∷ (letters 11, (letters 12, tt)) ↛ true  -- labels_of_eleven
    ∷ (text "Booth-West-1", (text "BOOTH-WEST-1", tt)) ↛ true  -- bytes_in_either_case
    ∷ (letters 0, (replicate 12 0, tt)) ↛ true  -- zeros_are_spaces
    ∷ (letters 12, (letters 12, tt)) ↛ false  -- never_the_same
    ∷ [])
unfolding bytes_open
same_bytes_not = by_equation (λ a. same_bytes a.0 a.1.0) bool (λ a z e s. s) (tt, (tt, (tt, (tt, (tt, (tt, tt)))))) tt

pub is_spaces_not : RuledOut (is-spaces.Pre tt) (ever (is-spaces.Post tt)) (
    (letters 1, tt) ↛ true  -- spaces_are_anything
    ∷ (replicate 12 0, tt) ↛ true  -- spaces_are_zeros
    ∷ [])
unfolding spaces same_bytes
is_spaces_not = by_equation (λ a. same_bytes a.0 spaces) bool (λ a z e s. s) (tt, (tt, tt)) tt

pub formed_not : RuledOut (formed-at.Pre tt) (ever (formed-at.Post tt)) (
    (letter 0x7F, tt) ↛ true  -- formed_of_0x7f
    ∷ (65 ∷ 32 ∷ replicate 10 65, tt) ↛ true  -- formed_of_a_gap
    ∷ (letters 0, tt) ↛ true  -- formed_of_one_space
    ∷ (gap 3, tt) ↛ true  -- gap_before_byte_4
    ∷ (gap 7, tt) ↛ true  -- gap_before_byte_8
    ∷ (gap 10, tt) ↛ true  -- gap_before_the_last
    ∷ (ending 0xC1, tt) ↛ true  -- formed_by_seven_bits
    ∷ (ending 0x80, tt) ↛ true  -- formed_of_0x80
    ∷ (ending 0x1F, tt) ↛ true  -- formed_of_0x1f
    ∷ (ending 0x7F, tt) ↛ true  -- formed_to_0x7f
    ∷ (letters 12, tt) ↛ false  -- twelve_letters_refused
    ∷ (letters 4, tt) ↛ false  -- spaces_refused
    ∷ (ending 0x7E, tt) ↛ false  -- tilde_refused
    ∷ (ending 0x21, tt) ↛ false  -- exclamation_refused
    ∷ [])
unfolding label_open bytes_open
formed_not = by_equation (λ a. formed a.0) bool (λ a z e s. s) (tt, (tt, (tt, (tt, (tt, (tt, (tt, (tt, (tt, (tt, (tt, (tt, (tt, (tt, tt)))))))))))))) tt

pub labelled_not : RuledOut (labelled.Pre tt) (ever (labelled.Post tt)) (
    (board 65 66, (letter 66, tt)) ↛ true  -- labelled_feeder
    ∷ (board 65 66, (letter 67, tt)) ↛ true  -- labelled_itself
    ∷ (board 65 66, (letter 97, tt)) ↛ true  -- labelled_in_either_case
    ∷ [])
unfolding bytes_open
labelled_not = by_equation (λ a. same_bytes a.1.0 a.0.label) bool (λ a z e s. s) (tt, (tt, (tt, tt))) tt

-- a table that says no place is lent, and left with places
abbrev among : List Board → Bor (List Board) × (MutBor (List Place) × Unit {0})
among bs = (lent bs, (lent_out (replicate 256 no_place), tt))

abbrev among_left : List Board → List Place → Unit {0} × (Bor (List Board) × (MutBor (List Place) × Unit {0}))
among_left bs ps = (tt, (lent bs, (lent_out ps, tt)))

module _ (κ : Lft) where
  pub find_not : RuledOut (find.Pre (κ, tt)) (ever (find.Post (κ, tt))) (
      (lent (take 2 boards), (letter 65, tt)) ↛ 0  -- find_from_second
      ∷ (lent (take 2 boards), (letter 66, tt)) ↛ 1  -- find_counts_from_0
      ∷ (lent (take 3 boards), (letter 65, tt)) ↛ 3  -- find_last
      ∷ (lent (take 2 boards), (letter 67, tt)) ↛ 4  -- lookup_all_256
      ∷ (lent (take 3 boards), (letter 67, tt)) ↛ 4  -- lookup_one_more
      ∷ (lent (take 2 boards), (letter 98, tt)) ↛ 2  -- find_in_either_case
      ∷ [])
  unfolding places_open bytes_open
  find_not =
      by_equation (λ a. spelt_at a.1.0 a.0.now) (λ n. n) (λ a z e s. s)
      (tt, (tt, (tt, (tt, (tt, (tt, tt)))))) tt

  pub find_all_not : RuledOut (find-all.Pre (κ, (κ, tt))) (ends (find-all.Post (κ, (κ, tt)))) (
      among (take 2 boards) ↛ among_left (take 2 boards) (places 0 (0 ∷ 1 ∷ []) (1 ∷ 2 ∷ []))  -- find_all_exchanged
      ∷ among (take 2 boards) ↛ among_left (take 2 boards) (places 0 (0 ∷ 2 ∷ []) (0 ∷ 1 ∷ []))  -- find_all_from_second
      ∷ among (take 2 boards) ↛ among_left (take 2 boards) (places 0 (0 ∷ 1 ∷ []) (0 ∷ 1 ∷ []))  -- find_all_own_of_feeder
      ∷ among (take 2 boards) ↛ among_left (take 2 boards) (places 1 (1 ∷ 2 ∷ []) (0 ∷ 1 ∷ []))  -- find_all_pads_with_1
      ∷ among (take 2 boards) ↛ among_left (take 2 boards) (places_with spelt_at boards)  -- lookup_all_all_256
      ∷ among (take 3 boards) ↛ among_left (take 3 boards) (places 0 (0 ∷ 1 ∷ 2 ∷ []) (1 ∷ 2 ∷ 1 ∷ []))  -- lookup_all_exchanged
      ∷ among (take 4 typed) ↛ among_left (take 4 typed) (places 0 (1 ∷ 2 ∷ 3 ∷ 2 ∷ []) (0 ∷ 0 ∷ 2 ∷ 1 ∷ []))  -- own_in_either_case
      ∷ among (take 4 typed) ↛ among_left (take 4 typed) (places 0 (1 ∷ 2 ∷ 3 ∷ 4 ∷ []) (0 ∷ 1 ∷ 2 ∷ 1 ∷ []))  -- feeder_in_either_case
      ∷ [])
  unfolding places_open bytes_open
  find_all_not =
      by (λ z. list (of_places z.1.1.0.now)) (λ a. list (of_places (places_with spelt_at a.0.now))) (λ a z s. ap (λ p. list (of_places p)) s)
      ((lit≤ tt, refl), ((lit≤ tt, refl), ((lit≤ tt, refl), ((lit≤ tt, refl), ((lit≤ tt, refl), ((lit≤ tt, refl), ((lit≤ tt, refl), ((lit≤ tt, refl), tt)))))))) tt

  pub places_in_not : RuledOut (places-in.Pre (κ, tt)) (ever (places-in.Post (κ, tt))) (
      (lent net, (4, (letter 97, tt))) ↛ answers 0  -- asked_as_typed
      ∷ (lent net, (4, (letter 66, tt))) ↛ answers 4  -- asked_last
      ∷ (lent net, (4, (letter 66, tt))) ↛ answers 1  -- asked_from_0
      ∷ (lent net, (4, (spaces, tt))) ↛ answers 1  -- asked_of_spaces
      ∷ (lent net, (4, (replicate 12 0, tt))) ↛ answers 5  -- all_256_searched
      ∷ (lent net, (4, (letter 65, tt))) ↛ found (1 ∷ 2 ∷ 3 ∷ 4 ∷ []) (0 ∷ 1 ∷ 2 ∷ 1 ∷ []) 1  -- own_as_typed
      ∷ (lent net, (4, (letter 65, tt))) ↛ found (1 ∷ 2 ∷ 3 ∷ 2 ∷ []) (0 ∷ 0 ∷ 2 ∷ 1 ∷ []) 1  -- feeder_as_typed
      ∷ (lent net, (4, (letter 65, tt))) ↛ found (0 ∷ 1 ∷ 2 ∷ 1 ∷ []) (1 ∷ 2 ∷ 3 ∷ 2 ∷ []) 1  -- places_exchanged
      ∷ (lent net, (4, (letter 65, tt))) ↛ found (1 ∷ 2 ∷ 3 ∷ 4 ∷ []) (0 ∷ 1 ∷ 2 ∷ 4 ∷ []) 1  -- one_board_less
      ∷ [])
  unfolding places_open look_from label_open bytes_open file_open
  places_in_not =
      by_equation (λ a. found_in (boards_of a.0.now) a.1.1.0) (λ f. list (f.asked ∷ of_places f.places)) (λ a z e s. s)
      ((refl, omega arith, refl), ((refl, omega arith, refl), ((refl, omega arith, refl), ((refl, omega arith, refl), ((refl, omega arith, refl), ((refl, omega arith, refl), ((refl, omega arith, refl), ((refl, omega arith, refl), ((refl, omega arith, refl), tt))))))))) tt
