-- What each contract of this crate rules out: a call that it allows, and an answer that it does not. Assumes nothing.
use mathlib.Core.Bool.{true, false}
use mathlib.Core.List.{[], ◌∷◌}
use Prim.Native.Nat.{ℕ, ◌+◌}
use lib.ListN.{replicate}
use Rattle.paper.specs.declared.Ohms.{Ohms}
use Rattle.paper.specs.declared.Board.{Board}
use Rattle.paper.specs.Bytes.{one_of, within}
use Rattle.paper.specs.Kind.{ohms, ◌+Ω◌, thrice, is_zero, same_ohms, part_over, kinds, known, kind_of, stands_at, holds, all_hold, term, zero_term}
use Rattle.paper.proofs.Told.{parts, small}
use Rattle.paper.specs.Refusal.{kind_wrong, impedance_wrong, z1_forgotten}
use Rattle.kind.specs.Named.{number_of, named}
use Rattle.kind.specs.Zero.{zero_word}
use Rattle.kind.specs.declared.Kind.{Kind}
use Rattle.kind.specs.declared.Kind.TheVariants.{Source, DeltaStar, Blocking}
use Rattle.kind.specs.declared.UnknownKind.{UnknownKind}
use Rattle.kind.specs.declared.zero.ZeroWord.{ZeroWord}
use Rattle.kind.specs.declared.zero.ZeroWord.TheVariants.{Starts, GoesOn, Blocked}
use Rattle.lemmas.proofs.RuledOut.{◌↛◌, RuledOut, ever, by_equation, bool, list}
use Rattle.std.specs.Prelude.{Result, Ok, Err}
use Rattle.kind.proofs.KindTryFromU8.try_from.Reads as try-from
use Rattle.kind.proofs.impedance.over.Reads as over
use Rattle.kind.proofs.clock.kind_wrong.Reads as kind_wrong_call
use Rattle.kind.proofs.must_hold.impedance_wrong.Reads as impedance-wrong
use Rattle.kind.proofs.forgotten.z1_forgotten.Reads as z1-forgotten
use Rattle.kind.proofs.zero.zero_word.Reads as zero_word
use Rattle.kind.proofs.zero.zero_term.Reads as zero-term

-- ---- answers told apart
abbrev kind_told : Result Kind UnknownKind → ℕ
kind_told (Ok k) = 1 + number_of k
kind_told (Err u) = 0

abbrev word : ZeroWord → ℕ
word Starts = 0
word GoesOn = 1
word Blocked = 2

-- ---- boards: kind and clock; kind and impedances
abbrev board : ℕ → ℕ → Ohms → Ohms → Ohms → Ohms → Board
board k c z1 z2 z0 zn = record { z1 = z1; z2 = z2; z0 = z0; zn = zn; label = replicate 12 32; feeder = replicate 12 32; kind = k; clock = c }

abbrev none : Ohms
none = ohms 0 0

abbrev one : Ohms
one = ohms 1 1

abbrev turned : ℕ → ℕ → Board
turned k c = board k c one one none none

-- ---- the contracts
pub try_from_not : RuledOut (try-from.Pre tt) (ever (try-from.Post tt)) (
    (6, tt) ↛ Ok Blocking  -- kind_6_blocks
    ∷ (5, tt) ↛ Err (record { 0 = 5 })  -- five_kinds
    ∷ (1, tt) ↛ Ok Source  -- floating_taken_for_earthed
    ∷ (3, tt) ↛ Ok DeltaStar  -- star_star_taken_for_delta_star
    ∷ [])
try_from_not = by_equation (λ a. named a.0) kind_told (λ a z e s. s) (tt, (tt, (tt, (tt, tt)))) tt

pub over_not : RuledOut (over.Pre tt) (ever (over.Post tt)) (
    (4095, (ohms 4095 0, tt)) ↛ true  -- over_at_the_most
    ∷ (4095, (ohms 4096 0, tt)) ↛ false  -- over_in_both
    ∷ [])
unfolding part_over
over_not = by_equation (λ a. part_over a.0 a.1.0) bool (λ a z e s. s) (tt, (tt, tt)) tt

pub kind_wrong_not : RuledOut (kind_wrong_call.Pre tt) (ever (kind_wrong_call.Post tt)) (
    (2, (turned 5 12, tt)) ↛ false  -- clock_12
    ∷ (2, (turned 4 2, tt)) ↛ false  -- clock_even_in_delta
    ∷ (2, (turned 6 0, tt)) ↛ false  -- kind_6
    ∷ (1, (turned 2 0, tt)) ↛ false  -- kind_cable_first
    ∷ (2, (turned 1 0, tt)) ↛ false  -- kind_source_later
    ∷ [])
unfolding kind_wrong known kind_of kinds stands_at one_of
kind_wrong_not = by_equation (λ a. kind_wrong a.0 a.1.0) bool (λ a z e s. s) (tt, (tt, (tt, (tt, (tt, tt))))) tt

pub impedance_wrong_not : RuledOut (impedance-wrong.Pre tt) (ever (impedance-wrong.Post tt)) (
    (board 2 0 one one one one, tt) ↛ false  -- cable_with_zn
    ∷ (board 3 0 (ohms 4096 0) (ohms 4096 0) one one, tt) ↛ false  -- part_of_4096
    ∷ (board 3 0 one one one (ohms 4096 0), tt) ↛ false  -- part_of_zn_untested
    ∷ (board 0 0 none one one none, tt) ↛ false  -- source_of_nothing
    ∷ (board 0 0 (ohms 0 20) (ohms 0 11) one none, tt) ↛ true  -- source_z1_is_z2
    ∷ [])
unfolding impedance_wrong part_over kind_of kinds all_hold holds is_zero same_ohms
impedance_wrong_not = by_equation (λ a. impedance_wrong a.0) bool (λ a z e s. s) (tt, (tt, (tt, (tt, (tt, tt))))) tt

pub z1_forgotten_not : RuledOut (z1-forgotten.Pre tt) (ever (z1-forgotten.Post tt)) (
    (board 2 0 none none one none, tt) ↛ true  -- forgotten_in_a_cable
    ∷ (board 0 0 none one one none, tt) ↛ true  -- forgotten_in_a_source
    ∷ (board 1 0 none one none none, tt) ↛ true  -- forgotten_in_an_unearthed_source
    ∷ (board 6 0 none none one one, tt) ↛ true  -- forgotten_in_kind_6
    ∷ (board 3 0 none none one one, tt) ↛ false  -- forgotten_from_kind_4
    ∷ (board 4 1 none none one one, tt) ↛ false  -- forgotten_but_not_in_delta
    ∷ (board 5 0 none none none none, tt) ↛ false  -- forgotten_to_kind_4
    ∷ (board 3 0 (ohms 0 1) (ohms 0 1) one one, tt) ↛ true  -- forgotten_by_r_alone
    ∷ (board 3 0 (ohms 1 0) (ohms 1 0) one one, tt) ↛ true  -- forgotten_by_x_alone
    ∷ (board 3 0 none one one one, tt) ↛ false  -- forgotten_only_with_z2
    ∷ (board 3 0 one none one one, tt) ↛ true  -- forgotten_by_z2
    ∷ (board 3 0 one one none one, tt) ↛ true  -- forgotten_by_z0
    ∷ [])
unfolding z1_forgotten within is_zero
z1_forgotten_not = by_equation (λ a. z1_forgotten a.0) bool (λ a z e s. s) (tt, (tt, (tt, (tt, (tt, (tt, (tt, (tt, (tt, (tt, (tt, (tt, tt)))))))))))) tt

pub zero_word_not : RuledOut (zero_word.Pre tt) (ever (zero_word.Post tt)) (
    (1, tt) ↛ GoesOn  -- blocked_goes_on
    ∷ (2, tt) ↛ Starts  -- goes_on_is_starts
    ∷ (4, tt) ↛ GoesOn  -- through_delta
    ∷ [])
unfolding kind_of kinds zero_word
zero_word_not = by_equation (λ a. zero_word (kind_of a.0).zero_seq) word (λ a z e s. s) (tt, (tt, (tt, tt))) tt

pub zero_term_not : RuledOut (zero-term.Pre tt) (ever (zero-term.Post tt)) (
    (board 2 0 one one one one, tt) ↛ ohms 4 4  -- term_of_a_cable_with_zn
    ∷ (board 1 0 one one one none, tt) ↛ one  -- term_where_none
    ∷ (board 0 0 one one none one, tt) ↛ one  -- zn_once
    ∷ [])
unfolding kind_of kinds zero_term term ◌+Ω◌ thrice
zero_term_not = by_equation (λ a. zero_term (kind_of a.0.kind).zero_seq a.0) (λ z. list (parts z)) (λ a z e s. s) ((small tt, small tt), ((small tt, small tt), ((small tt, small tt), tt))) tt
