-- What each contract of this crate rules out: a call that it allows, and an answer that it does not. Assumes nothing.
use mathlib.Core.Bool.{false, not, cond}
use mathlib.Core.List.{List, [], ◌∷◌, ◌++◌}
use mathlib.Core.Path.{refl}
use Prim.Native.Nat.{ℕ, ◌+◌, ◌*◌}
use native.Mathlib.Omega.{arith}
use lib.Dec.{eqb}
use lib.ListN.{length, replicate}
use base.Fml.{Lft}
use Rattle.lemmas.specs.Table.{tab}
use Rattle.lemmas.proofs.RuledOut.{◌↛◌, RuledOut, ever, by_equation, bool, list, lent}
use Rattle.paper.specs.declared.Ohms.{Ohms}
use Rattle.paper.specs.declared.Head.{Head}
use Rattle.paper.specs.declared.Board.{Board}
use Rattle.paper.specs.declared.Fault.{Fault}
use Rattle.paper.specs.Bytes.{u16_at, bytes_at, within, bytes_open}
use Rattle.paper.specs.Label.{spaces, label_open}
use Rattle.paper.specs.Kind.{ohms}
use Rattle.paper.specs.File.{ohms_at, head_of, board_of, fault_of}
use Rattle.paper.specs.Refusal.{head_ranges}
use Rattle.paper.proofs.Told.{parts}
use Rattle.node.specs.Tables.{empty_board}
use Rattle.file.proofs.field.pair.Reads as pair
use Rattle.file.proofs.field.u16_at.Reads as u16-at
use Rattle.file.proofs.field.in_range.Reads as in_range
use Rattle.file.proofs.field.ohms_at.Reads as ohms-at
use Rattle.file.proofs.field.label_at.Reads as label_at
use Rattle.file.proofs.field.label_in.Reads as label-in
use Rattle.file.proofs.bytes.head_of.Reads as head_of
use Rattle.file.proofs.bytes.board_of.Reads as board_of_call
use Rattle.file.proofs.bytes.fault_of.Reads as fault-of
use Rattle.file.proofs.head.head_wrong.Reads as head-wrong
use Rattle.file.proofs.table.empty_board.Reads as empty-board

-- ---- answers told apart
abbrev of_head : Head → ℕ
of_head h = list (h.volts ∷ h.unit ∷ h.boards ∷ [])

abbrev board_told : Board → ℕ
board_told b = list (b.kind ∷ b.clock ∷ parts b.z1 ++ parts b.z2 ++ parts b.z0 ++ parts b.zn ++ b.label ++ b.feeder)

abbrev of_fault : Fault → ℕ
of_fault f = list (f.kind ∷ f.phase ∷ parts f.zf ++ f.label)

-- ---- n bytes from a place on, where each byte is its place; and what is read of them
abbrev bytes : ℕ → ℕ → List ℕ
bytes i n = tab (λ k. k) i n

abbrev two : ℕ → ℕ
two i = i + 256 * (i + 1)

abbrev four : ℕ → Ohms
four i = ohms (two i) (two (i + 2))

abbrev head : ℕ → ℕ → ℕ → Head
head v u n = record { volts = v; unit = u; boards = n }

abbrev board : ℕ → ℕ → ℕ → Board
board feeder kind clock = record { z1 = four 28; z2 = four 32; z0 = four 36; zn = four 40; label = bytes 2 12; feeder = bytes feeder 12; kind = kind; clock = clock }

abbrev fault : ℕ → ℕ → Fault
fault kind zf = record { zf = four zf; label = bytes 2 12; kind = kind; phase = 15 }

abbrev empty : ℕ → ℕ → Board
empty kind clock = record { z1 = ohms 0 0; z2 = ohms 0 0; z0 = ohms 0 0; zn = ohms 0 0; label = replicate 12 0; feeder = replicate 12 0; kind = kind; clock = clock }

-- ---- the contracts
pub pair_not : RuledOut (pair.Pre tt) (ever (pair.Post tt)) (
    (1, (2, tt)) ↛ 258  -- big_endian
    ∷ (1, (2, tt)) ↛ 511  -- pair_of_255
    ∷ [])
pair_not = by_equation (λ a. a.0 + 256 * a.1.0) (λ n. n) (λ a z e s. s) (tt, (tt, tt)) tt

pub in_range_not : RuledOut (in_range.Pre tt) (ever (in_range.Post tt)) (
    (1, (3, (3, tt))) ↛ false  -- range_without_its_end
    ∷ (1, (3, (1, tt))) ↛ false  -- range_without_its_start
    ∷ [])
unfolding within
in_range_not = by_equation (λ a. within a.0 a.1.0 a.1.1.0) bool (λ a z e s. s) (tt, (tt, tt)) tt

pub head_wrong_not : RuledOut (head-wrong.Pre tt) (ever (head-wrong.Post tt)) (
    (head 230 100 257, tt) ↛ false  -- n_257
    ∷ (head 0 100 1, tt) ↛ false  -- volts_0
    ∷ [])
unfolding head_ranges within
head_wrong_not = by_equation (λ a. not (head_ranges a.0)) bool (λ a z e s. s) (tt, (tt, tt)) tt

pub empty_board_not : RuledOut (empty-board.Pre tt) (ever (empty-board.Post tt)) (
    tt ↛ empty 0 1  -- empty_place_of_clock_1
    ∷ tt ↛ empty 1 0  -- empty_place_of_kind_1
    ∷ [])
empty_board_not = by_equation (λ a. empty_board) board_told (λ a z e s. s) (tt, (tt, tt)) tt

module _ (κ : Lft) where
  pub label_in_not : RuledOut (label-in.Pre (κ, tt)) (ever (label-in.Post (κ, tt))) (
      (lent (bytes 0 19), (20, (2, tt))) ↛ bytes 2 12  -- label_of_a_cut_fault
      ∷ (lent (bytes 0 20), (20, (2, tt))) ↛ replicate 12 32  -- spaces_for_a_label
      ∷ (lent (bytes 0 20), (20, (2, tt))) ↛ bytes 0 12  -- label_from_the_front
      ∷ [])
  unfolding bytes_open label_open
  label_in_not =
      by_equation (λ a. let s = a.0.now in cond (eqb (length s) a.1.0) (bytes_at 12 s a.1.1.0) spaces) list (λ a z e s. s)
      (omega arith, (omega arith, (omega arith, tt))) tt

  pub u16_at_not : RuledOut (u16-at.Pre (κ, tt)) (ever (u16-at.Post (κ, tt))) (
      (lent (1 ∷ 2 ∷ []), (0, tt)) ↛ 258  -- big_endian
      ∷ (lent (1 ∷ 2 ∷ []), (0, tt)) ↛ 257  -- u16_low_byte_twice
      ∷ [])
  u16_at_not = by_equation (λ a. u16_at a.0.now a.1.0) (λ n. n) (λ a z e s. s) (omega arith, (omega arith, tt)) tt

  pub ohms_at_not : RuledOut (ohms-at.Pre (κ, tt)) (ever (ohms-at.Post (κ, tt))) (
      (lent (bytes 0 4), (0, tt)) ↛ ohms (two 2) (two 0)  -- ohms_exchanged
      ∷ (lent (bytes 0 4), (0, tt)) ↛ ohms (two 0) (two 0)  -- ohms_r_twice
      ∷ [])
  ohms_at_not = by_equation (λ a. ohms_at a.0.now a.1.0) (λ z. list (parts z)) (λ a z e s. s) (omega arith, (omega arith, tt)) tt

  pub label_at_not : RuledOut (label_at.Pre (κ, tt)) (ever (label_at.Post (κ, tt))) (
      (lent (bytes 0 12), (0, tt)) ↛ (bytes 0 11 ++ (10 ∷ []))  -- label_last_byte_lost
      ∷ (lent (bytes 0 12), (0, tt)) ↛ (0 ∷ 2 ∷ bytes 2 10)  -- label_second_byte_skipped
      ∷ [])
  unfolding bytes_open
  label_at_not = by_equation (λ a. bytes_at 12 a.0.now a.1.0) list (λ a z e s. s) (omega arith, (omega arith, tt)) tt

  pub head_of_not : RuledOut (head_of.Pre (κ, tt)) (ever (head_of.Post (κ, tt))) (
      (lent (bytes 0 8), tt) ↛ head (two 2) (two 4) (two 4)  -- head_n_is_the_unit
      ∷ (lent (bytes 0 8), tt) ↛ head (two 0) (two 4) (two 6)  -- head_volts_are_the_mark
      ∷ [])
  unfolding head_of
  head_of_not = by_equation (λ a. head_of a.0.now) of_head (λ a z e s. s) (omega arith, (omega arith, tt)) tt

  pub board_of_not : RuledOut (board_of_call.Pre (κ, tt)) (ever (board_of_call.Post (κ, tt))) (
      (lent (bytes 0 44), tt) ↛ board 2 26 27  -- board_feeds_itself
      ∷ (lent (bytes 0 44), tt) ↛ board 14 27 26  -- board_kind_is_the_clock
      ∷ [])
  unfolding board_of bytes_open
  board_of_not = by_equation (λ a. board_of a.0.now) board_told (λ a z e s. s) (refl, (refl, tt)) tt

  pub fault_of_not : RuledOut (fault-of.Pre (κ, tt)) (ever (fault-of.Post (κ, tt))) (
      (lent (bytes 0 20), tt) ↛ fault 15 16  -- fault_kind_is_the_phase
      ∷ (lent (bytes 0 20), tt) ↛ fault 14 14  -- fault_zf_too_early
      ∷ [])
  unfolding fault_of bytes_open
  fault_of_not = by_equation (λ a. fault_of a.0.now) of_fault (λ a z e s. s) (refl, (refl, tt)) tt
