-- 02, R-1, the theorems beside the contract of `write` (which is `write_verdict` and `write_leaves`). Assumes nothing.
--     1 read_back       "Reading what was written gives the same boards"
--     2 written_again   "writing what was read gives the same bytes"
--     3 refused_alike   "The writer refuses .. exactly the boards whose file the reader would refuse", with its number and place (in Alike.antt); too_many, where no file could say so many
--     4 nothing_written, behind_kept, as_long   "A refusal writes nothing, and bytes after the file keep their values."
use mathlib.Core.Bool.{false, not}
use mathlib.Core.List.{List, [], ◌∷◌, ◌++◌}
use mathlib.Core.Option.{Option, none, some}
use mathlib.Core.Path.{◌≡◌, refl, sym, ◌∙◌, ap, subst}
use Prim.Native.Nat.{ℕ, ◌≤◌, ◌<◌}
use native.Mathlib.Omega.{arith}
use lib.ListN.{length, take, drop, length-append, length-drop}
use lib.Seq.{take_at, drop_at}
use borrow.Author.Tests.{le-ltb, ltb-false, not-false}
use Rattle.paper.specs.declared.Head.{Head}
use Rattle.paper.specs.declared.Refusal.{Refusal}
use Rattle.paper.specs.Rows.{row, first}
use Rattle.paper.specs.File.{head_of, file_size, boards_of}
use Rattle.paper.specs.Chain.{Boards}
use Rattle.paper.specs.Refusal.{head_ranges, no_part, boards_rows, network_rows, network_refusal}
use Rattle.paper.specs.Write.{room_rows, head_for, file_of, write_rows, write_refusal, write_answer, write_verdict, fills, write_leaves}
use Rattle.lemmas.proofs.Bools.{untrue}
use Rattle.follows.proofs.Rows.{clear, behind, both_none}
use Rattle.follows.proofs.Accepted.{HeadRanges, head_ranges_lem, Network, accepted_network_lem}
use Rattle.writer.specs.RoundTrip.{AllTyped, Bytes, ReadBack, unshown}
use Rattle.writer.proofs.File.{file_long, file_head, file_boards}
use Rattle.writer.proofs.Alike.{unshown_none, refused_alike}
use Rattle.writer.proofs.Again.{read_typed, file_again}

module _ (volts unit : ℕ) (bs : Boards) where
  -- ---- 3, of so many boards that no file could say so
  pub too_many : (room : ℕ) → 256 < length bs → write_refusal volts unit bs room ≡ some (record { part = no_part; place = 0; number = 3 })
  unfolding write_rows first
  too_many room h = rw (untrue (head_ranges (head_for volts unit bs)) (λ t. let n = (head_ranges_lem (head_for volts unit bs) t).boards_range.1 in omega arith)) refl

  -- ---- 4
  module _ (out : List ℕ) where
    pub nothing_written : {r : Refusal} → write_refusal volts unit bs (length out) ≡ some r → write_leaves volts unit bs out ≡ out
    unfolding write_leaves fills
    nothing_written e = ap (λ (o : Option Refusal). fills o (file_of volts unit bs) out) e

    module _ (t : AllTyped bs) (e : write_refusal volts unit bs (length out) ≡ none) where
      abbrev len : ℕ
      len = (write_verdict volts unit bs (length out)).len

      len_is : len ≡ file_size (length bs)
      unfolding write_verdict write_answer
      len_is = ap (λ (o : Option Refusal). (write_answer o (length bs)).len) e

      written_is : write_leaves volts unit bs out ≡ file_of volts unit bs ++ drop len out
      unfolding write_leaves fills
      written_is = ap (λ (o : Option Refusal). fills o (file_of volts unit bs) out) e ∙ ap (λ (n : ℕ). file_of volts unit bs ++ drop n out) (file_long volts unit bs t ∙ sym len_is)

      pub behind_kept : drop len (write_leaves volts unit bs out) ≡ drop len out
      behind_kept = ap (drop len) written_is ∙ drop_at (file_of volts unit bs) (drop len out) len (file_long volts unit bs t ∙ sym len_is)

      -- the buffer is long enough, and as long as it was
      tests : (not (head_ranges (head_for volts unit bs)) ≡ false) × (len ≤ length out)
      unfolding write_rows
      tests =
          let (e3, later) = both_none (row 3 (not (head_ranges (head_for volts unit bs))) 0 no_part ∷ []) (boards_rows [] bs ++ room_rows (length bs) (length out)) e in
          let (e6, e20) = both_none (boards_rows [] bs) (room_rows (length bs) (length out)) later in
          let (c3, _) = clear (row 3 (not (head_ranges (head_for volts unit bs))) 0 no_part ∷ []) e3 in
          let (c20, _) = clear (room_rows (length bs) (length out)) e20 in
          (c3, omega (arith, len_is, ltb-false (length out) (file_size (length bs)) c20))

      pub as_long : length (write_leaves volts unit bs out) ≡ length out
      as_long = ap length written_is ∙ length-append (file_of volts unit bs) (drop len out) ∙ omega (arith, file_long volts unit bs t, len_is, length-drop len out, tests.1)

      -- ---- 1
      in_ranges : HeadRanges (head_for volts unit bs)
      in_ranges = head_ranges_lem (head_for volts unit bs) (not-false (head_ranges (head_for volts unit bs)) tests.0)

      written_file : take len (write_leaves volts unit bs out) ≡ file_of volts unit bs
      written_file = ap (take len) written_is ∙ take_at (file_of volts unit bs) (drop len out) len (file_long volts unit bs t ∙ sym len_is)

      pub read_back : ReadBack volts unit bs (take len (write_leaves volts unit bs out))
      read_back =
          let v : volts ≤ 65535 = omega (arith, in_ranges.volts_range.1) in
          let u : unit ≤ 65535 = omega (arith, in_ranges.unit_range.1) in
          let n : length bs ≤ 65535 = omega (arith, in_ranges.boards_range.1) in
          subst (ReadBack volts unit bs) (sym written_file)
          (record {
            accepted = (both_none (network_rows (file_of volts unit bs)) (room_rows (length bs) (length out)) (unshown_none _ (sym (refused_alike volts unit bs t v u n (length out)) ∙ e))).0;
            same_head = file_head volts unit bs t v u n;
            same_boards = file_boards volts unit bs t v u n;
          })

-- ---- 2
module _ (net out : List ℕ) (b : Bytes net) (e : network_refusal net ≡ none) where
  abbrev h : Head
  h = head_of net

  network : Network net
  network = accepted_network_lem net e

  -- of the rules 20 alone may refuse it
  only_20 : (room : ℕ) → write_refusal h.volts h.unit (boards_of net) room ≡ unshown (first (room_rows (length (boards_of net)) room))
  only_20 room =
      refused_alike h.volts h.unit (boards_of net) (read_typed net b e) (omega (arith, network.head_in.volts_range.1)) (omega (arith, network.head_in.unit_range.1)) (omega (arith, network.head_in.boards_range.1, network.count)) room
      ∙ ap (λ (s : List ℕ). unshown (first (network_rows s ++ room_rows (length (boards_of net)) room))) (file_again net b e)
      ∙ ap unshown (behind (network_rows net) (room_rows (length (boards_of net)) room) e)

  size : length net ≡ file_size (length (boards_of net))
  size = network.size ∙ ap file_size (sym network.count)

  module _ (room : length net ≤ length out) where
    taken : write_refusal h.volts h.unit (boards_of net) (length out) ≡ none
    unfolding first unshown
    taken = only_20 (length out) ∙ rw (le-ltb (length out) (file_size (length (boards_of net))) (omega (arith, size))) refl

    pub written_again : (write_verdict h.volts h.unit (boards_of net) (length out) ≡ record { part = no_part; len = length net; place = 0; number = 0 }) × (write_leaves h.volts h.unit (boards_of net) out ≡ net ++ drop (length net) out)
    unfolding write_verdict write_answer write_leaves fills
    written_again = (
      ap (λ (o : Option Refusal). write_answer o (length (boards_of net))) taken ∙ (λ i. record { part = no_part; len = sym size i; place = 0; number = 0 }),
      ap (λ (o : Option Refusal). fills o (file_of h.volts h.unit (boards_of net)) out) taken ∙ ap (λ (s : List ℕ). s ++ drop (length s) out) (file_again net b e),
    )
