-- The refusal, or the lines above the boards and those of the boards.
use mathlib.Core.List.{List}
use mathlib.Core.Path.{◌≡◌, refl, sym}
use Prim.Native.Nat.{ℕ, ◌≤◌}
use native.Mathlib.Omega.{arith}
use borrow.Author.Rules.{rules}
use lib.ListN.{length}
use Rattle.decimal.specs.declared.Pen.{Pen}
use Rattle.decimal.specs.Writing.{Fits}
use Rattle.decimal.specs.Wrote.{Wrote}
use Rattle.decimal.proofs.Pens.{left_by, left_then, left_last, fits_front, fits_as, writes_as}
use Rattle.text.specs.Text.{printed, text_most}
use Rattle.text.proofs.Most.{printed_most}
use Rattle.text.proofs.Whole.{refused_text_lem, accepted_text_lem, count_is, network_size, fault_size_lem, numbers_fit}
use Rattle.text.proofs.print.Goals as goal

room-all : (net flt : List ℕ) (pen : Pen) → text_most ≤ length pen.out.now → pen.at ≡ 0 → Fits (printed net flt) pen
room-all net flt pen h e = record { room = record { fits = omega (arith, printed_most net flt) } }

pub put_refusal-requires : goal.put_refusal-requires
put_refusal-requires c =
    let net = c.args.net.now in
    let flt = c.args.flt.now in
    let taken = c.if-number-ne0.true in
    fits_as (refused_text_lem net flt c.requires.answer_value taken) (room-all net flt _ c.requires.text_most_in_bounds refl)

pub returns-then-number-ne0 : goal.returns-then-number-ne0
returns-then-number-ne0 c =
    let net = c.args.net.now in
    let flt = c.args.flt.now in
    let taken = c.if-number-ne0.true in
    let w : Wrote 0 (printed net flt) c.args.out.now c.put_refusal.new.pen.out.now c.put_refusal.new.pen.at = (writes_as (sym (refused_text_lem net flt c.requires.answer_value taken)) c.put_refusal.ensures).wrote in
    search rules

pub put_top-requires : goal.put_top-requires
put_top-requires c =
    let net = c.args.net.now in
    let flt = c.args.flt.now in
    let taken = c.if-number-ne0.false in
    record {
      flt_len = fault_size_lem net flt c.requires.answer_value taken;
      in_bounds = omega (arith, numbers_fit net flt c.requires.answer_value taken c.requires.answered);
      room = fits_front _ (fits_as (accepted_text_lem net flt c.requires.answer_value taken c.requires.answered) (room-all net flt _ c.requires.text_most_in_bounds refl));
    }

pub put_boards-requires : goal.put_boards-requires
put_boards-requires c =
    let net = c.args.net.now in
    let flt = c.args.flt.now in
    let taken = c.if-number-ne0.false in
    record {
      n_value = count_is net flt c.requires.answer_value taken;
      net_len = network_size net flt c.requires.answer_value taken;
      n_in_bounds = numbers_fit net flt c.requires.answer_value taken c.requires.answered;
      room = (left_then (left_by (accepted_text_lem net flt c.requires.answer_value taken c.requires.answered) (room-all net flt _ c.requires.text_most_in_bounds refl)) c.put_top.ensures).room;
    }

pub returns : goal.returns
returns c =
    let net = c.args.net.now in
    let flt = c.args.flt.now in
    let taken = c.if-number-ne0.false in
    let w : Wrote 0 (printed net flt) c.args.out.now c.put_boards.new.pen.out.now c.put_boards.new.pen.at = (left_last (left_then (left_by (accepted_text_lem net flt c.requires.answer_value taken c.requires.answered) (room-all net flt _ c.requires.text_most_in_bounds refl)) c.put_top.ensures) c.put_boards.ensures).wrote in
    search rules
