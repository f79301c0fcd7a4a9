use native.Mathlib.Omega.{arith}
use borrow.Author.Rules.{rules}
use lib.IntN.{pos}
use lib.ListN.{get_or}
use mir.Syntax.{w64}
use mir.Val.{SFits}
use Rattle.decimal.proofs.Pieces.{next_number, no_number}
use Rattle.decimal.proofs.Pens.{left_all, left_as, left_then, left_last, fits_front}
use Rattle.decimal.proofs.Pen.row.Goals as goal

pub loop-z-init : goal.loop-z-init
loop-z-init c = left_all (left_then (left_all c.requires) c.byte.ensures).room

pub number-requires : goal.number-requires
number-requires c =
    let fit : SFits w64 (get_or c.args.zs.now c.loop-z.z-index (pos 0)) = search rules in
    fits_front _ (left_as (next_number c.args.zs.now c.loop-z.z-index (omega arith) fit) c.loop-z.invariant).room

pub loop-z-preserved : goal.loop-z-preserved
loop-z-preserved c =
    let fit : SFits w64 (get_or c.args.zs.now c.loop-z.z-index (pos 0)) = search rules in
    left_then (left_as (next_number c.args.zs.now c.loop-z.z-index (omega arith) fit) c.loop-z.invariant) c.number.ensures

pub byte-requires-2 : goal.byte-requires-2
byte-requires-2 c = (left_as (no_number c.args.zs.now c.loop-z.z-index (omega arith)) c.loop-z.invariant).room

pub returns : goal.returns
returns c =
    left_last (left_then (left_all c.requires) c.byte.ensures) (left_last (left_as (no_number c.args.zs.now c.loop-z.z-index (omega arith)) c.loop-z.invariant) c.byte-2.ensures)
