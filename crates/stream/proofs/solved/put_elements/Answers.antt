use native.Mathlib.Omega.{arith}
use borrow.Author.Rules.{rules}
use lib.IntN.{pos}
use lib.ListN.{get_or}
use mir.Syntax.{w64}
use mir.Val.{SFits}
use Rattle.decimal.proofs.Pens.{left_as, left_then, left_none, fits_front}
use Rattle.stream.proofs.Pieces.{next_element, no_element}
use Rattle.stream.proofs.solved.put_elements.Goals as goal

pub returns : goal.returns
returns c =
    let l = c.loop-z in
    left_none (left_as (no_element c.args.zs.now l.z-index (omega arith)) l.invariant)

pub loop-z-preserved : goal.loop-z-preserved
loop-z-preserved c =
    let l = c.loop-z in
    let fit : SFits w64 (get_or c.args.zs.now l.z-index (pos 0)) = search rules in
    left_then (left_as (next_element c.args.zs.now l.z-index (omega arith) fit c.word.ensures) l.invariant) c.little.ensures

pub little-requires : goal.little-requires
little-requires c =
    let l = c.loop-z in
    let fit : SFits w64 (get_or c.args.zs.now l.z-index (pos 0)) = search rules in
    fits_front _ (left_as (next_element c.args.zs.now l.z-index (omega arith) fit c.word.ensures) l.invariant).room
