use mathlib.Core.Path.{◌≡◌, sym, ◌∙◌}
use Prim.Native.Nat.{◌<◌}
use native.Mathlib.Omega.{arith}
use lib.IntN.{pos}
use lib.ListN.{length}
use Rattle.lemmas.proofs.Over.{copy_one, copied}
use Rattle.lemmas.proofs.Words.{signed}
use Rattle.stream.specs.Case.{marks}
use Rattle.stream.proofs.Marks.{marks_length, mark_at_lem}
use Rattle.stream.proofs.case.mark.Goals as goal

pub loop-i-preserved : goal.loop-i-preserved
loop-i-preserved c =
    let i = c.loop-i.i in
    let old = c.args.buffer.now in
    let lt : i < length old = omega arith in
    copy_one (pos 0) old (marks (length old)) _ i _ lt (omega (arith, marks_length (length old))) c.loop-i.invariant (signed _ (omega (arith, c.requires)) ∙ sym (mark_at_lem (length old) i lt))

pub returns : goal.returns
returns c =
    let l = c.loop-i in
    let old = c.args.buffer.now in
    let all : l.i ≡ length old = omega arith in
    l.invariant ∙ copied old (marks (length old)) l.i (sym all) (marks_length (length old) ∙ sym all)
