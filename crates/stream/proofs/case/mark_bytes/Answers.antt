use mathlib.Core.Path.{◌≡◌, sym, ◌∙◌}
use Prim.Native.Nat.{◌<◌}
use native.Mathlib.Omega.{arith}
use lib.ListN.{length}
use Rattle.lemmas.proofs.Over.{copy_one, copied}
use Rattle.stream.specs.Case.{byte_marks}
use Rattle.stream.proofs.Marks.{byte_marks_length, byte_mark_at_lem}
use Rattle.stream.proofs.case.mark_bytes.Goals as goal

pub loop-i-preserved : goal.loop-i-preserved
loop-i-preserved c =
    let i = c.loop-i.i in
    let old = c.args.out.now in
    let lt : i < length old = omega arith in
    copy_one 0 old (byte_marks (length old)) _ i _ lt (omega (arith, byte_marks_length (length old))) c.loop-i.invariant (byte_mark_at_lem (length old) i lt)

pub returns : goal.returns
returns c =
    let l = c.loop-i in
    let old = c.args.out.now in
    let all : l.i ≡ length old = omega arith in
    l.invariant ∙ copied old (byte_marks (length old)) l.i (sym all) (byte_marks_length (length old) ∙ sym all)
