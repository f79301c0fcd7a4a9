use mathlib.Core.Path.{sym, ◌∙◌}
use Prim.Native.Nat.{◌<◌}
use native.Mathlib.Omega.{arith}
use borrow.Author.Rules.{rules}
use lib.IntN.{pos}
use lib.ListN.{length-set, get_or}
use mir.Syntax.{w64}
use mir.Val.{SFits}
use mir.Facts.{to_z-of_z}
use Rattle.lemmas.proofs.Over.{copy_one, copied}
use Rattle.worked.specs.Four.{four_of}
use Rattle.worked.proofs.Four.{four_at, four_length}
use Rattle.worked.proofs.put.Goals as goal

pub loop-k-preserved : goal.loop-k-preserved
loop-k-preserved c =
    let k = c.loop-k.k in
    let inv = c.loop-k.invariant in
    let v = c.args.v in
    let out = c.args.out.now in
    let lt : k < 4 = omega arith in
    let fit : SFits w64 (get_or v k (pos 0)) = search rules in (
      omega arith,
      copy_one (pos 0) out (four_of v) _ k _ (omega arith) (omega (arith, four_length v)) inv.1 (to_z-of_z fit ∙ sym (four_at v k lt)),
      simp length-set inv.2,
    )

pub returns : goal.returns
returns c =
    let l = c.loop-k in
    l.invariant.1 ∙ copied c.args.out.now (four_of c.args.v) l.k (omega arith) (omega (arith, four_length c.args.v))
