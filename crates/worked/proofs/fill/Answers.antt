use Prim.Native.Nat.{◌+◌, ◌-◌}
use native.Mathlib.Omega.{arith}
use Rattle.lemmas.proofs.Over.{put_over}
use Rattle.worked.specs.Four.{four_of}
use Rattle.worked.proofs.Four.{four_length}
use Rattle.worked.proofs.fill.Goals as goal

pub returns : goal.returns
returns c =
    let a = c.args.a in
    let v = c.args.v in
    put_over a (a + 4 - a) c.args.out.now c.put.new.out (four_of v) c.put.ensures (omega (arith, four_length v))
