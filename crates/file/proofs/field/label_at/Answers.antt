use mathlib.Core.Path.{◌≡◌, sym, ◌∙◌, ap}
use Prim.Native.Nat.{ℕ, ◌+◌, ◌-◌}
use native.Mathlib.Omega.{arith}
use lib.ListN.{take, drop}
use Rattle.std.specs.Array.{IsWholeChunk}
use Rattle.std.proofs.lemmas.Result.{MatchResult-at_ok}
use Rattle.follows.proofs.Spelt.{part_bytes}
use Rattle.file.proofs.field.label_at.Goals as goal

pub returns : goal.returns
returns c =
    let s = c.args.s.now in
    let i = c.args.i in
    let whole : IsWholeChunk (take (i + 12 - i) (drop i s)) c.unwrap.result 12 = MatchResult-at_ok _ _ _ c.unwrap.ensures c.try_from.ensures.1 in
    let twelve : i + 12 - i ≡ 12 = omega arith in
    whole.same ∙ ap (λ (n : ℕ). take n (drop i s)) twelve ∙ sym (part_bytes 12 i s (omega arith))
