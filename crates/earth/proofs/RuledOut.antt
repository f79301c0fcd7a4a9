-- What a contract of this program rules out: room for another number of bytes than it is to read. Assumes nothing.
use mathlib.Core.List.{[], ◌∷◌}
use mathlib.Core.Path.{sym}
use lib.ListN.{length, replicate}
use Rattle.lemmas.proofs.RuledOut.{◌↛◌, RuledOut, ever, by}
use Rattle.earth.specs.Limits.{label_most}
use Rattle.earth.proofs.label_space.Reads as label-space

pub label_space_not : RuledOut (label-space.Pre tt) (ever (label-space.Post tt)) (
    tt ↛ replicate 12 0  -- label_of_12
    ∷ tt ↛ replicate 14 0  -- label_of_14
    ∷ [])
label_space_not = by length (λ a. label_most) (λ a z s. sym s.1) (tt, (tt, tt)) tt
