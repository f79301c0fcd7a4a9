-- What contracts of this program rule out: room for fewer bytes than it is to read. Assumes nothing.
use mathlib.Core.List.{[], ◌∷◌}
use mathlib.Core.Path.{sym}
use lib.ListN.{length, replicate}
use Rattle.lemmas.proofs.RuledOut.{◌↛◌, RuledOut, ever, by}
use Rattle.short.specs.Limits.{fault_most}
use Rattle.short.proofs.fault_space.Reads as fault-space

pub fault_space_not : RuledOut (fault-space.Pre tt) (ever (fault-space.Post tt)) (
    tt ↛ replicate 20 0  -- fault_of_20
    ∷ tt ↛ replicate 22 0  -- fault_of_22
    ∷ [])
fault_space_not = by length (λ a. fault_most) (λ a z s. sym s.1) (tt, (tt, tt)) tt
