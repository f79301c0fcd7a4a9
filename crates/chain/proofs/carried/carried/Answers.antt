use Rattle.chain.specs.Carried.{carried_of}
use Rattle.chain.proofs.carried.carried.Goals as goal

-- `chain::carried::carried` meets its contract. Assumes nothing.
pub returns : goal.returns
unfolding carried_of
returns c = λ i. record { s1 = c.only_if.ensures i; s2 = c.only_if-2.ensures i; s0 = c.only_if-3.ensures i }
