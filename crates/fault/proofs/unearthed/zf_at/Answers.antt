use borrow.Author.Rules.{rules}
use Rattle.fault.specs.Kinds.{number_of}
use Rattle.fault.proofs.unearthed.zf_at.Goals as goal

-- `fault::unearthed::zf_at` meets its contract. Assumes nothing.
pub returns-in-TwoToEarth : goal.returns-in-TwoToEarth
unfolding number_of
returns-in-TwoToEarth c = rw (c.if-not-earthed.true, c.in-TwoToEarth.is)

pub returns-in_default-2 : goal.returns-in_default-2
unfolding number_of
returns-in_default-2 c = search rules
