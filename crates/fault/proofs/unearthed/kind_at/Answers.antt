use borrow.Author.Rules.{rules}
use Rattle.fault.specs.Kinds.{number_of}
use Rattle.fault.proofs.unearthed.kind_at.Goals as goal

-- `fault::unearthed::kind_at` meets its contract. Assumes nothing.
pub returns-in-OneToEarth : goal.returns-in-OneToEarth
unfolding number_of
returns-in-OneToEarth c = rw (c.if-not-earthed.true, c.in-OneToEarth.is)

pub returns-in-TwoToEarth : goal.returns-in-TwoToEarth
unfolding number_of
returns-in-TwoToEarth c = rw (c.if-not-earthed-2.true, c.in-TwoToEarth.is)

-- clear of earth it stays as it is
pub returns-in_default-3 : goal.returns-in_default-3
unfolding number_of
returns-in_default-3 c = search rules
