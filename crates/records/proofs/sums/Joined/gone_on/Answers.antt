use Rattle.records.proofs.Zero.{term_small}
use Rattle.records.proofs.sums.Joined.gone_on.Goals as goal

pub plus-requires : goal.plus-requires
plus-requires c = (term_small c.args.self.b c.args.self.own_small c.zero_term.ensures, c.args.self.up_small.up0)
