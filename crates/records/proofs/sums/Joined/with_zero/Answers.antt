use Rattle.records.proofs.Zero.{node_starts, node_on, node_blocked}
use Rattle.records.proofs.sums.Joined.with_zero.Goals as goal

pub returns-in-Starts : goal.returns-in-Starts
returns-in-Starts c =
    let s = c.args in
    node_starts s.n s.self.b s.r s.self.up c.zero_word.ensures c.in-Starts.is c.zero_term.ensures

pub returns-in-GoesOn : goal.returns-in-GoesOn
returns-in-GoesOn c =
    let s = c.args in
    node_on s.n s.self.b s.r s.self.up c.zero_word.ensures c.in-GoesOn.is c.gone_on.ensures

pub returns-in-Blocked : goal.returns-in-Blocked
returns-in-Blocked c =
    let s = c.args in
    node_blocked s.n s.self.b s.r s.self.up c.zero_word.ensures c.in-Blocked.is
