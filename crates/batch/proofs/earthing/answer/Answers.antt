-- What is said, the part that it names shown, and all laid down.
use Rattle.std.proofs.Common.{length, arith, sym, ◌∙◌, ap, subst}
use Rattle.paper.specs.declared.Part.{Part}
use Rattle.paper.specs.Return.{Said, said}
use Rattle.stream.proofs.Pieces.{said_length}
use Rattle.verdict.specs.Said.{part_said}
use Rattle.verdict.specs.Shown.{Within}
use Rattle.verdict.proofs.Parts.{lent_bytes, shown_most}
use Rattle.verdict.proofs.Within.{within_said}
use Rattle.batch.proofs.earthing.answer.Goals as goal

pub shown-bytes-requires : goal.shown-bytes-requires
shown-bytes-requires c =
    let e = c.part_said-part.ensures ∙ ap (λ (s : Said). part_said s.shown) c.earth-given.ensures in
    subst (λ (p : Part). Within p c.args.net.now c.args.label.now) (sym e) (within_said c.args.net.now c.args.label.now)

pub put_said-requires : goal.put_said-requires
put_said-requires c =
    let q = c.part_said-part.result in
    record { room = record { fits = omega (arith, said_length (said c.earth-given.result) c.shown-bytes.result.now, ap length (lent_bytes q.whose c.args.net c.args.label c.shown-bytes.ensures), shown_most q c.args.net.now c.args.label.now {m = 16400} c.requires.net_len_bound (omega arith), c.requires.in_bounds) } }

pub returns-clause-upper_bound : goal.returns-clause-upper_bound
returns-clause-upper_bound c =
    let q = c.part_said-part.result in
    omega (arith, c.put_said.ensures.wrote.behind, said_length (said c.earth-given.result) c.shown-bytes.result.now, ap length (lent_bytes q.whose c.args.net c.args.label c.shown-bytes.ensures), shown_most q c.args.net.now c.args.label.now {m = 16400} c.requires.net_len_bound (omega arith), c.requires.in_bounds)
