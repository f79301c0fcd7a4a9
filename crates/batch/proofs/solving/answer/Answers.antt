-- The marked buffer answered, the part that the answer names shown, and all laid down.
use Rattle.std.proofs.Common.{length, arith, sym, ap, subst}
use Rattle.paper.specs.declared.Answer.{Answer}
use Rattle.stream.proofs.Pieces.{bytes_length}
use Rattle.verdict.specs.Shown.{Within}
use Rattle.verdict.proofs.Parts.{lent_bytes, shown_most}
use Rattle.verdict.proofs.Within.{within}
use Rattle.batch.proofs.solving.answer.Goals as goal

pub shown-bytes-requires : goal.shown-bytes-requires
shown-bytes-requires c = subst (λ (a : Answer). Within a.part c.args.net.now c.args.flt.now) (sym c.solve-given.ensures.value) (within c.args.net.now c.args.flt.now _)

pub put_answer-requires : goal.put_answer-requires
put_answer-requires c =
    let p = c.solve-given.result.part in
    record { room = record { fits = omega (arith, bytes_length c.solve-given.result c.shown-bytes.result.now c.solve-given.new.buffer, ap length (lent_bytes p.whose c.args.net c.args.flt c.shown-bytes.ensures), shown_most p c.args.net.now c.args.flt.now {m = 16400} c.requires.net_len_bound (omega arith), c.solve-given.auto.buffer, c.mark.auto.buffer, c.requires.buffer_in_bounds) } }

pub returns-clause-upper_bound : goal.returns-clause-upper_bound
returns-clause-upper_bound c =
    let p = c.solve-given.result.part in
    omega (arith, c.put_answer.ensures.wrote.behind, bytes_length c.solve-given.result c.shown-bytes.result.now c.solve-given.new.buffer, ap length (lent_bytes p.whose c.args.net c.args.flt c.shown-bytes.ensures), shown_most p c.args.net.now c.args.flt.now {m = 16400} c.requires.net_len_bound (omega arith), c.solve-given.auto.buffer, c.mark.auto.buffer, c.requires.buffer_in_bounds)
