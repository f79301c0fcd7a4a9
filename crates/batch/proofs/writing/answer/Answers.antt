-- The boards that were brought are written into the marked output, and all is laid down.
use Rattle.std.proofs.Common.{arith, ◌∙◌, length, rules}
use Rattle.decimal.specs.Wrote.{Wrote}
use Rattle.paper.specs.Bytes.{u16_at}
use Rattle.paper.specs.File.{records, decoded}
use Rattle.stream.specs.Case.{byte_marks}
use Rattle.decimal.proofs.Pens.{writes_as}
use Rattle.paper.specs.Write.{write_verdict, write_leaves}
use Rattle.stream.specs.Layout.{written_of}
use Rattle.stream.proofs.Boards.{brought}
use Rattle.stream.proofs.Pieces.{written_length}
use Rattle.batch.proofs.writing.answer.Goals as goal

pub put_written-requires : goal.put_written-requires
put_written-requires c = record { room = record { fits = omega (arith, written_length c.write-given.result c.write-given.new.out, c.write-given.auto.out, c.mark_bytes.auto.out, c.requires.file_in_bounds) } }

pub returns-clause-wrote : goal.returns-clause-wrote
returns-clause-wrote c =
    let first = brought 372 c.args.n c.args.boards.now c.boards_of-bs.ensures in
    let volts = c.u16_at-volts.ensures in
    let unit = c.u16_at-unit.ensures in
    let given = c.write-given.ensures.value ∙ (λ i. write_verdict (volts i) (unit i) (first i) (c.mark_bytes.auto.out i)) in
    let left = c.write-given.ensures.out_after ∙ (λ i. write_leaves (volts i) (unit i) (first i) (c.mark_bytes.ensures i)) in
    let w : Wrote 0 (written_of (write_verdict (u16_at c.args.head.now 0) (u16_at c.args.head.now 2) (decoded (records c.args.n c.args.boards.now)) (length c.args.file.now)) (write_leaves (u16_at c.args.head.now 0) (u16_at c.args.head.now 2) (decoded (records c.args.n c.args.boards.now)) (byte_marks (length c.args.file.now)))) c.args.out.now c.put_written.new.pen.out.now c.put_written.new.pen.at =
    (writes_as (λ i. written_of (given i) (left i)) c.put_written.ensures).wrote in
    search rules

pub returns-clause-upper_bound : goal.returns-clause-upper_bound
returns-clause-upper_bound c = omega (arith, c.put_written.ensures.wrote.behind, written_length c.write-given.result c.write-given.new.out, c.write-given.auto.out, c.mark_bytes.auto.out, c.requires.file_in_bounds)
