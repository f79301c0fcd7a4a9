-- The line lies on the page, and what is printed is the line.
use Rattle.std.proofs.Common.{arith, sym, subst, length-take-le}
use Rattle.std.specs.Io.KnownBytes.{Appends}
use Rattle.decimal.proofs.Writes.{wrote_front}
use Rattle.paper.specs.Return.{earth_said}
use Rattle.lines.proofs.EarthLine.{earth_most_lem}
use Rattle.earth.proofs.show.Goals as goal

pub slice_bounds-out-end : goal.slice_bounds-out-end
slice_bounds-out-end g c = omega (arith, c.answer-end.ensures.behind, earth_most_lem (earth_said c.args.net.now c.args.label.now), c.answer-end.auto.out)

pub slice_bounds-print-end : goal.slice_bounds-print-end
slice_bounds-print-end g c = sym (length-take-le _ _ (omega (arith, c.answer-end.ensures.behind, earth_most_lem (earth_said c.args.net.now c.args.label.now), c.answer-end.auto.out)))

pub returns : goal.returns
returns g c = λ t. subst (Appends _ _) (wrote_front c.answer-end.ensures) (c.print.ensures.printed t)
