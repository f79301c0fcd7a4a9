-- Every line has room, and what is said is written as a line.
use Rattle.std.proofs.Common.{arith}
use Rattle.paper.specs.Return.{said}
use Rattle.lines.proofs.EarthLine.{earth_most_lem}
use Rattle.earth.proofs.answer.Goals as goal

pub put_earth-requires : goal.put_earth-requires
put_earth-requires c = record { room = record { fits = omega (arith, earth_most_lem (said c.earth-given.result), c.requires) } }
