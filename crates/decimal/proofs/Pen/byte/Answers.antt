use mathlib.Core.Path.{refl}
use native.Mathlib.Omega.{arith}
use Rattle.decimal.proofs.Writes.{wrote_byte}
use Rattle.decimal.proofs.Pen.byte.Goals as goal

pub returns : goal.returns
returns c = record { wrote = wrote_byte _ _ _ (omega (arith, c.requires.room.fits)); same_buffer = refl }
