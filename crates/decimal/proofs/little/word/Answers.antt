use mathlib.Core.Path.{ap, ◌∙◌}
use mir.Facts.{to_z-of_z}
use Rattle.decimal.specs.Word.{word_of}
use Rattle.decimal.proofs.Bits.{word_is}
use Rattle.decimal.proofs.little.word.Goals as goal

pub returns : goal.returns
returns c = c.cast_unsigned.ensures ∙ word_is _ ∙ ap word_of (to_z-of_z c.ranges.z)
