use mathlib.Core.Path.{refl}
use native.Mathlib.Omega.{arith}
use Rattle.lemmas.proofs.Over.{put_over}
use Rattle.decimal.proofs.Pen.bytes.Goals as goal

pub returns : goal.returns
returns c = record { wrote = record { stands = put_over _ _ _ _ _ c.copy_from_slice.ensures.after (omega arith); behind = refl }; same_buffer = refl }
