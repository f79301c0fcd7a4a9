use native.Mathlib.Omega.{arith}
use Rattle.lemmas.proofs.Over.{put_over}
use Rattle.writer.proofs.page.copy_out.Goals as goal

pub returns : goal.returns
returns c = record { stands = put_over _ _ _ _ _ c.copy_from_slice.ensures.after (omega arith); behind = omega arith }
