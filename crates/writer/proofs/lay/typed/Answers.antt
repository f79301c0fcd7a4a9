use Rattle.writer.proofs.InType.{board_in_type}
use Rattle.writer.proofs.lay.typed.Goals as goal

pub returns : goal.returns
returns c = board_in_type c.args.b _ c.well_formed.0
