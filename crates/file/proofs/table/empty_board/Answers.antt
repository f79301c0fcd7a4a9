use mathlib.Core.Path.{refl}
use Rattle.file.proofs.table.empty_board.Goals as goal

-- `file::table::empty_board` meets its contract. Assumes nothing.
pub returns : goal.returns
returns c = refl
