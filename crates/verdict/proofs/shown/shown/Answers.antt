use Rattle.paper.specs.declared.Lent.TheVariants.{NetworkBytes, FaultBytes, LabelBytes}
use borrow.Author.Rules.{rules}
use Rattle.verdict.proofs.Parts.{lent_room, lent_end, lent_part}
use Rattle.verdict.proofs.shown.shown.Goals as goal

-- `verdict::shown::shown` meets its contract. Assumes nothing.
pub overflow_add-end : goal.overflow_add-end
overflow_add-end c = record { fits = lent_room c.args.part c.args.net.now c.args.asked.now (search rules) (search rules) c.requires }

pub slice_bounds-result-end : goal.slice_bounds-result-end
slice_bounds-result-end c = lent_end c.args.part c.args.net c.args.asked NetworkBytes c.in-NetworkBytes.is c.requires

pub slice_bounds-result-end-in-FaultBytes : goal.slice_bounds-result-end-in-FaultBytes
slice_bounds-result-end-in-FaultBytes c = lent_end c.args.part c.args.net c.args.asked FaultBytes c.in-FaultBytes.is c.requires

pub slice_bounds-result-end-in-LabelBytes : goal.slice_bounds-result-end-in-LabelBytes
slice_bounds-result-end-in-LabelBytes c = lent_end c.args.part c.args.net c.args.asked LabelBytes c.in-LabelBytes.is c.requires

pub returns-in-NetworkBytes : goal.returns-in-NetworkBytes
returns-in-NetworkBytes c = lent_part c.args.part c.args.net c.args.asked NetworkBytes c.in-NetworkBytes.is

pub returns-in-FaultBytes : goal.returns-in-FaultBytes
returns-in-FaultBytes c = lent_part c.args.part c.args.net c.args.asked FaultBytes c.in-FaultBytes.is

pub returns-in-LabelBytes : goal.returns-in-LabelBytes
returns-in-LabelBytes c =
    lent_part c.args.part c.args.net c.args.asked LabelBytes c.in-LabelBytes.is
