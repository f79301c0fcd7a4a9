use mathlib.Core.Path.{sym, ap}
use Rattle.stream.specs.Layout.{whose_of}
use Rattle.stream.proofs.part.whose.Goals as goal

pub returns-in-NetworkBytes : goal.returns-in-NetworkBytes
unfolding whose_of
returns-in-NetworkBytes c = sym (ap whose_of c.in-NetworkBytes.is)

pub returns-in-FaultBytes : goal.returns-in-FaultBytes
unfolding whose_of
returns-in-FaultBytes c = sym (ap whose_of c.in-FaultBytes.is)

pub returns-in-LabelBytes : goal.returns-in-LabelBytes
unfolding whose_of
returns-in-LabelBytes c = sym (ap whose_of c.in-LabelBytes.is)
