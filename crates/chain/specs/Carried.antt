-- What a record carries of the fault's currents, by whether it is on the faulted board's chain and on its zero-sequence sum. Assumes nothing.
use Rattle.std.specs.Prelude.{Bool}
use Rattle.paper.specs.declared.Seq.{Seq}
use Rattle.paper.specs.Fault.{seq}
use Rattle.paper.specs.Phase.{only_if}

unfoldable pub carried_of : Bool → Bool → Seq → Seq
carried_of on earth i = seq (only_if on i.s1) (only_if on i.s2) (only_if earth i.s0)
