-- The part that is shown of what is said about an earth return. Assumes nothing.
use Rattle.std.proofs.Math.Option.{Option, none, some}
use Rattle.paper.specs.declared.Part.{Part}
use Rattle.paper.specs.Refusal.{no_part}

-- a refusal's, and of an answer none of the bytes
abbrev pub part_said : Option Part → Part
part_said none = no_part
part_said (some p) = p
