-- 02, R-4: what the program reads of the label: twelve bytes are one, "also for a label not of twelve bytes" is 14. Assumes nothing.
use Rattle.std.specs.Prelude.{ℕ, ◌+◌}
use Rattle.paper.specs.File.{label_size}

abbrev pub label_most : ℕ
label_most = label_size + 1
