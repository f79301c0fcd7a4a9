-- 01, 'Figures worked through': what the program reads of the fault. Assumes nothing.
use Rattle.std.specs.Prelude.{ℕ}

-- "The program reads at most .. 21 of the fault"
abbrev pub fault_most : ℕ
fault_most = 21
