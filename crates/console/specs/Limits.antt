-- 01, 'Figures worked through': what a program reads of the network. Assumes nothing.
use Rattle.std.specs.Prelude.{ℕ}

-- "The program reads at most 16,384 bytes of the file"
abbrev pub file_most : ℕ
file_most = 16384
