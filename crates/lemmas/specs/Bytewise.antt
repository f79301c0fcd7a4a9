-- The number that some bytes say, and a number with a rule at each of its bytes. Assumes nothing.
use Rattle.std.specs.Prelude.{List, [], ◌∷◌, map, ℕ, ◌+◌, ◌*◌}
use Rattle.lemmas.specs.Little.{little}

-- the lowest first
abbrev pub little_endian : List ℕ → ℕ
little_endian [] = 0
little_endian (x ∷ xs) = x + 256 * little_endian xs

-- a number with a rule at each of its n low bytes
abbrev pub bytewise : ℕ → (ℕ → ℕ) → ℕ → ℕ
bytewise n f w = little_endian (map f (little n w))
