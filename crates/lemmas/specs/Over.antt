-- What a buffer holds after a part of it was written. Assumes nothing.
use Rattle.std.specs.Prelude.{List, ◌++◌, ℕ, length, take, drop}

-- xs with ys written over it from the place a on
unfoldable pub over : {A : Type 0} → ℕ → List A → List A → List A
over a ys xs = take a xs ++ (ys ++ drop (length ys) (drop a xs))
