-- What a function that writes text into a lent buffer leaves there. Assumes nothing.
use Rattle.std.specs.Prelude.{◌≡◌, List, ℕ, ◌+◌, ◌≤◌, length}
use Rattle.lemmas.specs.Over.{over}

-- the buffer has room for the text from the place at on
pub record Room (at : ℕ) (s buffer : List ℕ) : Type 0 where
  pub fits : at + length s ≤ length buffer

-- the text stands there, all else is as it was, and next is the place behind it
pub record Wrote (at : ℕ) (s buffer later : List ℕ) (next : ℕ) : Type 0 where
  pub stands : later ≡ over at s buffer
  pub behind : next ≡ at + length s
