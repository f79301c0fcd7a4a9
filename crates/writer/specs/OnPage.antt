-- A page of the writer's own, and the boards whose records lie on it. Assumes nothing.
use Rattle.std.specs.Prelude.{List, ◌≡◌, ℕ, min, ◌*◌, length, take, drop}
use Rattle.paper.specs.Chain.{Boards}
use Rattle.paper.specs.Write.{boards_bytes}
use Rattle.writer.specs.RoundTrip.{AllTyped}

-- n boards were given, as their types allow, and behind the head's eight bytes stand the records of the first 256 of them
pub record OnPage (bs : Boards) (n : ℕ) (page : List ℕ) : Type 0 where
  pub many : n ≡ length bs
  pub typed : AllTyped bs
  pub laid : take (44 * min 256 n) (drop 8 page) ≡ boards_bytes (take 256 bs)
