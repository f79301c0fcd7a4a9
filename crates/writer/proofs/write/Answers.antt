-- The boards are as their types allow, so the page has room for the first 256 of them, and holds them.
use mathlib.Core.List.{List}
use Prim.Native.Nat.{ℕ}
use lib.ListN.{replicate, length-replicate}
use Rattle.writer.proofs.Laid.{page_fits, laid_on}
use Rattle.writer.proofs.write.Goals as goal

-- the page, before anything lies on it
abbrev zero_byte : ℕ
zero_byte = 0

abbrev blank : List ℕ
blank = replicate 11272 zero_byte

pub put_boards-requires : goal.put_boards-requires
put_boards-requires c = page_fits c.args.boards.now c.typed_boards.ensures blank (length-replicate 11272 zero_byte)

pub returns-clause-value : goal.returns-clause-value
returns-clause-value c = c.write_page.ensures.value c.args.boards.now (laid_on c.args.boards.now c.typed_boards.ensures blank (length-replicate 11272 zero_byte) c.put_boards.ensures)

pub returns-clause-out_after : goal.returns-clause-out_after
returns-clause-out_after c = c.write_page.ensures.out_after c.args.boards.now (laid_on c.args.boards.now c.typed_boards.ensures blank (length-replicate 11272 zero_byte) c.put_boards.ensures)
