use Rattle.board.proofs.phases.turn_if.Goals as goal

-- `board::phases::turn_if` meets its contract. Assumes nothing.
pub returns-then-on : goal.returns-then-on
returns-then-on c = rw (c.if-on.true, c.turn.ensures)
