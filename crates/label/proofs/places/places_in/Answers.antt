use Rattle.std.proofs.Common.{◌+◌, ◌*◌, ap, ◌∙◌, arith}
use Rattle.paper.specs.File.{board_of, boards_of}
use Rattle.follows.proofs.Accepted.{boards_length}
use Rattle.file.proofs.Decoded.{filled_none, filled_next, filled_all, part_is}
use Rattle.follows.specs.Capitals.{board_in_capitals}
use Rattle.label.proofs.FoundIn.{asked_fits, found_is}
use Rattle.label.proofs.places.places_in.Goals as goal

pub loop-i-init : goal.loop-i-init
loop-i-init c = filled_none board_in_capitals c.args.net.now c.empty_board-boards.ensures

pub loop-i-preserved : goal.loop-i-preserved
loop-i-preserved c =
    let net = c.args.net.now in
    let i = c.loop-i.i in
    filled_next board_in_capitals net i (omega arith) (omega arith) c.loop-i.invariant (c.board_in_capitals.ensures ∙ ap board_in_capitals (c.board_of.ensures ∙ ap board_of (part_is net (8 + 44 * i))))

-- the loop is left: the boards that are searched
pub overflow_cast-asked : goal.overflow_cast-asked
overflow_cast-asked c =
    let net = c.args.net.now in
    let searched = filled_all board_in_capitals net c.loop-i.i c.args.n c.requires.0 (omega arith) c.loop-i.invariant in
    record { fits = asked_fits (boards_of net) c.args.label searched c.in_capitals.ensures (omega (arith, boards_length net)) c.find-asked.ensures }

pub returns : goal.returns
returns c =
    let net = c.args.net.now in
    let searched = filled_all board_in_capitals net c.loop-i.i c.args.n c.requires.0 (omega arith) c.loop-i.invariant in
    found_is (boards_of net) c.args.label searched c.in_capitals.ensures c.find_all.ensures c.find-asked.ensures
