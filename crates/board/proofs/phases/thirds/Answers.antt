use mathlib.Core.Path.{◌≡◌, ap, ap₂, ◌∙◌}
use Rattle.turn.specs.declared.Num.{Num}
use Rattle.turn.specs.Number.{◌+N◌, turn_n}
use Rattle.fits.proofs.Needs.{ForThirds, for_thirds, within_is}
use Rattle.board.specs.Put.{shown_at}
use Rattle.board.proofs.phases.thirds.Goals as goal
use Rattle.turn.specs.Bounds.{Within}
use Rattle.paper.specs.Bounds.{most_w}

-- `board::phases::thirds` meets its contract. Assumes nothing.
asked : {c0 c1 c2 : Num} → Within most_w c0 × Within most_w c1 × Within most_w c2 → ForThirds c0 c1 c2
asked w = for_thirds w.0 w.1 w.2

-- a c1 + a² c2
turned : (c1 c2 : Num) {a b n : Num} → a ≡ turn_n 4 c1 → b ≡ turn_n 8 c2 → n ≡ a +N b → n ≡ turn_n 4 c1 +N turn_n 8 c2
turned c1 c2 d e f = f ∙ ap₂ ◌+N◌ d e

pub add-requires : goal.add-requires
add-requires c = let n = asked c.requires in (within_is c.turn.ensures n.by_a, within_is c.turn-2.ensures n.by_a²)

pub add-n-requires : goal.add-n-requires
add-n-requires c =
    let n = asked c.requires in
    (n.plain, within_is (turned c.args.c1 c.args.c2 c.turn.ensures c.turn-2.ensures c.add.ensures) n.turned)

pub returns : goal.returns
returns c =
    let s = c.args in
    c.phase.ensures
    ∙ ap (λ (n : Num). shown_at s.ph.n n s.out.now) (c.add-n.ensures ∙ ap (λ (n : Num). s.c0 +N n) (turned s.c1 s.c2 c.turn.ensures c.turn-2.ensures c.add.ensures))
