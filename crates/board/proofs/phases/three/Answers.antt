use mathlib.Core.Path.{◌≡◌, ap, ◌∙◌}
use native.Mathlib.Omega.{arith}
use Rattle.turn.specs.declared.Num.{Num}
use Rattle.turn.specs.Number.{◌+N◌, turn_n}
use Rattle.fits.proofs.Needs.{ForAll, for_all, within_is}
use Rattle.board.proofs.Sums.{puts, odd_0, next_0, last_0, odd_1, next_1, last_1, odd_2, next_2, last_2}
use Rattle.board.proofs.phases.three.Goals as goal
use Rattle.turn.specs.Bounds.{Within}
use Rattle.paper.specs.Bounds.{most_w}

-- `board::phases::three` meets its contract: for each p, what it adds up is t^(8p) times what is shown of u, v and w. Assumes nothing.
asked : {u v w : Num} → Within most_w u × Within most_w v × Within most_w w → ForAll u v w
asked w = for_all w.0 w.1 w.2

-- u + v + w
all : (u v w : Num) {m n : Num} → m ≡ v +N w → n ≡ u +N m → n ≡ u +N (v +N w)
all u v w d e = e ∙ ap (λ (n : Num). u +N n) d

pub add-all-requires : goal.add-all-requires
add-all-requires c = let n = asked c.requires in (n.zero, within_is c.add.ensures n.both)

pub turn-requires : goal.turn-requires
turn-requires c = let s = c.args in within_is (all s.u s.v s.w c.add.ensures c.add-all.ensures) (asked c.requires).all

pub turn-requires-in_default : goal.turn-requires-in_default
turn-requires-in_default c = let s = c.args in within_is (all s.u s.v s.w c.add.ensures c.add-all.ensures) (asked c.requires).all

pub returns-in-0 : goal.returns-in-0
returns-in-0 c =
    let s = c.args in
    puts s.p.n 0 c.in-0.is s.f.n s.f.of_three s.u s.v s.w s.out.now c.next-g.ensures c.next-h.ensures c.phase.ensures c.thirds.ensures c.thirds-in-0.ensures
    (all s.u s.v s.w c.add.ensures c.add-all.ensures ∙ odd_0 _ _ _)
    (next_0 _ _ _)
    (last_0 _ _ _)

pub returns-in-1 : goal.returns-in-1
returns-in-1 c =
    let s = c.args in
    puts s.p.n 1 c.in-1.is s.f.n s.f.of_three s.u s.v s.w s.out.now c.next-g.ensures c.next-h.ensures c.phase-in-1.ensures c.thirds-in-1.ensures c.thirds-in-1-2.ensures
    (c.turn.ensures ∙ ap (λ (n : Num). turn_n 8 n) (all s.u s.v s.w c.add.ensures c.add-all.ensures) ∙ odd_1 _ _ _)
    (next_1 _ _ _)
    (last_1 _ _ _)

pub returns-in_default : goal.returns-in_default
returns-in_default c =
    let s = c.args in
    let p : s.p.n ≡ 2 = omega (arith, s.p.of_three) in
    puts s.p.n 2 p s.f.n s.f.of_three s.u s.v s.w s.out.now c.next-g.ensures c.next-h.ensures c.phase-in_default.ensures c.thirds-in_default.ensures c.thirds-in_default-2.ensures
    (c.turn-in_default.ensures ∙ ap (λ (n : Num). turn_n 4 n) (all s.u s.v s.w c.add.ensures c.add-all.ensures) ∙ odd_2 _ _ _)
    (next_2 _ _ _)
    (last_2 _ _ _)
