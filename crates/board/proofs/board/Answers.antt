use mathlib.Core.Path.{sym, ap, ◌∙◌, subst}
use borrow.Author.Rules.{rules}
use Rattle.paper.specs.declared.Seq.{Seq}
use Rattle.paper.specs.Phase.{phases}
use Rattle.paper.specs.Answer.{flat}
use Rattle.paper.specs.Bounds.{Plane, EachSeq, most_w}
use Rattle.board.specs.Numbers.{left_of, passed_of, numbers_of}
use Rattle.board.proofs.Nothing.{all_zero, passed_nothing}
use Rattle.board.proofs.Rows.{two_parts, phases_length}
use Rattle.board.proofs.Small.{left_small, passed_small}
use Rattle.board.proofs.board.Goals as goal

-- `board::board` meets its contract: voltages of what is left, then currents of what is passed, or none. Assumes nothing.
pub shown-requires : goal.shown-requires
shown-requires c =
    let h = c.requires.1 in
    record {
      out_len = search rules;
      phase_bound = (h.phase_to, h.turn_small, c.requires.3);
      x_plane = subst (EachSeq (Plane most_w)) (sym c.left-x.ensures) (left_small h _ c.requires.2);
    }

pub shown-requires-then-on : goal.shown-requires-then-on
shown-requires-then-on c =
    let h = c.requires.1 in
    record {
      out_len = search rules;
      phase_bound = (h.phase_to, h.turn_small, c.requires.3);
      x_plane = subst (EachSeq (Plane most_w)) (sym c.passed-x.ensures) (passed_small h c.args.on _);
    }

pub returns-then-on : goal.returns-then-on
unfolding numbers_of left_of passed_of
returns-then-on c =
    let a = c.args in
    let f = a.f in
    let t = a.node.turn in
    let voltages = c.shown.ensures ∙ ap (λ (x : Seq). flat (phases f.phase t f.turn x)) c.left-x.ensures in
    let currents = c.shown-then-on.ensures ∙ ap (λ (x : Seq). flat (phases f.phase t f.turn x)) c.passed-x.ensures in
    two_parts 12 12 a.out.now _ _ voltages currents (sym (phases_length f.phase t f.turn _)) (sym (phases_length f.phase t f.turn _)) (sym c.requires.0)

pub returns-else-on : goal.returns-else-on
unfolding numbers_of left_of passed_of
returns-else-on c =
    let a = c.args in
    let f = a.f in
    let t = a.node.turn in
    let voltages = c.shown.ensures ∙ ap (λ (x : Seq). flat (phases f.phase t f.turn x)) c.left-x.ensures in
    let currents = all_zero (c.fill.ensures.after (λ y e. e)) (search rules) ∙ passed_nothing f.phase t f.turn f.i a.on _ f.earthed c.if-on.false in
    two_parts 12 12 a.out.now _ _ voltages currents (sym (phases_length f.phase t f.turn _)) (sym (phases_length f.phase t f.turn _)) (sym c.requires.0)
