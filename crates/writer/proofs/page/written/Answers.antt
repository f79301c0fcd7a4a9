-- The head is refused, a board is refused, there is no room, or the file is copied out.
use Rattle.std.proofs.Common.{◌≡◌, ◌≤◌, Bool, List, ℕ, length, min, not, false, refl, sym, ◌∙◌, ap, arith}
use borrow.Author.Rules.{rules}
use Rattle.std.specs.Prelude.{Err}
use Rattle.paper.specs.declared.Refusal.{Refusal}
use Rattle.paper.specs.Refusal.{head_ranges}
use Rattle.node.specs.Node.{no_node}
use Rattle.node.proofs.Tables.{empty_table}
use Rattle.decimal.specs.Wrote.{Wrote}
use Rattle.paper.specs.Write.{head_bytes}
use Rattle.writer.proofs.Judged.{head_said, wrong_head, long_fits, behind_fits, HeadPut, head_fits, len_fits, file_long, judged_as, wrong_board, no_room, all_kept, refused, accepted}
use Rattle.writer.specs.Told.{told}
use Rattle.writer.proofs.page.written.Goals as goal
use Rattle.writer.proofs.page.written.Goals.{After-lay_head-len}

-- ---- the head's test is the paper's
said_as : (volts unit n : ℕ) {count : ℕ} {wrong b : Bool} → wrong ≡ not (head_ranges (record { volts = volts; unit = unit; boards = count })) → count ≡ min 65535 n → wrong ≡ b → not (head_ranges (head_said volts unit n)) ≡ b
said_as volts unit n w e b = sym (w ∙ ap (λ (k : ℕ). not (head_ranges (record { volts = volts; unit = unit; boards = k }))) e) ∙ b

-- ---- and what is known of the file on the page, once it stands
put : (volts unit n : ℕ) {count end : ℕ} {page later : List ℕ} → not (head_ranges (head_said volts unit n)) ≡ false → volts ≤ 65535 → unit ≤ 65535 → length page ≡ 11272 → count ≡ min 65535 n
    → Wrote 0 (head_bytes (record { volts = volts; unit = unit; boards = count })) page later end
    → HeadPut volts unit n page later
put volts unit n kept v u l e w = record { kept = kept; volts_fit = v; unit_fit = u; long = l; k = _; k_is = e; end = _; wrote = w }

-- the file on the page, once the head stands there
standing : (c : After-lay_head-len) → HeadPut c.args.volts c.args.unit c.args.n c.args.file.now c.lay_head-len.new.page
standing c = put c.args.volts c.args.unit c.args.n (said_as _ _ _ c.head_wrong.ensures c.said-count.ensures c.if-head_wrong.false) (omega (arith, c.ranges.volts.fits)) (omega (arith, c.ranges.unit.fits)) c.requires c.said-count.ensures c.lay_head-len.ensures

pub returns-then-head_wrong : goal.returns-then-head_wrong
returns-then-head_wrong c =
    let r = refused _ _ _ _ _ (wrong_head _ _ _ _ (said_as _ _ _ c.head_wrong.ensures c.said-count.ensures c.if-head_wrong.true)) (ap (λ (w : Refusal). told (Err w)) c.at_the_front.ensures) in
    record { value = r.0; out_after = r.1 }

pub lay_head-len-requires : goal.lay_head-len-requires
lay_head-len-requires c = head_fits _ c.requires

pub overflow_mul-len : goal.overflow_mul-len
overflow_mul-len c = record { fits = behind_fits _ _ _ (said_as _ _ _ c.head_wrong.ensures c.said-count.ensures c.if-head_wrong.false) }

pub overflow_add-len : goal.overflow_add-len
overflow_add-len c = record { fits = long_fits _ _ _ (said_as _ _ _ c.head_wrong.ensures c.said-count.ensures c.if-head_wrong.false) }

pub slice_bounds-judge-end : goal.slice_bounds-judge-end
slice_bounds-judge-end c =
    let h = standing (goal.at.slice_bounds-judge-end c).After-lay_head-len in
    len_fits h

pub slice_bounds-judge-end-2 : goal.slice_bounds-judge-end-2
slice_bounds-judge-end-2 c =
    let h = standing (goal.at.slice_bounds-judge-end-2 c).After-lay_head-len in
    file_long h

pub judge-requires : goal.judge-requires
judge-requires c =
    let h = standing (goal.at.judge-requires c).After-lay_head-len in
    record { n_value = judged_as h; nodes_value = empty_table no_node refl }

pub returns-in_err-judge : goal.returns-in_err-judge
returns-in_err-judge c =
    let h = standing (goal.at.returns-in_err-judge c).After-lay_head-len in
    let back : c.from_residual.result ≡ Err c.in_err-judge.field-0.0 = search rules in
    let r = refused _ _ _ _ _ (wrong_board h _ _ c.judge.ensures.value c.in_err-judge.was) (ap told back) in
    record { value = r.0; out_after = r.1 }

pub returns-then-out-len : goal.returns-then-out-len
returns-then-out-len c =
    let h = standing (goal.at.returns-then-out-len c).After-lay_head-len in
    let r = refused _ _ _ _ _ (no_room h _ _ c.judge.ensures.value c.in_ok-judge.was c.if-out-len.true) (ap (λ (w : Refusal). told (Err w)) c.at_the_front-then-out-len.ensures) in
    record { value = r.0; out_after = r.1 }

pub slice_bounds-copy_out-end : goal.slice_bounds-copy_out-end
slice_bounds-copy_out-end c =
    let h = standing (goal.at.slice_bounds-copy_out-end c).After-lay_head-len in
    len_fits h

pub slice_bounds-copy_out-end-2 : goal.slice_bounds-copy_out-end-2
slice_bounds-copy_out-end-2 c =
    let h = standing (goal.at.slice_bounds-copy_out-end-2 c).After-lay_head-len in
    file_long h

pub returns : goal.returns
returns c =
    let h = standing (goal.at.returns c).After-lay_head-len in
    let r = accepted _ _ _ _ _ h (all_kept h _ _ c.judge.ensures.value c.in_ok-judge.was c.if-out-len.false) c.copy_out.ensures refl in
    record { value = r.0; out_after = r.1 }
