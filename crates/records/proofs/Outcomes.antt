-- A record's step, from what the test of 5 to 10 with 21 says. Assumes nothing.
use mathlib.Core.Bool.{Bool, true, false, cond}
use mathlib.Core.Path.{◌≡◌, refl, sym, ◌∙◌, ap}
use Prim.Native.Nat.{ℕ, zero, suc, ◌≤◌}
use native.Mathlib.Omega.{arith}
use borrow.Author.Tests.{eq-eqb, ne_eqb}
use Rattle.paper.specs.declared.Board.{Board}
use Rattle.node.specs.declared.Node.{Node}
use Rattle.paper.specs.declared.Rule.{Rule}
use Rattle.paper.specs.declared.Rule.TheVariants.{Sum}
use Rattle.paper.specs.Rule.{rule_of, unless}
use Rattle.paper.proofs.Rules.{kept_by, broken_by}
use Rattle.std.specs.Prelude.{Result, Ok, Err}
use Rattle.node.specs.Node.{node_from, node_over}
use Rattle.records.specs.Rules.{broken, earlier, step_of}

-- what a test says that gives no value
abbrev said : ℕ → Result (Unit {0}) Rule
said n = unless n tt

number_more : {A : Type 0} (n : ℕ) (a : A) → 1 ≤ n → unless n a ≡ Err (rule_of n)
unfolding unless
number_more zero a h = absurd (omega arith)
number_more (suc n) a h = refl

module _ (r mark : ℕ) (b : Board) (own fed : ℕ) (up : Node) {s : Result (Unit {0}) Rule} (s_is : s ≡ said (broken r mark b own fed)) where
  abbrev m : ℕ
  m = broken r mark b own fed

  pub none_broken : {u : Unit {0}} → s ≡ Ok u → m ≡ 0
  none_broken e = (kept_by m tt (sym s_is ∙ e)).0

  pub step_broken : {rule : Rule} → s ≡ Err rule → Err rule ≡ step_of r mark b own fed up
  unfolding step_of
  step_broken {rule} e =
      let (more, named) = broken_by m tt (sym s_is ∙ e) in
      let n = node_from r b (earlier r fed) up in
      ap Err (sym named) ∙ sym (number_more m n more) ∙ ap (λ (c : Bool). unless (cond c (cond (node_over n) 11 0) m) n) (sym (ne_eqb m 0 (λ z. omega arith)))

  module _ {u : Unit {0}} {f : ℕ} {n : Node} {v : Bool} (kept : s ≡ Ok u) (f-is : f ≡ earlier r fed) (n-is : n ≡ node_from r b f up) (v-is : v ≡ node_over n) where
    right : n ≡ node_from r b (earlier r fed) up
    right = n-is ∙ ap (λ (k : ℕ). node_from r b k up) f-is

    stepped : unless (cond v 11 0) n ≡ step_of r mark b own fed up
    unfolding step_of
    stepped =
        ap (λ (c : Bool). unless (cond c 11 0) n) v-is ∙ ap (λ (k : Node). unless (cond (node_over k) 11 0) k) right
        ∙ (let k = node_from r b (earlier r fed) up in ap (λ (c : Bool). unless (cond c (cond (node_over k) 11 0) m) k) (sym (eq-eqb m 0 (none_broken kept))))

    pub step_over : v ≡ true → Err Sum ≡ step_of r mark b own fed up
    unfolding unless rule_of
    step_over h = ap (λ (c : Bool). unless (cond c 11 0) n) (sym h) ∙ stepped

    pub step_kept : v ≡ false → Ok n ≡ step_of r mark b own fed up
    unfolding unless
    step_kept h = ap (λ (c : Bool). unless (cond c 11 0) n) (sym h) ∙ stepped
