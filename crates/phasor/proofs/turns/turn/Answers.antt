use mathlib.Core.Path.{◌≡◌, sym, ap, ◌∙◌}
use mathlib.Core.List.{List, []}
use Prim.Native.Nat.{ℕ, ◌<◌, ◌%◌}
use Rattle.turn.specs.Bounds.{Addable}
use native.Mathlib.Omega.{arith}
use borrow.Author.Rules.{rules}
use lib.Dec.{T}
use Rattle.lemmas.proofs.Solver.{var, ◌⊕◌, ⊝◌}
use Rattle.lemmas.proofs.Words.{Known, fits}
use Rattle.turn.specs.declared.Num.{Num}
use Rattle.turn.specs.Number.{◌*N◌, ◌+N◌, ◌·N◌, times_t, power_n, turn_n}
use Rattle.turn.proofs.Form.{Form, mul_f, con_f, same_f, by_coordinates}
use Rattle.turn.proofs.Operands.{coordinates, kept_f, ok_f, kept_form}
use Rattle.turn.proofs.Powers.{power_mod}
use Rattle.phasor.proofs.turns.turn.Goals as goal

-- `phasor::turns::turn` meets its contract: each line is its power of t times the number, by computation, and twelve turns go round. Assumes nothing.
abbrev k : goal.After-struct_told-4-1 → List Known
k c = coordinates c.requires []

-- the coordinates, by name
abbrev own : Form
own = record { f0 = var 0; f1 = var 1; f2 = var 2; f3 = var 3 }

-- the line of m turns: where the hour is m, what is kept of it is the number turned
line : {a : Num} (w : Addable a) (n h m : ℕ) (f : Form → Form) → h ≡ n % 12 → h ≡ m → T (ok_f (coordinates w []) (f own)) → T (same_f (f own) (mul_f (con_f (power_n m)) own))
    → kept_f (coordinates w []) (f own) ≡ turn_n n a
unfolding ◌*N◌ ◌+N◌ ◌·N◌ times_t
line {a = a} w n h m f hour e small same =
    kept_form w (f own) small
    ∙ by_coordinates 1 f (λ a. mul_f (con_f (power_n m)) a) same a
    ∙ ap (λ (h : ℕ). turn_n h a) (sym e ∙ hour)
    ∙ ap (λ (p : Num). p *N a) (power_mod n)

-- what is left below twelve, in two steps
low : (n : ℕ) → (n ≡ 0 → ⊥) → (n ≡ 1 → ⊥) → (n ≡ 2 → ⊥) → (n ≡ 3 → ⊥) → (n ≡ 4 → ⊥) → (n ≡ 5 → ⊥) → 5 < n
low n k0 k1 k2 k3 k4 k5 = omega arith

high : (n : ℕ) → 5 < n → n < 12 → (n ≡ 6 → ⊥) → (n ≡ 7 → ⊥) → (n ≡ 8 → ⊥) → (n ≡ 9 → ⊥) → (n ≡ 10 → ⊥) → n ≡ 11
high n l h k6 k7 k8 k9 k10 = omega arith

last : (c : goal.After-number-in_default) → c.hour.result ≡ 11
last c =
    let below : c.hour.result < 12 = omega arith in
    high c.hour.result (low c.hour.result (search rules) (search rules) (search rules) (search rules) (search rules) (search rules)) below (search rules) (search rules) (search rules) (search rules) (search rules)

pub overflow_add-s : goal.overflow_add-s
overflow_add-s c = fits (k c) (var 0 ⊕ var 2) tt

pub overflow_add-u : goal.overflow_add-u
overflow_add-u c = fits (k c) (var 1 ⊕ var 3) tt

pub overflow_sub-n0 : goal.overflow_sub-n0
overflow_sub-n0 c = fits (k c) (⊝ var 0) tt

pub overflow_sub-n1 : goal.overflow_sub-n1
overflow_sub-n1 c = fits (k c) (⊝ var 1) tt

pub overflow_sub-n2 : goal.overflow_sub-n2
overflow_sub-n2 c = fits (k c) (⊝ var 2) tt

pub overflow_sub-n3 : goal.overflow_sub-n3
overflow_sub-n3 c = fits (k c) (⊝ var 3) tt

pub overflow_sub-ns : goal.overflow_sub-ns
overflow_sub-ns c = fits (k c) (⊝ (var 0 ⊕ var 2)) tt

pub overflow_sub-nu : goal.overflow_sub-nu
overflow_sub-nu c = fits (k c) (⊝ (var 1 ⊕ var 3)) tt

pub returns-in-0 : goal.returns-in-0
unfolding power_n times_t
returns-in-0 c = c.number.ensures ∙ line c.requires c.args.n c.hour.result 0 (λ a. record { f0 = a.f0; f1 = a.f1; f2 = a.f2; f3 = a.f3 }) c.hour.ensures c.in-0.is tt tt

pub returns-in-1 : goal.returns-in-1
unfolding power_n times_t
returns-in-1 c = c.number-in-1.ensures ∙ line c.requires c.args.n c.hour.result 1 (λ a. record { f0 = ⊝ a.f3; f1 = a.f0; f2 = a.f1 ⊕ a.f3; f3 = a.f2 }) c.hour.ensures c.in-1.is tt tt

pub returns-in-2 : goal.returns-in-2
unfolding power_n times_t
returns-in-2 c = c.number-in-2.ensures ∙ line c.requires c.args.n c.hour.result 2 (λ a. record { f0 = ⊝ a.f2; f1 = ⊝ a.f3; f2 = a.f0 ⊕ a.f2; f3 = a.f1 ⊕ a.f3 }) c.hour.ensures c.in-2.is tt tt

pub returns-in-3 : goal.returns-in-3
unfolding power_n times_t
returns-in-3 c = c.number-in-3.ensures ∙ line c.requires c.args.n c.hour.result 3 (λ a. record { f0 = ⊝ (a.f1 ⊕ a.f3); f1 = ⊝ a.f2; f2 = a.f1; f3 = a.f0 ⊕ a.f2 }) c.hour.ensures c.in-3.is tt tt

pub returns-in-4 : goal.returns-in-4
unfolding power_n times_t
returns-in-4 c = c.number-in-4.ensures ∙ line c.requires c.args.n c.hour.result 4 (λ a. record { f0 = ⊝ (a.f0 ⊕ a.f2); f1 = ⊝ (a.f1 ⊕ a.f3); f2 = a.f0; f3 = a.f1 }) c.hour.ensures c.in-4.is tt tt

pub returns-in-5 : goal.returns-in-5
unfolding power_n times_t
returns-in-5 c = c.number-in-5.ensures ∙ line c.requires c.args.n c.hour.result 5 (λ a. record { f0 = ⊝ a.f1; f1 = ⊝ (a.f0 ⊕ a.f2); f2 = ⊝ a.f3; f3 = a.f0 }) c.hour.ensures c.in-5.is tt tt

pub returns-in-6 : goal.returns-in-6
unfolding power_n times_t
returns-in-6 c = c.number-in-6.ensures ∙ line c.requires c.args.n c.hour.result 6 (λ a. record { f0 = ⊝ a.f0; f1 = ⊝ a.f1; f2 = ⊝ a.f2; f3 = ⊝ a.f3 }) c.hour.ensures c.in-6.is tt tt

pub returns-in-7 : goal.returns-in-7
unfolding power_n times_t
returns-in-7 c = c.number-in-7.ensures ∙ line c.requires c.args.n c.hour.result 7 (λ a. record { f0 = a.f3; f1 = ⊝ a.f0; f2 = ⊝ (a.f1 ⊕ a.f3); f3 = ⊝ a.f2 }) c.hour.ensures c.in-7.is tt tt

pub returns-in-8 : goal.returns-in-8
unfolding power_n times_t
returns-in-8 c = c.number-in-8.ensures ∙ line c.requires c.args.n c.hour.result 8 (λ a. record { f0 = a.f2; f1 = a.f3; f2 = ⊝ (a.f0 ⊕ a.f2); f3 = ⊝ (a.f1 ⊕ a.f3) }) c.hour.ensures c.in-8.is tt tt

pub returns-in-9 : goal.returns-in-9
unfolding power_n times_t
returns-in-9 c = c.number-in-9.ensures ∙ line c.requires c.args.n c.hour.result 9 (λ a. record { f0 = a.f1 ⊕ a.f3; f1 = a.f2; f2 = ⊝ a.f1; f3 = ⊝ (a.f0 ⊕ a.f2) }) c.hour.ensures c.in-9.is tt tt

pub returns-in-10 : goal.returns-in-10
unfolding power_n times_t
returns-in-10 c = c.number-in-10.ensures ∙ line c.requires c.args.n c.hour.result 10 (λ a. record { f0 = a.f0 ⊕ a.f2; f1 = a.f1 ⊕ a.f3; f2 = ⊝ a.f0; f3 = ⊝ a.f1 }) c.hour.ensures c.in-10.is tt tt

pub returns-in_default : goal.returns-in_default
unfolding power_n times_t
returns-in_default c = c.number-in_default.ensures ∙ line c.requires c.args.n c.hour.result 11 (λ a. record { f0 = a.f1; f1 = a.f0 ⊕ a.f2; f2 = a.f3; f3 = ⊝ a.f0 }) c.hour.ensures (last c) tt tt
