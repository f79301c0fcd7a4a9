-- The rules and their numbers: there and back. Assumes nothing.
use mathlib.Core.Option.{Option, none, some}
use mathlib.Core.Path.{◌≡◌, refl, sym, ◌∙◌, ap}
use Prim.Native.Nat.{ℕ, zero, suc, ◌≤◌}
use native.Mathlib.Omega.{arith}
use Rattle.std.specs.Prelude.{Result, Ok, Err}
use Rattle.paper.specs.declared.Refusal.{Refusal}
use Rattle.paper.specs.declared.Rule.{Rule}
use Rattle.paper.specs.declared.Rule.TheVariants.{
  ShortNetwork,
  HeadMark,
  HeadValues,
  NetworkLength,
  BoardMark,
  LabelForm,
  LabelUsed,
  Feeder,
  KindOrClock,
  Impedance,
  Sum,
  FaultLength,
  FaultMark,
  UnknownBoard,
  FaultKind,
  FaultPhase,
  FaultImpedance,
  ShortBuffer,
  ShortOutput,
  Forgotten,
}
use Rattle.paper.specs.Rule.{number_of, rule_of, unless, or_refused}

-- a rule's number names it
pub named_back : (r : Rule) → rule_of (number_of r) ≡ r
unfolding rule_of
named_back ShortNetwork = refl
named_back HeadMark = refl
named_back HeadValues = refl
named_back NetworkLength = refl
named_back BoardMark = refl
named_back LabelForm = refl
named_back LabelUsed = refl
named_back Feeder = refl
named_back KindOrClock = refl
named_back Impedance = refl
named_back Sum = refl
named_back FaultLength = refl
named_back FaultMark = refl
named_back UnknownBoard = refl
named_back FaultKind = refl
named_back FaultPhase = refl
named_back FaultImpedance = refl
named_back ShortBuffer = refl
named_back ShortOutput = refl
named_back Forgotten = refl

-- ---- what a result says of the tests behind it
-- the value came: no rule is broken
pub kept_by : {A : Type 0} (n : ℕ) (a : A) {b : A} → unless n a ≡ Ok b → (n ≡ 0) × (a ≡ b)
unfolding unless
kept_by zero a e = (refl, cc)
kept_by (suc m) a e = (cc, cc)

-- a rule came: it is the one of the number
pub broken_by : {A : Type 0} (n : ℕ) (a : A) {r : Rule} → unless n a ≡ Err r → (1 ≤ n) × (rule_of n ≡ r)
unfolding unless
broken_by zero a e = let z : ◌≡◌ {A = ℕ} 0 1 = cc in absurd (omega arith)
broken_by (suc m) a {r} e = (omega arith, cc)

pub accepted_by : {A : Type 0} (o : Option Refusal) (a : A) {b : A} → or_refused o a ≡ Ok b → (o ≡ none) × (a ≡ b)
unfolding or_refused
accepted_by none a e = (refl, cc)
accepted_by (some w) a e = (cc, cc)

pub refused_by : {A : Type 0} (o : Option Refusal) (a : A) {w : Refusal} → or_refused o a ≡ Err w → o ≡ some w
unfolding or_refused
refused_by none a e = cc
refused_by (some v) a {w} e = let same : v ≡ w = cc in ap some same

-- of a call that answers so, where n is a rule's number: no rule, or the rule of that number
pub ok_number : {A : Type 0} {n : ℕ} (a : A) {b : A} {x : Result A Rule} → x ≡ unless n a → x ≡ Ok b → n ≡ 0
ok_number {n = n} a e is = (kept_by n a (sym e ∙ is)).0

pub err_number : {A : Type 0} {n : ℕ} (a : A) {x : Result A Rule} {r : Rule} → x ≡ unless n a → x ≡ Err r → (1 ≤ n → number_of (rule_of n) ≡ n) → (1 ≤ n) × (number_of r ≡ n)
err_number {n = n} a e is back = let b = broken_by n a (sym e ∙ is) in (b.0, ap number_of (sym b.1) ∙ back b.0)
