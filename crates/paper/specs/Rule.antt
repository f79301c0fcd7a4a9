-- 01, 'What the caller gets': the rules of the refusal table by name, and their numbers: "When an answer is an enum, a definition specifies this paper's number". Assumes nothing.
use Rattle.std.specs.Prelude.{[], ◌∷◌, ℕ, zero, suc, get_or, Result, Ok, Err}
use Rattle.std.proofs.Math.Option.{Option, none, some}
use Rattle.paper.specs.declared.Refusal.{Refusal}
use Rattle.paper.specs.declared.Rule.{Rule}
use Rattle.paper.specs.declared.Rule.TheVariants.{
  ShortNetwork,
  HeadMark,
  HeadValues,
  NetworkLength,
  BoardMark,
  LabelForm,
  LabelUsed,
  Feeder,
  KindOrClock,
  Impedance,
  Sum,
  FaultLength,
  FaultMark,
  UnknownBoard,
  FaultKind,
  FaultPhase,
  FaultImpedance,
  ShortBuffer,
  ShortOutput,
  Forgotten,
}

abbrev pub number_of : Rule → ℕ
number_of ShortNetwork = 1
number_of HeadMark = 2
number_of HeadValues = 3
number_of NetworkLength = 4
number_of BoardMark = 5
number_of LabelForm = 6
number_of LabelUsed = 7
number_of Feeder = 8
number_of KindOrClock = 9
number_of Impedance = 10
number_of Sum = 11
number_of FaultLength = 12
number_of FaultMark = 13
number_of UnknownBoard = 14
number_of FaultKind = 15
number_of FaultPhase = 16
number_of FaultImpedance = 17
number_of ShortBuffer = 19
number_of ShortOutput = 20
number_of Forgotten = 21

-- and back (proofs/, `Rules`); of 0, of 18 and past 21 it says nothing
unfoldable pub rule_of : ℕ → Rule
rule_of n =
    get_or
    (Forgotten ∷ ShortNetwork ∷ HeadMark ∷ HeadValues ∷ NetworkLength ∷ BoardMark ∷ LabelForm ∷ LabelUsed ∷ Feeder ∷ KindOrClock ∷ Impedance ∷ Sum
    ∷ FaultLength ∷ FaultMark ∷ UnknownBoard ∷ FaultKind ∷ FaultPhase ∷ FaultImpedance ∷ Forgotten ∷ ShortBuffer ∷ ShortOutput ∷ Forgotten ∷ [])
    n Forgotten

-- what a test gives that answers by the number of the first broken rule, 0 for none: the value, or that rule
unfoldable pub unless : {A : Type 0} → ℕ → A → Result A Rule
unless zero a = Ok a
unless (suc n) a = Err (rule_of (suc n))

-- what a call gives: the value, or the refusal by the first rule that is broken
unfoldable pub or_refused : {A : Type 0} → Option Refusal → A → Result A Refusal
or_refused none a = Ok a
or_refused (some w) a = Err w
