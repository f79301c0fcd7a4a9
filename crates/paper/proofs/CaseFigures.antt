-- 02, R-3: labels typed in another case, where 7, 8 and 14 compare them, and bytes beside the letters, as real bytes, proved as one theorem by computing. The numbers are the second implementation's
-- (tools/oracle.py). Assumes nothing.
use mathlib.Core.List.{List, [], ◌∷◌, ◌++◌}
use Prim.Native.Nat.{ℕ}
use Prim.Native.String.{String}
use lib.IntN.{pos}
use Rattle.paper.specs.declared.Lent.TheVariants.{NetworkBytes, FaultBytes}
use Rattle.paper.specs.Bytes.{part}
use Rattle.paper.specs.Kind.{ohms}
use Rattle.paper.specs.Answer.{paper}
use Rattle.paper.proofs.Typed.{head, bd, ft, typed_open}
use Rattle.paper.proofs.Calls.{Figure, call, at, taken, refused, neg, All, all→}
use Rattle.paper.proofs.Figures.{j, records, gen, booth, net3}

-- a cable like the booth's, by its label and its feeder's
abbrev cable : String → String → List ℕ
cable l f = bd l f 2 0 (ohms 30 10) (ohms 30 10) (ohms 90 30) (j 0)

-- a generator and a cable, and a fault: of the cable's label, or of none
abbrev found : String → String → Figure
found l typed = call (head 230 1000 2 ++ gen ++ cable l "GEN") (ft typed 0 0 (j 0)) 61 (taken 2 2 5421) []

abbrev unknown : String → String → Figure
unknown l typed = call (head 230 1000 2 ++ gen ++ cable l "GEN") (ft typed 0 0 (j 0)) 61 (refused 14 0 (part FaultBytes 0 20)) []

-- a generator and two cables: the second is refused
abbrev third : String → String → String → ℕ → Figure
third l next feeder number = call (head 230 1000 3 ++ gen ++ cable l "GEN" ++ cable next feeder) (ft "GEN" 0 0 (j 0)) 85 (refused number 3 (part NetworkBytes 96 44)) []

unfoldable pub case_calls : List Figure
case_calls =
    -- 14: a fault at Booth-West-1 is one at BOOTH-WEST-1, with 01's numbers
    call net3 (ft "Booth-West-1" 1 0 (j 0)) 87 (taken 2 3 3709) (at 0 (pos 34600 ∷ pos 450 ∷ pos 0 ∷ pos 0 ∷ neg 330 ∷ []) ∷ at 13 (pos 28000 ∷ pos 0 ∷ pos 0 ∷ neg 9000 ∷ []) ∷ [])
    -- 8: a board fed from Booth-West-1 hangs on BOOTH-WEST-1
    ∷ call (head 230 1000 3 ++ gen ++ booth ++ cable "Tent" "Booth-West-1") (ft "TENT" 1 0 (j 0)) 85 (taken 3 3 2029) (at 0 (pos 115600 ∷ pos 900 ∷ pos 0 ∷ pos 0 ∷ neg 480 ∷ []) ∷ [])
    -- 7: Booth-West-1 is used
    ∷ third "BOOTH-WEST-1" "Booth-West-1" "GEN" 7
    -- every letter, and each place of a label
    ∷ found "ABCDEFGHIJKL" "abcdefghijkl"
    ∷ found "mnopqrstuvwx" "MNOPQRSTUVWX"
    ∷ found "yZ" "Yz"
    -- the bytes before and after the letters stay apart: @ and `, [ and {
    ∷ unknown "T@" "T`"
    ∷ unknown "T`" "T@"
    ∷ unknown "T[" "T{"
    ∷ unknown "T{" "T["
    -- so a label with the one is not used, and a feeder with the other not found
    ∷ call (head 230 1000 3 ++ gen ++ cable "T@" "gEN" ++ cable "t`" "t@") (ft "T`" 0 0 (j 0)) 85 (taken 3 3 3189) []
    ∷ third "T[" "U" "T{" 8
    ∷ []

pub case_hold : All case_calls
unfolding paper typed_open records case_calls
case_hold = all→ case_calls tt
