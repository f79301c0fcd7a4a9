-- 02, R-2: earth faults at boards without earth return, small networks that can be followed by hand, as real bytes and whole buffers, proved as one theorem by computing. The numbers are the second
-- implementation's (tools/oracle.py). Assumes nothing.
use mathlib.Core.List.{List, [], ◌∷◌, ◌++◌}
use Prim.Native.Nat.{ℕ}
use lib.IntN.{pos}
use Rattle.paper.specs.declared.Lent.TheVariants.{FaultBytes}
use Rattle.paper.specs.Bytes.{part}
use Rattle.paper.specs.Kind.{ohms}
use Rattle.paper.specs.Answer.{paper}
use Rattle.paper.proofs.Typed.{head, bd, ft, typed_open}
use Rattle.paper.proofs.Calls.{Figure, call, at, taken, refused, neg, All, all→}
use Rattle.paper.proofs.Figures.{j, records, gen, booth, hall, star, block, behind, bare}

-- ---- the records that 01's figures do not have
unfoldable pub skew : List ℕ
skew = bd "GEN" "" 1 0 (ohms 3 20) (ohms 1 11) (j 0) (j 0)

unfoldable pub beside : List ℕ
beside = bd "BESIDE" "BLOCK" 2 0 (ohms 4 2) (ohms 4 2) (ohms 6 9) (j 0)

unfoldable pub below : List ℕ
below = bd "BELOW" "BEHIND" 2 0 (ohms 2 1) (ohms 2 1) (ohms 7 3) (j 0)

unfoldable pub barrier : List ℕ
barrier = bd "BARRIER" "GEN" 5 0 (ohms 2 7) (ohms 2 7) (j 0) (j 0)

unfoldable pub beyond : List ℕ
beyond = bd "BEYOND" "BARRIER" 2 0 (ohms 3 1) (ohms 3 1) (ohms 5 5) (j 0)

unfoldable pub side : List ℕ
side = bd "SIDE" "STAR" 2 0 (ohms 2 1) (ohms 2 1) (ohms 5 4) (j 0)

-- ---- the calls
unfoldable pub unearthed_calls : List Figure
unearthed_calls =
    -- a generator off earth, phase a to earth: nothing flows, a shows 0 and the other two rise to the voltage between phases
    call (head 230 1000 1 ++ bare) (ft "GEN" 1 0 (j 0)) 37 (taken 1 1 0) (at 0 (pos 1 ∷ pos 0 ∷ pos 0 ∷ pos 0 ∷ pos 0 ∷ pos 0 ∷ pos 0 ∷ pos 0 ∷ pos 0 ∷ pos 0 ∷ pos 0 ∷ pos 0 ∷ pos 0 ∷ pos 0 ∷ pos 0 ∷ pos 0 ∷ pos 0 ∷ neg 1 ∷ pos 0 ∷ neg 1 ∷ pos 0 ∷ neg 2 ∷ pos 0 ∷ pos 1 ∷ pos 0 ∷ pos 0 ∷ pos 0 ∷ pos 0 ∷ pos 0 ∷ pos 0 ∷ pos 0 ∷ pos 0 ∷ pos 0 ∷ pos 0 ∷ pos 0 ∷ pos 0 ∷ pos 0 ∷ []) ∷ [])
    -- a generator off earth, phase b to earth: nothing flows, b shows 0 and the other two rise to the voltage between phases; Zf has no say
    ∷ call (head 230 1000 1 ++ bare) (ft "GEN" 1 1 (ohms 9 9)) 37 (taken 1 1 0) (at 0 (pos 1 ∷ pos 0 ∷ pos 0 ∷ pos 0 ∷ pos 0 ∷ pos 0 ∷ pos 0 ∷ pos 0 ∷ pos 0 ∷ pos 0 ∷ pos 0 ∷ pos 0 ∷ pos 0 ∷ pos 1 ∷ pos 0 ∷ pos 1 ∷ pos 0 ∷ pos 0 ∷ pos 0 ∷ pos 0 ∷ pos 0 ∷ neg 1 ∷ pos 0 ∷ pos 2 ∷ pos 0 ∷ pos 0 ∷ pos 0 ∷ pos 0 ∷ pos 0 ∷ pos 0 ∷ pos 0 ∷ pos 0 ∷ pos 0 ∷ pos 0 ∷ pos 0 ∷ pos 0 ∷ pos 0 ∷ []) ∷ [])
    -- a generator off earth, phase c to earth: nothing flows, c shows 0 and the other two rise to the voltage between phases
    ∷ call (head 230 1000 1 ++ bare) (ft "GEN" 1 2 (j 0)) 37 (taken 1 1 0) (at 0 (pos 1 ∷ pos 0 ∷ pos 0 ∷ pos 0 ∷ pos 0 ∷ pos 0 ∷ pos 0 ∷ pos 0 ∷ pos 0 ∷ pos 0 ∷ pos 0 ∷ pos 0 ∷ pos 0 ∷ pos 2 ∷ pos 0 ∷ neg 1 ∷ pos 0 ∷ pos 1 ∷ pos 0 ∷ neg 2 ∷ pos 0 ∷ pos 0 ∷ pos 0 ∷ pos 0 ∷ pos 0 ∷ pos 0 ∷ pos 0 ∷ pos 0 ∷ pos 0 ∷ pos 0 ∷ pos 0 ∷ pos 0 ∷ pos 0 ∷ pos 0 ∷ pos 0 ∷ pos 0 ∷ pos 0 ∷ []) ∷ [])
    -- two phases to earth there: the current of two phases clear of earth, without Zf; both show 0; no earth amps
    ∷ call (head 230 1000 1 ++ skew) (ft "GEN" 3 0 (ohms 7 5)) 37 (taken 1 1 0) (at 0 (pos 977 ∷ pos 0 ∷ pos 0 ∷ pos 0 ∷ pos 0 ∷ pos 4 ∷ neg 62 ∷ neg 8 ∷ pos 31 ∷ neg 4 ∷ pos 62 ∷ pos 8 ∷ neg 31 ∷ pos 1035 ∷ pos 0 ∷ pos 0 ∷ pos 39 ∷ pos 0 ∷ pos 0 ∷ pos 0 ∷ pos 0 ∷ pos 0 ∷ pos 0 ∷ pos 0 ∷ pos 0 ∷ pos 0 ∷ pos 0 ∷ pos 0 ∷ pos 0 ∷ pos 4 ∷ neg 62 ∷ neg 8 ∷ pos 31 ∷ neg 4 ∷ pos 62 ∷ pos 8 ∷ neg 31 ∷ []) ∷ [])
    -- and of phases a and b
    ∷ call (head 230 1000 1 ++ skew) (ft "GEN" 3 2 (j 0)) 37 (taken 1 1 0) (at 0 (pos 977 ∷ pos 4 ∷ pos 31 ∷ pos 4 ∷ neg 62 ∷ neg 4 ∷ neg 31 ∷ neg 4 ∷ pos 62 ∷ pos 0 ∷ pos 0 ∷ pos 0 ∷ pos 0 ∷ pos 0 ∷ pos 0 ∷ pos 0 ∷ pos 0 ∷ pos 0 ∷ pos 0 ∷ pos 0 ∷ pos 0 ∷ neg 1035 ∷ neg 39 ∷ pos 1035 ∷ pos 0 ∷ pos 4 ∷ pos 31 ∷ pos 4 ∷ neg 62 ∷ neg 4 ∷ neg 31 ∷ neg 4 ∷ pos 62 ∷ pos 0 ∷ pos 0 ∷ pos 0 ∷ pos 0 ∷ []) ∷ [])
    -- behind a kind 5 transformer: its board and the cable are lifted; the source keeps its voltages
    ∷ call (head 230 1000 3 ++ gen ++ block ++ beside) (ft "BESIDE" 1 2 (j 0)) 85 (taken 3 3 0) (at 0 (pos 1 ∷ pos 0 ∷ pos 0 ∷ pos 0 ∷ pos 0 ∷ pos 0 ∷ pos 0 ∷ pos 0 ∷ pos 0 ∷ pos 0 ∷ pos 0 ∷ pos 0 ∷ pos 0 ∷ pos 0 ∷ neg 1 ∷ pos 0 ∷ pos 1 ∷ pos 0 ∷ pos 1 ∷ pos 0 ∷ pos 0 ∷ pos 0 ∷ pos 0 ∷ pos 0 ∷ neg 1 ∷ pos 0 ∷ pos 0 ∷ pos 0 ∷ pos 0 ∷ pos 0 ∷ pos 0 ∷ pos 0 ∷ pos 0 ∷ pos 0 ∷ pos 0 ∷ pos 0 ∷ pos 0 ∷ pos 2 ∷ pos 0 ∷ neg 1 ∷ pos 0 ∷ pos 1 ∷ pos 0 ∷ neg 2 ∷ pos 0 ∷ pos 0 ∷ pos 0 ∷ pos 0 ∷ pos 0 ∷ pos 0 ∷ pos 0 ∷ pos 0 ∷ pos 0 ∷ pos 0 ∷ pos 0 ∷ pos 0 ∷ pos 0 ∷ pos 0 ∷ pos 0 ∷ pos 0 ∷ pos 0 ∷ pos 2 ∷ pos 0 ∷ neg 1 ∷ pos 0 ∷ pos 1 ∷ pos 0 ∷ neg 2 ∷ pos 0 ∷ pos 0 ∷ pos 0 ∷ pos 0 ∷ pos 0 ∷ pos 0 ∷ pos 0 ∷ pos 0 ∷ pos 0 ∷ pos 0 ∷ pos 0 ∷ pos 0 ∷ pos 0 ∷ pos 0 ∷ pos 0 ∷ pos 0 ∷ pos 0 ∷ []) ∷ [])
    -- two phases to earth there: the source gives the current, and is not lifted
    ∷ call (head 230 1000 3 ++ gen ++ block ++ beside) (ft "BESIDE" 3 1 (j 0)) 85 (taken 3 3 0) (at 0 (pos 3944 ∷ pos 20 ∷ neg 62 ∷ neg 10 ∷ neg 62 ∷ pos 0 ∷ pos 0 ∷ pos 0 ∷ pos 0 ∷ neg 20 ∷ pos 62 ∷ pos 10 ∷ pos 62 ∷ pos 0 ∷ neg 1464 ∷ pos 400 ∷ pos 1464 ∷ pos 0 ∷ pos 2704 ∷ neg 200 ∷ pos 1240 ∷ pos 0 ∷ neg 1240 ∷ neg 200 ∷ neg 2704 ∷ pos 0 ∷ neg 20 ∷ pos 124 ∷ pos 20 ∷ pos 0 ∷ pos 10 ∷ neg 62 ∷ neg 10 ∷ pos 0 ∷ pos 10 ∷ neg 62 ∷ neg 10 ∷ pos 328 ∷ neg 228 ∷ neg 164 ∷ neg 228 ∷ pos 0 ∷ pos 0 ∷ neg 5916 ∷ pos 0 ∷ neg 328 ∷ pos 228 ∷ pos 164 ∷ pos 228 ∷ pos 20 ∷ neg 62 ∷ neg 10 ∷ neg 62 ∷ pos 0 ∷ pos 0 ∷ pos 0 ∷ pos 0 ∷ neg 20 ∷ pos 62 ∷ pos 10 ∷ pos 62 ∷ pos 0 ∷ pos 0 ∷ pos 0 ∷ pos 0 ∷ pos 0 ∷ pos 0 ∷ neg 5916 ∷ pos 0 ∷ pos 0 ∷ pos 0 ∷ pos 0 ∷ pos 0 ∷ pos 20 ∷ neg 62 ∷ neg 10 ∷ neg 62 ∷ pos 0 ∷ pos 0 ∷ pos 0 ∷ pos 0 ∷ neg 20 ∷ pos 62 ∷ pos 10 ∷ pos 62 ∷ []) ∷ [])
    -- the lift goes down through kind 3 and on
    ∷ call (head 230 1000 4 ++ gen ++ block ++ behind ++ below) (ft "BLOCK" 1 0 (j 0)) 109 (taken 2 4 0) (at 0 (pos 1 ∷ pos 0 ∷ pos 0 ∷ pos 0 ∷ pos 0 ∷ pos 0 ∷ pos 0 ∷ pos 0 ∷ pos 0 ∷ pos 0 ∷ pos 0 ∷ pos 0 ∷ pos 0 ∷ pos 0 ∷ neg 1 ∷ pos 0 ∷ pos 1 ∷ pos 0 ∷ pos 1 ∷ pos 0 ∷ pos 0 ∷ pos 0 ∷ pos 0 ∷ pos 0 ∷ neg 1 ∷ pos 0 ∷ pos 0 ∷ pos 0 ∷ pos 0 ∷ pos 0 ∷ pos 0 ∷ pos 0 ∷ pos 0 ∷ pos 0 ∷ pos 0 ∷ pos 0 ∷ pos 0 ∷ pos 0 ∷ pos 0 ∷ pos 0 ∷ pos 0 ∷ neg 1 ∷ pos 0 ∷ neg 1 ∷ pos 0 ∷ neg 2 ∷ pos 0 ∷ pos 1 ∷ pos 0 ∷ pos 0 ∷ pos 0 ∷ pos 0 ∷ pos 0 ∷ pos 0 ∷ pos 0 ∷ pos 0 ∷ pos 0 ∷ pos 0 ∷ pos 0 ∷ pos 0 ∷ pos 0 ∷ pos 0 ∷ pos 0 ∷ pos 0 ∷ pos 0 ∷ neg 1 ∷ pos 0 ∷ neg 1 ∷ pos 0 ∷ neg 2 ∷ pos 0 ∷ pos 1 ∷ pos 0 ∷ pos 0 ∷ pos 0 ∷ pos 0 ∷ pos 0 ∷ pos 0 ∷ pos 0 ∷ pos 0 ∷ pos 0 ∷ pos 0 ∷ pos 0 ∷ pos 0 ∷ pos 0 ∷ pos 0 ∷ pos 0 ∷ pos 0 ∷ pos 0 ∷ neg 1 ∷ pos 0 ∷ neg 1 ∷ pos 0 ∷ neg 2 ∷ pos 0 ∷ pos 1 ∷ pos 0 ∷ pos 0 ∷ pos 0 ∷ pos 0 ∷ pos 0 ∷ pos 0 ∷ pos 0 ∷ pos 0 ∷ pos 0 ∷ pos 0 ∷ pos 0 ∷ pos 0 ∷ pos 0 ∷ []) ∷ [])
    -- and up, and down again
    ∷ call (head 230 1000 5 ++ gen ++ block ++ behind ++ beside ++ below) (ft "BELOW" 1 1 (j 0)) 133 (taken 5 5 0) (at 0 (pos 1 ∷ pos 0 ∷ pos 0 ∷ pos 0 ∷ pos 0 ∷ pos 0 ∷ pos 0 ∷ pos 0 ∷ pos 0 ∷ pos 0 ∷ pos 0 ∷ pos 0 ∷ pos 0 ∷ pos 0 ∷ neg 1 ∷ pos 0 ∷ pos 1 ∷ pos 0 ∷ pos 1 ∷ pos 0 ∷ pos 0 ∷ pos 0 ∷ pos 0 ∷ pos 0 ∷ neg 1 ∷ pos 0 ∷ pos 0 ∷ pos 0 ∷ pos 0 ∷ pos 0 ∷ pos 0 ∷ pos 0 ∷ pos 0 ∷ pos 0 ∷ pos 0 ∷ pos 0 ∷ pos 0 ∷ pos 1 ∷ pos 0 ∷ pos 1 ∷ pos 0 ∷ pos 0 ∷ pos 0 ∷ pos 0 ∷ pos 0 ∷ neg 1 ∷ pos 0 ∷ pos 2 ∷ pos 0 ∷ pos 0 ∷ pos 0 ∷ pos 0 ∷ pos 0 ∷ pos 0 ∷ pos 0 ∷ pos 0 ∷ pos 0 ∷ pos 0 ∷ pos 0 ∷ pos 0 ∷ pos 0 ∷ pos 1 ∷ pos 0 ∷ pos 1 ∷ pos 0 ∷ pos 0 ∷ pos 0 ∷ pos 0 ∷ pos 0 ∷ neg 1 ∷ pos 0 ∷ pos 2 ∷ pos 0 ∷ pos 0 ∷ pos 0 ∷ pos 0 ∷ pos 0 ∷ pos 0 ∷ pos 0 ∷ pos 0 ∷ pos 0 ∷ pos 0 ∷ pos 0 ∷ pos 0 ∷ pos 0 ∷ pos 1 ∷ pos 0 ∷ pos 1 ∷ pos 0 ∷ pos 0 ∷ pos 0 ∷ pos 0 ∷ pos 0 ∷ neg 1 ∷ pos 0 ∷ pos 2 ∷ pos 0 ∷ pos 0 ∷ pos 0 ∷ pos 0 ∷ pos 0 ∷ pos 0 ∷ pos 0 ∷ pos 0 ∷ pos 0 ∷ pos 0 ∷ pos 0 ∷ pos 0 ∷ pos 0 ∷ pos 1 ∷ pos 0 ∷ pos 1 ∷ pos 0 ∷ pos 0 ∷ pos 0 ∷ pos 0 ∷ pos 0 ∷ neg 1 ∷ pos 0 ∷ pos 2 ∷ pos 0 ∷ pos 0 ∷ pos 0 ∷ pos 0 ∷ pos 0 ∷ pos 0 ∷ pos 0 ∷ pos 0 ∷ pos 0 ∷ pos 0 ∷ pos 0 ∷ pos 0 ∷ pos 0 ∷ []) ∷ [])
    -- two parts without earth return, the fault in one: the other has W0 zero
    ∷ call (head 230 1000 5 ++ gen ++ block ++ beside ++ barrier ++ beyond) (ft "BESIDE" 1 0 (j 0)) 133 (taken 3 5 0) (at 0 (pos 1 ∷ pos 0 ∷ pos 0 ∷ pos 0 ∷ pos 0 ∷ pos 0 ∷ pos 0 ∷ pos 0 ∷ pos 0 ∷ pos 0 ∷ pos 0 ∷ pos 0 ∷ pos 0 ∷ pos 0 ∷ neg 1 ∷ pos 0 ∷ pos 1 ∷ pos 0 ∷ pos 1 ∷ pos 0 ∷ pos 0 ∷ pos 0 ∷ pos 0 ∷ pos 0 ∷ neg 1 ∷ pos 0 ∷ pos 0 ∷ pos 0 ∷ pos 0 ∷ pos 0 ∷ pos 0 ∷ pos 0 ∷ pos 0 ∷ pos 0 ∷ pos 0 ∷ pos 0 ∷ pos 0 ∷ pos 0 ∷ pos 0 ∷ pos 0 ∷ pos 0 ∷ neg 1 ∷ pos 0 ∷ neg 1 ∷ pos 0 ∷ neg 2 ∷ pos 0 ∷ pos 1 ∷ pos 0 ∷ pos 0 ∷ pos 0 ∷ pos 0 ∷ pos 0 ∷ pos 0 ∷ pos 0 ∷ pos 0 ∷ pos 0 ∷ pos 0 ∷ pos 0 ∷ pos 0 ∷ pos 0 ∷ pos 0 ∷ pos 0 ∷ pos 0 ∷ pos 0 ∷ neg 1 ∷ pos 0 ∷ neg 1 ∷ pos 0 ∷ neg 2 ∷ pos 0 ∷ pos 1 ∷ pos 0 ∷ pos 0 ∷ pos 0 ∷ pos 0 ∷ pos 0 ∷ pos 0 ∷ pos 0 ∷ pos 0 ∷ pos 0 ∷ pos 0 ∷ pos 0 ∷ pos 0 ∷ pos 0 ∷ pos 0 ∷ neg 1 ∷ pos 0 ∷ pos 1 ∷ pos 0 ∷ pos 1 ∷ pos 0 ∷ pos 0 ∷ pos 0 ∷ pos 0 ∷ pos 0 ∷ neg 1 ∷ pos 0 ∷ pos 0 ∷ pos 0 ∷ pos 0 ∷ pos 0 ∷ pos 0 ∷ pos 0 ∷ pos 0 ∷ pos 0 ∷ pos 0 ∷ pos 0 ∷ pos 0 ∷ pos 0 ∷ neg 1 ∷ pos 0 ∷ pos 1 ∷ pos 0 ∷ pos 1 ∷ pos 0 ∷ pos 0 ∷ pos 0 ∷ pos 0 ∷ pos 0 ∷ neg 1 ∷ pos 0 ∷ pos 0 ∷ pos 0 ∷ pos 0 ∷ pos 0 ∷ pos 0 ∷ pos 0 ∷ pos 0 ∷ pos 0 ∷ pos 0 ∷ pos 0 ∷ pos 0 ∷ []) ∷ [])
    -- and in the other
    ∷ call (head 230 1000 5 ++ gen ++ block ++ beside ++ barrier ++ beyond) (ft "BARRIER" 3 2 (ohms 1 1)) 133 (taken 4 5 0) (at 0 (pos 2932 ∷ pos 4 ∷ pos 54 ∷ pos 4 ∷ neg 108 ∷ neg 4 ∷ neg 54 ∷ neg 4 ∷ pos 108 ∷ pos 0 ∷ pos 0 ∷ pos 0 ∷ pos 0 ∷ pos 1852 ∷ pos 80 ∷ neg 1080 ∷ neg 160 ∷ pos 1080 ∷ neg 80 ∷ neg 1852 ∷ pos 160 ∷ neg 2932 ∷ pos 0 ∷ pos 2932 ∷ pos 0 ∷ pos 4 ∷ pos 54 ∷ pos 4 ∷ neg 108 ∷ neg 4 ∷ neg 54 ∷ neg 4 ∷ pos 108 ∷ pos 0 ∷ pos 0 ∷ pos 0 ∷ pos 0 ∷ neg 160 ∷ neg 772 ∷ pos 160 ∷ pos 0 ∷ pos 80 ∷ neg 1080 ∷ neg 80 ∷ pos 2932 ∷ pos 80 ∷ pos 1852 ∷ neg 80 ∷ neg 2932 ∷ pos 0 ∷ pos 0 ∷ pos 0 ∷ pos 0 ∷ pos 0 ∷ pos 0 ∷ pos 0 ∷ pos 0 ∷ pos 0 ∷ pos 0 ∷ pos 0 ∷ pos 0 ∷ neg 160 ∷ neg 772 ∷ pos 160 ∷ pos 0 ∷ pos 80 ∷ neg 1080 ∷ neg 80 ∷ pos 2932 ∷ pos 80 ∷ pos 1852 ∷ neg 80 ∷ neg 2932 ∷ pos 0 ∷ pos 0 ∷ pos 0 ∷ pos 0 ∷ pos 0 ∷ pos 0 ∷ pos 0 ∷ pos 0 ∷ pos 0 ∷ pos 0 ∷ pos 0 ∷ pos 0 ∷ pos 0 ∷ pos 0 ∷ pos 0 ∷ pos 0 ∷ pos 0 ∷ pos 0 ∷ pos 0 ∷ pos 0 ∷ neg 4398 ∷ pos 0 ∷ pos 4398 ∷ pos 0 ∷ pos 4 ∷ pos 54 ∷ pos 4 ∷ neg 108 ∷ neg 4 ∷ neg 54 ∷ neg 4 ∷ pos 108 ∷ pos 0 ∷ pos 0 ∷ pos 0 ∷ pos 0 ∷ pos 0 ∷ pos 0 ∷ pos 0 ∷ pos 0 ∷ pos 0 ∷ pos 0 ∷ pos 0 ∷ pos 0 ∷ neg 4398 ∷ pos 0 ∷ pos 4398 ∷ pos 0 ∷ pos 0 ∷ pos 0 ∷ pos 0 ∷ pos 0 ∷ pos 0 ∷ pos 0 ∷ pos 0 ∷ pos 0 ∷ pos 0 ∷ pos 0 ∷ pos 0 ∷ pos 0 ∷ []) ∷ [])
    -- no lift through kind 4, which has an earth return of its own
    ∷ call (head 230 1000 4 ++ bare ++ hall ++ star ++ side) (ft "SIDE" 1 0 (j 0)) 109 (taken 4 4 0) (at 0 (pos 1 ∷ pos 0 ∷ pos 0 ∷ pos 0 ∷ pos 0 ∷ pos 0 ∷ pos 0 ∷ pos 0 ∷ pos 0 ∷ pos 0 ∷ pos 0 ∷ pos 0 ∷ pos 0 ∷ pos 0 ∷ pos 0 ∷ pos 0 ∷ pos 0 ∷ neg 1 ∷ pos 0 ∷ neg 1 ∷ pos 0 ∷ neg 2 ∷ pos 0 ∷ pos 1 ∷ pos 0 ∷ pos 0 ∷ pos 0 ∷ pos 0 ∷ pos 0 ∷ pos 0 ∷ pos 0 ∷ pos 0 ∷ pos 0 ∷ pos 0 ∷ pos 0 ∷ pos 0 ∷ pos 0 ∷ pos 0 ∷ pos 1 ∷ pos 0 ∷ pos 0 ∷ pos 0 ∷ pos 0 ∷ pos 0 ∷ neg 1 ∷ pos 0 ∷ neg 1 ∷ pos 0 ∷ pos 1 ∷ pos 0 ∷ pos 0 ∷ pos 0 ∷ pos 0 ∷ pos 0 ∷ pos 0 ∷ pos 0 ∷ pos 0 ∷ pos 0 ∷ pos 0 ∷ pos 0 ∷ pos 0 ∷ pos 0 ∷ pos 0 ∷ pos 0 ∷ pos 0 ∷ neg 1 ∷ pos 0 ∷ neg 1 ∷ pos 0 ∷ neg 2 ∷ pos 0 ∷ pos 1 ∷ pos 0 ∷ pos 0 ∷ pos 0 ∷ pos 0 ∷ pos 0 ∷ pos 0 ∷ pos 0 ∷ pos 0 ∷ pos 0 ∷ pos 0 ∷ pos 0 ∷ pos 0 ∷ pos 0 ∷ pos 0 ∷ pos 0 ∷ pos 0 ∷ pos 0 ∷ neg 1 ∷ pos 0 ∷ neg 1 ∷ pos 0 ∷ neg 2 ∷ pos 0 ∷ pos 1 ∷ pos 0 ∷ pos 0 ∷ pos 0 ∷ pos 0 ∷ pos 0 ∷ pos 0 ∷ pos 0 ∷ pos 0 ∷ pos 0 ∷ pos 0 ∷ pos 0 ∷ pos 0 ∷ pos 0 ∷ []) ∷ [])
    -- and behind it an earth fault as ever
    ∷ call (head 230 1000 4 ++ bare ++ hall ++ star ++ side) (ft "HALL" 1 0 (j 0)) 109 (taken 2 4 6900) (at 0 (pos 10000 ∷ pos 0 ∷ pos 0 ∷ pos 0 ∷ neg 300 ∷ pos 0 ∷ pos 0 ∷ pos 0 ∷ pos 0 ∷ pos 0 ∷ pos 0 ∷ pos 0 ∷ pos 0 ∷ pos 0 ∷ pos 6000 ∷ pos 0 ∷ neg 8000 ∷ pos 0 ∷ neg 6000 ∷ pos 0 ∷ neg 2000 ∷ pos 0 ∷ pos 0 ∷ pos 0 ∷ pos 10000 ∷ pos 100 ∷ pos 0 ∷ neg 200 ∷ pos 0 ∷ neg 100 ∷ pos 0 ∷ pos 200 ∷ pos 0 ∷ pos 0 ∷ pos 0 ∷ pos 0 ∷ pos 0 ∷ pos 0 ∷ pos 0 ∷ pos 0 ∷ pos 0 ∷ pos 2000 ∷ pos 0 ∷ neg 10000 ∷ pos 0 ∷ neg 8000 ∷ pos 0 ∷ pos 10000 ∷ pos 0 ∷ pos 0 ∷ pos 0 ∷ pos 0 ∷ neg 300 ∷ pos 0 ∷ pos 0 ∷ pos 0 ∷ pos 0 ∷ pos 0 ∷ pos 0 ∷ pos 0 ∷ pos 0 ∷ pos 0 ∷ pos 6000 ∷ pos 0 ∷ neg 8000 ∷ pos 0 ∷ neg 6000 ∷ pos 0 ∷ neg 2000 ∷ pos 0 ∷ pos 0 ∷ pos 0 ∷ pos 10000 ∷ pos 0 ∷ pos 0 ∷ pos 0 ∷ pos 0 ∷ pos 0 ∷ pos 0 ∷ pos 0 ∷ pos 0 ∷ pos 0 ∷ pos 0 ∷ pos 0 ∷ pos 0 ∷ pos 0 ∷ pos 6000 ∷ pos 0 ∷ neg 8000 ∷ pos 0 ∷ neg 6000 ∷ pos 0 ∷ neg 2000 ∷ pos 0 ∷ pos 0 ∷ pos 0 ∷ pos 10000 ∷ pos 0 ∷ pos 0 ∷ pos 0 ∷ pos 0 ∷ pos 0 ∷ pos 0 ∷ pos 0 ∷ pos 0 ∷ pos 0 ∷ pos 0 ∷ pos 0 ∷ pos 0 ∷ []) ∷ [])
    -- kind 2 as ever
    ∷ call (head 230 1000 2 ++ bare ++ booth) (ft "BOOTH-WEST-1" 2 0 (ohms 1 2)) 61 (taken 2 2 4580) (at 0 (pos 7565 ∷ pos 0 ∷ pos 0 ∷ pos 0 ∷ pos 0 ∷ pos 61 ∷ neg 124 ∷ neg 122 ∷ pos 62 ∷ neg 61 ∷ pos 124 ∷ pos 122 ∷ neg 62 ∷ pos 7565 ∷ pos 0 ∷ pos 0 ∷ pos 0 ∷ neg 1240 ∷ neg 2440 ∷ neg 5085 ∷ pos 1220 ∷ neg 6325 ∷ pos 2440 ∷ pos 5085 ∷ neg 1220 ∷ pos 0 ∷ pos 0 ∷ pos 0 ∷ pos 0 ∷ pos 61 ∷ neg 124 ∷ neg 122 ∷ pos 62 ∷ neg 61 ∷ pos 124 ∷ pos 122 ∷ neg 62 ∷ pos 7565 ∷ pos 0 ∷ pos 0 ∷ pos 0 ∷ neg 3690 ∷ pos 60 ∷ neg 185 ∷ neg 30 ∷ neg 3875 ∷ neg 60 ∷ pos 185 ∷ pos 30 ∷ pos 0 ∷ pos 0 ∷ pos 0 ∷ pos 0 ∷ pos 61 ∷ neg 124 ∷ neg 122 ∷ pos 62 ∷ neg 61 ∷ pos 124 ∷ pos 122 ∷ neg 62 ∷ []) ∷ [])
    -- kind 0 as ever
    ∷ call (head 230 1000 2 ++ bare ++ booth) (ft "BOOTH-WEST-1" 0 0 (j 0)) 61 (taken 2 2 5421) (at 0 (pos 1800 ∷ pos 30 ∷ pos 0 ∷ pos 0 ∷ neg 30 ∷ pos 0 ∷ neg 30 ∷ neg 30 ∷ pos 30 ∷ neg 30 ∷ pos 30 ∷ pos 30 ∷ pos 0 ∷ pos 1200 ∷ pos 0 ∷ pos 0 ∷ neg 600 ∷ pos 0 ∷ neg 600 ∷ neg 1200 ∷ pos 600 ∷ neg 1200 ∷ pos 600 ∷ pos 1200 ∷ pos 0 ∷ pos 30 ∷ pos 0 ∷ pos 0 ∷ neg 30 ∷ pos 0 ∷ neg 30 ∷ neg 30 ∷ pos 30 ∷ neg 30 ∷ pos 30 ∷ pos 30 ∷ pos 0 ∷ pos 0 ∷ pos 0 ∷ pos 0 ∷ pos 0 ∷ pos 0 ∷ pos 0 ∷ pos 0 ∷ pos 0 ∷ pos 0 ∷ pos 0 ∷ pos 0 ∷ pos 0 ∷ pos 30 ∷ pos 0 ∷ pos 0 ∷ neg 30 ∷ pos 0 ∷ neg 30 ∷ neg 30 ∷ pos 30 ∷ neg 30 ∷ pos 30 ∷ pos 30 ∷ pos 0 ∷ []) ∷ [])
    -- 17: Zf is still tested
    ∷ call (head 230 1000 1 ++ bare) (ft "GEN" 1 0 (ohms 1366 0)) 37 (refused 17 0 (part FaultBytes 0 20)) ([])
    -- 16 too
    ∷ call (head 230 1000 1 ++ bare) (ft "GEN" 1 3 (j 0)) 37 (refused 16 0 (part FaultBytes 0 20)) ([])
    -- 19 still comes last
    ∷ call (head 230 1000 1 ++ bare) (ft "GEN" 1 0 (j 0)) 36 (refused 19 0 (part FaultBytes 0 0)) ([])
    ∷ []

pub unearthed_hold : All unearthed_calls
unfolding paper typed_open records skew beside below barrier beyond side unearthed_calls
unearthed_hold = all→ unearthed_calls tt
