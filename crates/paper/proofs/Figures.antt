-- 01, 'Figures worked through': two tables, with calls as real network and fault bytes, each proved as one theorem by computing. Assumes nothing.
use mathlib.Core.List.{List, [], ◌∷◌, ◌++◌}
use Prim.Native.Nat.{ℕ}
use lib.IntN.{pos}
use lib.ListN.{take, drop}
use Rattle.turn.specs.Number.{one_n, whole_n, power_n, ◌+N◌}
use Rattle.paper.specs.declared.Ohms.{Ohms}
use Rattle.paper.specs.declared.Lent.TheVariants.{NetworkBytes, FaultBytes}
use Rattle.paper.specs.Bytes.{part}
use Rattle.paper.specs.Kind.{ohms}
use Rattle.paper.specs.Answer.{paper}
use Rattle.paper.proofs.Typed.{head, bd, ft, typed_open}
use Rattle.paper.proofs.Calls.{Figure, call, same, at, taken, refused, neg, All, all→}

abbrev pub j : ℕ → Ohms
j x = ohms 0 x

-- ---- the records
unfoldable pub gen : List ℕ
gen = bd "GEN" "" 0 0 (j 20) (j 20) (j 5) (j 5)

unfoldable pub booth : List ℕ
booth = bd "BOOTH-WEST-1" "GEN" 2 0 (ohms 30 10) (ohms 30 10) (ohms 90 30) (j 0)

unfoldable pub hall : List ℕ
hall = bd "HALL" "GEN" 4 11 (j 20) (j 20) (j 20) (j 0)

unfoldable pub gen1365 : List ℕ
gen1365 = bd "GEN" "" 0 0 (j 20) (j 20) (j 0) (j 1365)

unfoldable pub gen1366 : List ℕ
gen1366 = bd "GEN" "" 0 0 (j 20) (j 20) (j 0) (j 1366)

unfoldable pub twice : List ℕ
twice = bd "GEN" "NOWHERE" 2 0 (j 20) (j 20) (j 0) (j 0)

unfoldable pub booth2 : List ℕ
booth2 = bd "BOOTH-WEST-2" "BOOTH-WEST-1" 2 0 (ohms 30 10) (ohms 30 10) (ohms 90 30) (j 0)

unfoldable pub example : List ℕ
example = bd "GEN" "" 0 0 (j 1696) (j 1696) (j 1999) (j 0)

unfoldable pub lop : List ℕ
lop = bd "GEN" "" 0 0 (ohms 3 20) (ohms 1 11) (ohms 2 5) (ohms 1 5)

unfoldable pub star : List ℕ
star = bd "STAR" "GEN" 3 0 (ohms 1 4) (ohms 1 4) (ohms 2 3) (ohms 5 7)

unfoldable pub under : List ℕ
under = bd "UNDER" "STAR" 2 0 (ohms 2 1) (ohms 2 1) (ohms 7 3) (j 0)

unfoldable pub block : List ℕ
block = bd "BLOCK" "GEN" 5 5 (ohms 1 9) (ohms 1 9) (j 0) (j 0)

unfoldable pub beyond : List ℕ
beyond = bd "BEYOND" "BLOCK" 4 7 (ohms 2 6) (ohms 2 6) (ohms 1 5) (ohms 3 1)

unfoldable pub behind : List ℕ
behind = bd "BEHIND" "BLOCK" 3 0 (ohms 1 2) (ohms 1 2) (ohms 4095 9) (ohms 4095 8)

unfoldable pub bare : List ℕ
bare = bd "GEN" "" 1 0 (j 20) (j 20) (j 0) (j 0)

unfoldable pub gap : List ℕ
gap = bd "GE N" "" 0 0 (j 20) (j 20) (j 5) (j 5)

unfoldable pub blank : List ℕ
blank = bd "" "" 0 0 (j 20) (j 20) (j 5) (j 5)

unfoldable pub lost : List ℕ
lost = bd "HALL" "NOWHERE" 9 0 (j 20) (j 20) (j 20) (j 0)

unfoldable pub spaced : List ℕ
spaced = bd "HALL" "" 2 0 (j 20) (j 20) (j 20) (j 0)

unfoldable pub fed : List ℕ
fed = bd "GEN" "GEN" 0 0 (j 20) (j 20) (j 5) (j 5)

unfoldable pub even : List ℕ
even = bd "HALL" "GEN" 4 10 (j 20) (j 20) (j 20) (j 0)

unfoldable pub second : List ℕ
second = bd "HALL" "GEN" 0 0 (j 20) (j 20) (j 20) (j 0)

unfoldable pub sixth : List ℕ
sixth = bd "HALL" "GEN" 6 0 (j 20) (j 20) (j 20) (j 0)

unfoldable pub cable1 : List ℕ
cable1 = bd "GEN" "" 2 0 (j 20) (j 20) (j 20) (j 0)

unfoldable pub uneven : List ℕ
uneven = bd "HALL" "GEN" 2 0 (j 20) (j 21) (j 20) (j 0)

unfoldable pub nil : List ℕ
nil = bd "GEN" "" 0 0 (j 20) (j 0) (j 5) (j 5)

unfoldable pub over : List ℕ
over = bd "HALL" "GEN" 2 0 (j 4096) (j 4096) (j 20) (j 0)

unfoldable pub most : List ℕ
most = bd "HALL" "GEN" 2 0 (j 4075) (j 4075) (j 20) (j 0)

unfoldable pub steep1 : List ℕ
steep1 = bd "GEN" "" 0 0 (j 4095) (j 20) (j 5) (j 5)

unfoldable pub steep2 : List ℕ
steep2 = bd "GEN" "" 0 0 (j 20) (j 4095) (j 5) (j 5)

unfoldable pub steep0 : List ℕ
steep0 = bd "GEN" "" 0 0 (ohms 20 0) (ohms 20 0) (ohms 4095 0) (j 0)

unfoldable pub short : List ℕ
short = bd "HALL" "GEN" 2 0 (ohms 1 1) (ohms 1 1) (ohms 1 1) (j 0)

unfoldable pub one : List ℕ
one = bd "GEN" "" 0 0 (j 1) (j 1) (j 0) (j 0)

unfoldable pub unturned : List ℕ
unturned = bd "BLOCK" "GEN" 5 0 (ohms 1 9) (ohms 1 9) (j 0) (j 0)

unfoldable pub neutral1 : List ℕ
neutral1 = bd "GEN" "" 1 0 (j 20) (j 20) (j 0) (j 5)

unfoldable pub neutral2 : List ℕ
neutral2 = bd "HALL" "GEN" 2 0 (j 20) (j 20) (j 20) (j 5)

unfoldable pub zero5 : List ℕ
zero5 = bd "HALL" "GEN" 5 0 (j 20) (j 20) (j 20) (j 0)

unfoldable pub rubout : List ℕ
rubout = bd "GE\u{7f}N" "" 0 0 (j 20) (j 20) (j 5) (j 5)

unfoldable pub neutral4096 : List ℕ
neutral4096 = bd "BEHIND" "BLOCK" 3 0 (ohms 1 2) (ohms 1 2) (j 9) (ohms 4096 0)

-- "Head: 230 V, unit 1,000. Record 1 GEN .. Record 2 BOOTH-WEST-1 .. Record 3 HALL"
unfoldable pub net3 : List ℕ
net3 = head 230 1000 3 ++ gen ++ booth ++ hall

-- "With record 1 alone (N 1)"
unfoldable pub net1 : List ℕ
net1 = head 230 1000 1 ++ gen

unfoldable pub records : Unit {0}
unfolding gen booth hall gen1365 gen1366 twice booth2 example lop star under block beyond behind bare gap blank lost spaced fed even second sixth cable1 uneven nil over most steep1 steep2 steep0 short one unturned neutral1 neutral2 zero5 rubout neutral4096 net3 net1
records = tt

-- ---- the cases marked *
unfoldable pub starred : List Figure
starred =
    -- 1 + t⁴ + t⁸ = 0
    same (one_n +N power_n 4 +N power_n 8) (whole_n (pos 0))
    -- t¹¹ = (0,1,0,-1)
    ∷ same (power_n 11) (record { x0 = pos 0; x1 = pos 1; x2 = pos 0; x3 = neg 1 })
    -- GEN kind 0: D 400
    ∷ call net3 (ft "GEN" 0 0 (j 0)) 87 (taken 1 3 11500) (at 0 (pos 400 ∷ []) ∷ [])
    -- GEN kind 2, p 0: D 1600, Ib, 9,959 A
    ∷ call net3 (ft "GEN" 2 0 (j 0)) 87 (taken 1 3 9959) (at 0 (pos 1600 ∷ []) ∷ at 5 (pos 0 ∷ neg 80 ∷ pos 0 ∷ pos 40 ∷ []) ∷ [])
    -- GEN kind 3, p 0: D 1440000, Ib, Ic, 11,500 A
    ∷ call net3 (ft "GEN" 3 0 (j 0)) 87 (taken 1 3 11500) (at 0 (pos 1440000 ∷ []) ∷ at 5 (pos 0 ∷ neg 72000 ∷ pos 0 ∷ pos 72000 ∷ []) ∷ at 9 (pos 0 ∷ pos 72000 ∷ pos 0 ∷ pos 0 ∷ []) ∷ [])
    -- BOOTH-WEST-1 kind 1, p 0: D 34600, Ia, 3,709 A; GEN's voltages a, b
    ∷ call net3 (ft "BOOTH-WEST-1" 1 0 (j 0)) 87 (taken 2 3 3709) (at 0 (pos 34600 ∷ []) ∷ at 1 (pos 450 ∷ pos 0 ∷ pos 0 ∷ neg 330 ∷ []) ∷ at 13 (pos 28000 ∷ pos 0 ∷ pos 0 ∷ neg 9000 ∷ []) ∷ at 17 (pos 0 ∷ pos 0 ∷ neg 34600 ∷ pos 0 ∷ []) ∷ [])
    -- the same, p 1: Ib
    ∷ call net3 (ft "BOOTH-WEST-1" 1 1 (j 0)) 87 (taken 2 3 3709) (at 5 (pos 0 ∷ neg 330 ∷ neg 450 ∷ pos 330 ∷ []) ∷ [])
    -- HALL kind 1, p 0: D 10000, Ia, 6,900 A; GEN's voltages a, b, c; GEN's current a
    ∷ call net3 (ft "HALL" 1 0 (j 0)) 87 (taken 3 3 6900) (at 0 (pos 10000 ∷ []) ∷ at 1 (pos 0 ∷ pos 0 ∷ pos 0 ∷ neg 300 ∷ []) ∷ at 13 (pos 0 ∷ pos 6000 ∷ pos 0 ∷ neg 8000 ∷ []) ∷ at 17 (pos 0 ∷ neg 6000 ∷ pos 0 ∷ neg 2000 ∷ []) ∷ at 21 (pos 0 ∷ pos 0 ∷ pos 0 ∷ pos 10000 ∷ []) ∷ at 25 (pos 100 ∷ pos 0 ∷ neg 200 ∷ pos 0 ∷ []) ∷ [])
    ∷ []

pub starred_hold : All starred
unfolding paper typed_open records starred
starred_hold = all→ starred tt

-- ---- those without a star that compute in reason, what the starred ones miss, and each number of a refusal
unfoldable pub others : List Figure
others =
    -- the program's print, whole: record 1 alone, GEN kind 0
    call net1 (ft "GEN" 0 0 (j 0)) 37 (taken 1 1 11500) (at 0 (pos 400 ∷ pos 0 ∷ pos 0 ∷ pos 0 ∷ neg 20 ∷ pos 0 ∷ neg 20 ∷ pos 0 ∷ pos 20 ∷ pos 0 ∷ pos 20 ∷ pos 0 ∷ pos 0 ∷ pos 0 ∷ pos 0 ∷ pos 0 ∷ pos 0 ∷ pos 0 ∷ pos 0 ∷ pos 0 ∷ pos 0 ∷ pos 0 ∷ pos 0 ∷ pos 0 ∷ pos 0 ∷ pos 0 ∷ pos 0 ∷ pos 0 ∷ neg 20 ∷ pos 0 ∷ neg 20 ∷ pos 0 ∷ pos 20 ∷ pos 0 ∷ pos 20 ∷ pos 0 ∷ pos 0 ∷ []) ∷ [])
    -- what lies after place 12 + 24N keeps its old values
    ∷ call net3 (ft "HALL" 1 0 (j 0)) 90 (taken 3 3 6900) (at 61 (pos 0 ∷ pos 0 ∷ pos 0 ∷ pos 0 ∷ pos 2000 ∷ pos 0 ∷ neg 10000 ∷ pos 0 ∷ neg 8000 ∷ pos 0 ∷ pos 10000 ∷ pos 0 ∷ pos 0 ∷ pos 0 ∷ pos 0 ∷ neg 300 ∷ pos 0 ∷ pos 0 ∷ pos 0 ∷ pos 0 ∷ pos 0 ∷ pos 0 ∷ pos 0 ∷ pos 0 ∷ []) ∷ at 85 (pos 7 ∷ pos 7 ∷ pos 7 ∷ pos 7 ∷ pos 7 ∷ []) ∷ [])
    -- refused: nothing is written
    ∷ call net3 (ft "HALL" 1 0 (j 0)) 84 (refused 19 0 (part FaultBytes 0 0)) (at 0 (pos 7 ∷ pos 7 ∷ pos 7 ∷ pos 7 ∷ pos 7 ∷ pos 7 ∷ pos 7 ∷ pos 7 ∷ pos 7 ∷ pos 7 ∷ pos 7 ∷ pos 7 ∷ pos 7 ∷ pos 7 ∷ pos 7 ∷ pos 7 ∷ pos 7 ∷ pos 7 ∷ pos 7 ∷ pos 7 ∷ pos 7 ∷ pos 7 ∷ pos 7 ∷ pos 7 ∷ pos 7 ∷ pos 7 ∷ pos 7 ∷ pos 7 ∷ pos 7 ∷ pos 7 ∷ pos 7 ∷ pos 7 ∷ pos 7 ∷ pos 7 ∷ pos 7 ∷ pos 7 ∷ pos 7 ∷ pos 7 ∷ pos 7 ∷ pos 7 ∷ pos 7 ∷ pos 7 ∷ pos 7 ∷ pos 7 ∷ pos 7 ∷ pos 7 ∷ pos 7 ∷ pos 7 ∷ pos 7 ∷ pos 7 ∷ pos 7 ∷ pos 7 ∷ pos 7 ∷ pos 7 ∷ pos 7 ∷ pos 7 ∷ pos 7 ∷ pos 7 ∷ pos 7 ∷ pos 7 ∷ pos 7 ∷ pos 7 ∷ pos 7 ∷ pos 7 ∷ pos 7 ∷ pos 7 ∷ pos 7 ∷ pos 7 ∷ pos 7 ∷ pos 7 ∷ pos 7 ∷ pos 7 ∷ pos 7 ∷ pos 7 ∷ pos 7 ∷ pos 7 ∷ pos 7 ∷ pos 7 ∷ pos 7 ∷ pos 7 ∷ pos 7 ∷ pos 7 ∷ pos 7 ∷ pos 7 ∷ []) ∷ [])
    -- Zf 1,365 taken
    ∷ call net1 (ft "GEN" 0 0 (ohms 1365 0)) 37 (taken 1 1 168) ([])
    -- Zf 1,366 refused (17)
    ∷ call net1 (ft "GEN" 0 0 (ohms 1366 0)) 37 (refused 17 0 (part FaultBytes 0 20)) ([])
    -- zn 1,365 with z0 = 0 in kind 0 taken
    ∷ call (head 230 1000 1 ++ gen1365) (ft "GEN" 0 0 (j 0)) 37 (taken 1 1 11500) ([])
    -- zn 1,366 refused (11)
    ∷ call (head 230 1000 1 ++ gen1366) (ft "GEN" 0 0 (j 0)) 37 (refused 11 1 (part NetworkBytes 8 44)) ([])
    -- N 257 refused (3)
    ∷ call (head 230 1000 257 ++ gen) (ft "GEN" 0 0 (j 0)) 37 (refused 3 0 (part NetworkBytes 0 8)) ([])
    -- a used label with an unknown feeder: 7
    ∷ call (head 230 1000 2 ++ gen ++ twice) (ft "GEN" 0 0 (j 0)) 61 (refused 7 2 (part NetworkBytes 52 44)) ([])
    -- a short fault and a short buffer: 12
    ∷ call net1 (take 19 (ft "GEN" 0 0 (j 0))) 0 (refused 12 0 (part FaultBytes 0 19)) ([])
    -- 003's one-phase example: 5.5648 per unit in all
    ∷ call (head 1000 10 1 ++ example) (ft "GEN" 1 0 (j 0)) 37 (taken 1 1 55648) (at 0 (pos 29062881 ∷ []) ∷ at 1 (pos 0 ∷ pos 0 ∷ pos 0 ∷ neg 16173 ∷ []) ∷ [])
    -- the most amps that there are: 1,000 V, 10 microohms, two phases to earth at one count
    ∷ call (head 1000 10 1 ++ one) (ft "GEN" 3 0 (j 0)) 37 (taken 1 1 300000000) ([])
    -- Zf counts three times in kind 1
    ∷ call net3 (ft "BOOTH-WEST-1" 1 0 (ohms 10 0)) 85 (taken 2 3 3270) (at 0 (pos 44500 ∷ []) ∷ at 1 (pos 540 ∷ pos 0 ∷ pos 0 ∷ neg 330 ∷ []) ∷ [])
    -- Zf counts once in kind 2, phase 1 is healthy
    ∷ call net3 (ft "BOOTH-WEST-1" 2 1 (ohms 10 3)) 85 (taken 2 3 4230) (at 0 (pos 8869 ∷ pos 140 ∷ neg 63 ∷ neg 70 ∷ neg 63 ∷ pos 0 ∷ pos 0 ∷ pos 0 ∷ pos 0 ∷ neg 140 ∷ pos 63 ∷ pos 70 ∷ pos 63 ∷ []) ∷ [])
    -- kind 3 where I2 and I0 differ
    ∷ call net3 (ft "BOOTH-WEST-1" 3 0 (ohms 10 3)) 85 (taken 2 3 2240) (at 0 (pos 170647200 ∷ pos 0 ∷ pos 0 ∷ pos 0 ∷ pos 0 ∷ pos 693060 ∷ neg 2844120 ∷ neg 2844120 ∷ pos 1821660 ∷ neg 2151060 ∷ pos 2844120 ∷ pos 2844120 ∷ neg 1022460 ∷ []) ∷ at 37 (pos 205135200 ∷ pos 0 ∷ pos 0 ∷ neg 6264000 ∷ neg 16977600 ∷ pos 0 ∷ pos 0 ∷ pos 3618000 ∷ neg 16977600 ∷ pos 0 ∷ pos 0 ∷ pos 3618000 ∷ pos 0 ∷ pos 0 ∷ pos 0 ∷ pos 0 ∷ pos 693060 ∷ neg 2844120 ∷ neg 2844120 ∷ pos 1821660 ∷ neg 2151060 ∷ pos 2844120 ∷ pos 2844120 ∷ neg 1022460 ∷ []) ∷ [])
    -- kind 3 behind a kind 4 record, phase 2
    ∷ call net3 (ft "HALL" 3 2 (ohms 1 2)) 85 (taken 3 3 7484) (at 0 (pos 13600000 ∷ pos 14400 ∷ neg 50800 ∷ neg 14400 ∷ neg 340000 ∷ pos 14400 ∷ neg 390800 ∷ neg 14400 ∷ pos 340000 ∷ pos 0 ∷ pos 0 ∷ pos 0 ∷ pos 0 ∷ []) ∷ at 13 (neg 96000 ∷ pos 8728000 ∷ neg 96000 ∷ neg 10656000 ∷ pos 0 ∷ neg 6800000 ∷ pos 0 ∷ pos 0 ∷ pos 96000 ∷ neg 1928000 ∷ pos 96000 ∷ pos 10656000 ∷ pos 96400 ∷ pos 4800 ∷ neg 243600 ∷ neg 9600 ∷ neg 340000 ∷ pos 0 ∷ pos 340000 ∷ pos 0 ∷ pos 243600 ∷ neg 4800 ∷ neg 96400 ∷ pos 9600 ∷ []) ∷ at 61 (pos 912000 ∷ neg 384000 ∷ neg 912000 ∷ pos 0 ∷ pos 912000 ∷ neg 384000 ∷ neg 912000 ∷ pos 0 ∷ neg 10656000 ∷ pos 192000 ∷ pos 10656000 ∷ pos 0 ∷ pos 14400 ∷ neg 50800 ∷ neg 14400 ∷ neg 340000 ∷ pos 14400 ∷ neg 390800 ∷ neg 14400 ∷ pos 340000 ∷ pos 0 ∷ pos 0 ∷ pos 0 ∷ pos 0 ∷ []) ∷ [])
    -- a source with Z2 other than Z1
    ∷ call (head 230 1000 1 ++ lop) (ft "GEN" 3 1 (ohms 2 1)) 37 (taken 1 1 7541) (at 0 (pos 1021192 ∷ pos 7324 ∷ neg 15492 ∷ pos 3028 ∷ neg 46188 ∷ pos 0 ∷ pos 0 ∷ pos 0 ∷ pos 0 ∷ neg 7324 ∷ pos 46188 ∷ pos 10352 ∷ pos 15492 ∷ pos 0 ∷ pos 48012 ∷ pos 57456 ∷ neg 48012 ∷ pos 0 ∷ pos 18096 ∷ neg 795732 ∷ neg 18096 ∷ pos 0 ∷ pos 48012 ∷ pos 57456 ∷ neg 48012 ∷ pos 7324 ∷ neg 15492 ∷ pos 3028 ∷ neg 46188 ∷ pos 0 ∷ pos 0 ∷ pos 0 ∷ pos 0 ∷ neg 7324 ∷ pos 46188 ∷ pos 10352 ∷ pos 15492 ∷ []) ∷ [])
    -- labels alike in eleven bytes are two boards
    ∷ call (head 230 1000 3 ++ gen ++ booth ++ booth2) (ft "BOOTH-WEST-2" 1 0 (j 0)) 85 (taken 3 3 2029) (at 0 (pos 115600 ∷ pos 900 ∷ pos 0 ∷ pos 0 ∷ neg 480 ∷ pos 0 ∷ pos 0 ∷ pos 0 ∷ pos 0 ∷ pos 0 ∷ pos 0 ∷ pos 0 ∷ pos 0 ∷ []) ∷ at 61 (pos 0 ∷ pos 0 ∷ pos 0 ∷ pos 0 ∷ neg 42400 ∷ pos 0 ∷ neg 115600 ∷ pos 7200 ∷ neg 158000 ∷ pos 0 ∷ pos 115600 ∷ pos 7200 ∷ pos 900 ∷ pos 0 ∷ pos 0 ∷ neg 480 ∷ pos 0 ∷ pos 0 ∷ pos 0 ∷ pos 0 ∷ pos 0 ∷ pos 0 ∷ pos 0 ∷ pos 0 ∷ []) ∷ [])
    -- kind 3 adds three times zn and goes on
    ∷ call (head 230 1000 3 ++ gen ++ star ++ under) (ft "UNDER" 1 2 (ohms 3 4)) 85 (taken 3 3 5960) (at 0 (pos 13402 ∷ pos 0 ∷ pos 0 ∷ pos 0 ∷ pos 0 ∷ pos 0 ∷ pos 0 ∷ pos 0 ∷ pos 0 ∷ neg 117 ∷ pos 327 ∷ pos 117 ∷ pos 0 ∷ pos 13402 ∷ pos 0 ∷ pos 0 ∷ pos 0 ∷ pos 0 ∷ pos 0 ∷ neg 13402 ∷ pos 0 ∷ neg 6862 ∷ pos 2340 ∷ pos 6862 ∷ pos 0 ∷ pos 0 ∷ pos 0 ∷ pos 0 ∷ pos 0 ∷ pos 0 ∷ pos 0 ∷ pos 0 ∷ pos 0 ∷ neg 117 ∷ pos 327 ∷ pos 117 ∷ pos 0 ∷ pos 16206 ∷ neg 964 ∷ neg 2804 ∷ pos 0 ∷ pos 2804 ∷ neg 964 ∷ neg 16206 ∷ pos 0 ∷ neg 2633 ∷ pos 1517 ∷ pos 2633 ∷ pos 0 ∷ pos 0 ∷ pos 0 ∷ pos 0 ∷ pos 0 ∷ pos 0 ∷ pos 0 ∷ pos 0 ∷ pos 0 ∷ neg 117 ∷ pos 327 ∷ pos 117 ∷ pos 0 ∷ pos 16619 ∷ neg 1431 ∷ neg 3217 ∷ pos 0 ∷ pos 3217 ∷ neg 1431 ∷ neg 16619 ∷ pos 0 ∷ neg 1659 ∷ pos 513 ∷ pos 1659 ∷ pos 0 ∷ pos 0 ∷ pos 0 ∷ pos 0 ∷ pos 0 ∷ pos 0 ∷ pos 0 ∷ pos 0 ∷ pos 0 ∷ neg 117 ∷ pos 327 ∷ pos 117 ∷ pos 0 ∷ []) ∷ [])
    -- kinds 5 and 4 turn the phases, and zero sequence starts afresh
    ∷ call (head 230 1000 3 ++ gen ++ block ++ beyond) (ft "BEYOND" 1 0 (j 0)) 85 (taken 3 3 8665) (at 0 (pos 6340 ∷ pos 48 ∷ pos 0 ∷ pos 0 ∷ neg 234 ∷ pos 0 ∷ pos 0 ∷ pos 0 ∷ pos 0 ∷ pos 0 ∷ pos 0 ∷ pos 0 ∷ pos 0 ∷ pos 3220 ∷ pos 0 ∷ pos 0 ∷ neg 640 ∷ pos 1560 ∷ pos 0 ∷ neg 6340 ∷ pos 320 ∷ neg 4780 ∷ pos 0 ∷ pos 6340 ∷ pos 320 ∷ pos 32 ∷ pos 0 ∷ pos 0 ∷ neg 156 ∷ neg 16 ∷ pos 0 ∷ pos 0 ∷ pos 78 ∷ neg 16 ∷ pos 0 ∷ pos 0 ∷ pos 78 ∷ neg 386 ∷ neg 1784 ∷ pos 772 ∷ neg 2278 ∷ pos 0 ∷ pos 0 ∷ pos 0 ∷ pos 6340 ∷ pos 386 ∷ pos 1784 ∷ neg 772 ∷ neg 4062 ∷ neg 78 ∷ neg 32 ∷ pos 156 ∷ pos 16 ∷ pos 0 ∷ pos 0 ∷ pos 0 ∷ pos 0 ∷ pos 78 ∷ pos 32 ∷ neg 156 ∷ neg 16 ∷ pos 0 ∷ pos 0 ∷ pos 0 ∷ pos 0 ∷ pos 1994 ∷ pos 0 ∷ neg 6340 ∷ pos 978 ∷ neg 4346 ∷ pos 0 ∷ pos 6340 ∷ pos 978 ∷ pos 48 ∷ pos 0 ∷ pos 0 ∷ neg 234 ∷ pos 0 ∷ pos 0 ∷ pos 0 ∷ pos 0 ∷ pos 0 ∷ pos 0 ∷ pos 0 ∷ pos 0 ∷ []) ∷ [])
    -- a fault above turned boards
    ∷ call (head 230 1000 3 ++ gen ++ block ++ beyond) (ft "BLOCK" 2 1 (j 0)) 85 (taken 2 3 6864) (at 0 (pos 3368 ∷ pos 4 ∷ neg 58 ∷ neg 2 ∷ neg 58 ∷ pos 0 ∷ pos 0 ∷ pos 0 ∷ pos 0 ∷ neg 4 ∷ pos 58 ∷ pos 2 ∷ pos 58 ∷ []) ∷ at 37 (pos 0 ∷ pos 0 ∷ pos 1684 ∷ pos 0 ∷ pos 0 ∷ pos 0 ∷ neg 3368 ∷ pos 0 ∷ pos 0 ∷ pos 0 ∷ pos 1684 ∷ pos 0 ∷ pos 4 ∷ neg 58 ∷ neg 2 ∷ neg 58 ∷ pos 0 ∷ pos 0 ∷ pos 0 ∷ pos 0 ∷ neg 4 ∷ pos 58 ∷ pos 2 ∷ pos 58 ∷ pos 0 ∷ pos 0 ∷ pos 0 ∷ pos 0 ∷ pos 0 ∷ pos 1684 ∷ pos 0 ∷ pos 1684 ∷ pos 0 ∷ neg 1684 ∷ pos 0 ∷ neg 1684 ∷ pos 0 ∷ pos 0 ∷ pos 0 ∷ pos 0 ∷ pos 0 ∷ pos 0 ∷ pos 0 ∷ pos 0 ∷ pos 0 ∷ pos 0 ∷ pos 0 ∷ pos 0 ∷ []) ∷ [])
    -- kind 5 keeps earth current out, so BLOCK is lifted
    ∷ call (head 230 1000 2 ++ gen ++ block) (ft "BLOCK" 1 0 (j 0)) 61 (taken 2 2 0) (at 0 (pos 1 ∷ pos 0 ∷ pos 0 ∷ pos 0 ∷ pos 0 ∷ pos 0 ∷ pos 0 ∷ pos 0 ∷ pos 0 ∷ pos 0 ∷ pos 0 ∷ pos 0 ∷ pos 0 ∷ []) ∷ at 13 (pos 0 ∷ neg 1 ∷ pos 0 ∷ pos 1 ∷ pos 0 ∷ pos 1 ∷ pos 0 ∷ pos 0 ∷ pos 0 ∷ pos 0 ∷ pos 0 ∷ neg 1 ∷ pos 0 ∷ pos 0 ∷ pos 0 ∷ pos 0 ∷ pos 0 ∷ pos 0 ∷ pos 0 ∷ pos 0 ∷ pos 0 ∷ pos 0 ∷ pos 0 ∷ pos 0 ∷ []) ∷ at 37 (pos 0 ∷ pos 0 ∷ pos 0 ∷ pos 0 ∷ neg 1 ∷ pos 0 ∷ neg 1 ∷ pos 0 ∷ neg 2 ∷ pos 0 ∷ pos 1 ∷ pos 0 ∷ pos 0 ∷ pos 0 ∷ pos 0 ∷ pos 0 ∷ pos 0 ∷ pos 0 ∷ pos 0 ∷ pos 0 ∷ pos 0 ∷ pos 0 ∷ pos 0 ∷ pos 0 ∷ []) ∷ [])
    -- kind 3 under a board without earth return has none, and no sum to be over 4,095
    ∷ call (head 230 1000 3 ++ gen ++ block ++ behind) (ft "BEHIND" 3 0 (j 0)) 85 (taken 3 3 0) (at 0 (pos 3860 ∷ pos 0 ∷ pos 0 ∷ pos 0 ∷ pos 0 ∷ pos 4 ∷ neg 124 ∷ neg 8 ∷ pos 62 ∷ neg 4 ∷ pos 124 ∷ pos 8 ∷ neg 62 ∷ pos 80 ∷ neg 3860 ∷ pos 0 ∷ pos 2620 ∷ pos 80 ∷ pos 3860 ∷ pos 0 ∷ neg 1240 ∷ neg 160 ∷ pos 0 ∷ pos 0 ∷ neg 1380 ∷ pos 62 ∷ pos 0 ∷ pos 0 ∷ pos 4 ∷ pos 62 ∷ pos 0 ∷ pos 0 ∷ pos 4 ∷ neg 124 ∷ pos 0 ∷ pos 0 ∷ neg 8 ∷ pos 5790 ∷ pos 0 ∷ pos 0 ∷ pos 0 ∷ pos 128 ∷ neg 108 ∷ neg 256 ∷ pos 54 ∷ neg 128 ∷ pos 108 ∷ pos 256 ∷ neg 54 ∷ pos 0 ∷ pos 0 ∷ pos 0 ∷ pos 0 ∷ pos 4 ∷ neg 124 ∷ neg 8 ∷ pos 62 ∷ neg 4 ∷ pos 124 ∷ pos 8 ∷ neg 62 ∷ pos 5790 ∷ pos 0 ∷ pos 0 ∷ pos 0 ∷ pos 0 ∷ pos 0 ∷ pos 0 ∷ pos 0 ∷ pos 0 ∷ pos 0 ∷ pos 0 ∷ pos 0 ∷ pos 0 ∷ pos 0 ∷ pos 0 ∷ pos 0 ∷ pos 4 ∷ neg 124 ∷ neg 8 ∷ pos 62 ∷ neg 4 ∷ pos 124 ∷ pos 8 ∷ neg 62 ∷ []) ∷ [])
    -- a board without earth return has zero-sequence voltage zero
    ∷ call (head 230 1000 3 ++ gen ++ block ++ behind) (ft "BEHIND" 0 0 (j 0)) 85 (taken 3 3 7403) (at 0 (pos 965 ∷ pos 2 ∷ pos 0 ∷ pos 0 ∷ neg 31 ∷ pos 0 ∷ neg 31 ∷ neg 2 ∷ pos 31 ∷ neg 2 ∷ pos 31 ∷ pos 2 ∷ pos 0 ∷ []) ∷ at 61 (pos 0 ∷ pos 0 ∷ pos 0 ∷ pos 0 ∷ pos 0 ∷ pos 0 ∷ pos 0 ∷ pos 0 ∷ pos 0 ∷ pos 0 ∷ pos 0 ∷ pos 0 ∷ pos 2 ∷ pos 0 ∷ pos 0 ∷ neg 31 ∷ pos 0 ∷ neg 31 ∷ neg 2 ∷ pos 31 ∷ neg 2 ∷ pos 31 ∷ pos 2 ∷ pos 0 ∷ []) ∷ [])
    -- an unearthed source
    ∷ call (head 230 1000 2 ++ bare ++ booth) (ft "BOOTH-WEST-1" 1 0 (j 0)) 61 (taken 2 2 0) (at 0 (pos 1 ∷ pos 0 ∷ pos 0 ∷ pos 0 ∷ pos 0 ∷ pos 0 ∷ pos 0 ∷ pos 0 ∷ pos 0 ∷ pos 0 ∷ pos 0 ∷ pos 0 ∷ pos 0 ∷ pos 0 ∷ pos 0 ∷ pos 0 ∷ pos 0 ∷ neg 1 ∷ pos 0 ∷ neg 1 ∷ pos 0 ∷ neg 2 ∷ pos 0 ∷ pos 1 ∷ pos 0 ∷ pos 0 ∷ pos 0 ∷ pos 0 ∷ pos 0 ∷ pos 0 ∷ pos 0 ∷ pos 0 ∷ pos 0 ∷ pos 0 ∷ pos 0 ∷ pos 0 ∷ pos 0 ∷ pos 0 ∷ pos 0 ∷ pos 0 ∷ pos 0 ∷ neg 1 ∷ pos 0 ∷ neg 1 ∷ pos 0 ∷ neg 2 ∷ pos 0 ∷ pos 1 ∷ pos 0 ∷ pos 0 ∷ pos 0 ∷ pos 0 ∷ pos 0 ∷ pos 0 ∷ pos 0 ∷ pos 0 ∷ pos 0 ∷ pos 0 ∷ pos 0 ∷ pos 0 ∷ pos 0 ∷ []) ∷ [])
    -- 1: under 8 bytes
    ∷ call (take 7 net1) (ft "GEN" 0 0 (j 0)) 37 (refused 1 0 (part NetworkBytes 0 7)) ([])
    -- 2: head mark
    ∷ call (0 ∷ drop 1 net1) (ft "GEN" 0 0 (j 0)) 37 (refused 2 0 (part NetworkBytes 0 8)) ([])
    -- 3: volts
    ∷ call (head 0 1000 1 ++ gen) (ft "GEN" 0 0 (j 0)) 37 (refused 3 0 (part NetworkBytes 0 8)) ([])
    -- 3: volts
    ∷ call (head 1001 1000 1 ++ gen) (ft "GEN" 0 0 (j 0)) 37 (refused 3 0 (part NetworkBytes 0 8)) ([])
    -- 3: unit
    ∷ call (head 230 9 1 ++ gen) (ft "GEN" 0 0 (j 0)) 37 (refused 3 0 (part NetworkBytes 0 8)) ([])
    -- 3: unit
    ∷ call (head 230 1001 1 ++ gen) (ft "GEN" 0 0 (j 0)) 37 (refused 3 0 (part NetworkBytes 0 8)) ([])
    -- 3: N
    ∷ call (head 230 1000 0) (ft "GEN" 0 0 (j 0)) 37 (refused 3 0 (part NetworkBytes 0 8)) ([])
    -- 4: length
    ∷ call (head 230 1000 2 ++ gen) (ft "GEN" 0 0 (j 0)) 61 (refused 4 0 (part NetworkBytes 0 8)) ([])
    -- 5: board mark
    ∷ call (head 230 1000 1 ++ (0 ∷ drop 1 gen)) (ft "GEN" 0 0 (j 0)) 37 (refused 5 1 (part NetworkBytes 8 44)) ([])
    -- 6: a space inside
    ∷ call (head 230 1000 1 ++ gap) (ft "GEN" 0 0 (j 0)) 37 (refused 6 1 (part NetworkBytes 8 44)) ([])
    -- 6: no letter
    ∷ call (head 230 1000 1 ++ blank) (ft "GEN" 0 0 (j 0)) 37 (refused 6 1 (part NetworkBytes 8 44)) ([])
    -- 6: 0x7F inside
    ∷ call (head 230 1000 1 ++ rubout) (ft "GEN" 0 0 (j 0)) 37 (refused 6 1 (part NetworkBytes 8 44)) ([])
    -- 8 before 9: unknown feeder, unknown kind
    ∷ call (head 230 1000 2 ++ gen ++ lost) (ft "GEN" 0 0 (j 0)) 61 (refused 8 2 (part NetworkBytes 52 44)) ([])
    -- 8: twelve spaces feed record 1 alone
    ∷ call (head 230 1000 2 ++ gen ++ spaced) (ft "GEN" 0 0 (j 0)) 61 (refused 8 2 (part NetworkBytes 52 44)) ([])
    -- 8: record 1 has a feeder
    ∷ call (head 230 1000 1 ++ fed) (ft "GEN" 0 0 (j 0)) 37 (refused 8 1 (part NetworkBytes 8 44)) ([])
    -- 9: an even clock in kind 4
    ∷ call (head 230 1000 2 ++ gen ++ even) (ft "GEN" 0 0 (j 0)) 61 (refused 9 2 (part NetworkBytes 52 44)) ([])
    -- kind 5 with clock 0
    ∷ call (head 230 1000 2 ++ gen ++ unturned) (ft "GEN" 0 0 (j 0)) 61 (taken 1 2 11500) ([])
    -- 9: a source in record 2
    ∷ call (head 230 1000 2 ++ gen ++ second) (ft "GEN" 0 0 (j 0)) 61 (refused 9 2 (part NetworkBytes 52 44)) ([])
    -- 9: no such kind
    ∷ call (head 230 1000 2 ++ gen ++ sixth) (ft "GEN" 0 0 (j 0)) 61 (refused 9 2 (part NetworkBytes 52 44)) ([])
    -- 9: a cable in record 1
    ∷ call (head 230 1000 1 ++ cable1) (ft "GEN" 0 0 (j 0)) 37 (refused 9 1 (part NetworkBytes 8 44)) ([])
    -- 10: a cable with z1 other than z2
    ∷ call (head 230 1000 2 ++ gen ++ uneven) (ft "GEN" 0 0 (j 0)) 61 (refused 10 2 (part NetworkBytes 52 44)) ([])
    -- 10: a source with z2 zero
    ∷ call (head 230 1000 1 ++ nil) (ft "GEN" 0 0 (j 0)) 37 (refused 10 1 (part NetworkBytes 8 44)) ([])
    -- 10: an unearthed source with zn
    ∷ call (head 230 1000 1 ++ neutral1) (ft "GEN" 0 0 (j 0)) 37 (refused 10 1 (part NetworkBytes 8 44)) ([])
    -- 10: a cable with zn
    ∷ call (head 230 1000 2 ++ gen ++ neutral2) (ft "GEN" 0 0 (j 0)) 61 (refused 10 2 (part NetworkBytes 52 44)) ([])
    -- 10: kind 5 with z0
    ∷ call (head 230 1000 2 ++ gen ++ zero5) (ft "GEN" 0 0 (j 0)) 61 (refused 10 2 (part NetworkBytes 52 44)) ([])
    -- 10: zn of 4,096, in no sum
    ∷ call (head 230 1000 3 ++ gen ++ block ++ neutral4096) (ft "GEN" 0 0 (j 0)) 85 (refused 10 3 (part NetworkBytes 96 44)) ([])
    -- 10 before 11: 4,096
    ∷ call (head 230 1000 2 ++ gen ++ over) (ft "GEN" 0 0 (j 0)) 61 (refused 10 2 (part NetworkBytes 52 44)) ([])
    -- 11: a part of Z1 is 4,096
    ∷ call (head 230 1000 2 ++ steep1 ++ short) (ft "GEN" 0 0 (j 0)) 61 (refused 11 2 (part NetworkBytes 52 44)) ([])
    -- 11: a part of Z2 is 4,096
    ∷ call (head 230 1000 2 ++ steep2 ++ short) (ft "GEN" 0 0 (j 0)) 61 (refused 11 2 (part NetworkBytes 52 44)) ([])
    -- 11: a part of Z0 is 4,096
    ∷ call (head 230 1000 2 ++ steep0 ++ short) (ft "GEN" 0 0 (j 0)) 61 (refused 11 2 (part NetworkBytes 52 44)) ([])
    -- a sum of 4,095 is taken
    ∷ call (head 230 1000 2 ++ gen ++ most) (ft "GEN" 0 0 (j 0)) 61 (taken 1 2 11500) ([])
    -- 13: fault mark
    ∷ call net1 (0 ∷ drop 1 (ft "GEN" 0 0 (j 0))) 37 (refused 13 0 (part FaultBytes 0 20)) ([])
    -- 14: no board has the label
    ∷ call net1 (ft "HALL" 1 0 (j 0)) 37 (refused 14 0 (part FaultBytes 0 20)) ([])
    -- 15: fault kind over 3
    ∷ call net1 (ft "GEN" 4 0 (j 0)) 37 (refused 15 0 (part FaultBytes 0 20)) ([])
    -- 16: kind 0 with phase 1
    ∷ call net1 (ft "GEN" 0 1 (j 0)) 37 (refused 16 0 (part FaultBytes 0 20)) ([])
    -- 16: phase over 2
    ∷ call net1 (ft "GEN" 1 3 (j 0)) 37 (refused 16 0 (part FaultBytes 0 20)) ([])
    -- 16 before 17
    ∷ call net1 (ft "GEN" 0 1 (ohms 1366 0)) 37 (refused 16 0 (part FaultBytes 0 20)) ([])
    -- 19: a short buffer
    ∷ call net1 (ft "GEN" 0 0 (j 0)) 36 (refused 19 0 (part FaultBytes 0 0)) (at 0 (pos 7 ∷ pos 7 ∷ pos 7 ∷ pos 7 ∷ pos 7 ∷ pos 7 ∷ pos 7 ∷ pos 7 ∷ pos 7 ∷ pos 7 ∷ pos 7 ∷ pos 7 ∷ pos 7 ∷ pos 7 ∷ pos 7 ∷ pos 7 ∷ pos 7 ∷ pos 7 ∷ pos 7 ∷ pos 7 ∷ pos 7 ∷ pos 7 ∷ pos 7 ∷ pos 7 ∷ pos 7 ∷ pos 7 ∷ pos 7 ∷ pos 7 ∷ pos 7 ∷ pos 7 ∷ pos 7 ∷ pos 7 ∷ pos 7 ∷ pos 7 ∷ pos 7 ∷ pos 7 ∷ []) ∷ [])
    ∷ []

pub others_hold : All others
unfolding paper typed_open records others
others_hold = all→ others tt
