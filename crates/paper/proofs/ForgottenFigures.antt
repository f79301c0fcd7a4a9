-- 02, R-6: transformers with z1 zero, where 21 stands among the other rules, and what is taken as before, as real bytes, proved as one theorem by computing. The numbers are the second implementation's
-- (tools/oracle.py). Assumes nothing.
use mathlib.Core.Bool.{true, false}
use mathlib.Core.List.{List, [], ◌∷◌, ◌++◌}
use mathlib.Core.Path.{◌≡◌, refl}
use Prim.Native.Nat.{ℕ, ◌+◌, ◌*◌, ◌-◌}
use Rattle.paper.specs.declared.Ohms.{Ohms}
use Rattle.paper.specs.declared.Lent.TheVariants.{NetworkBytes}
use Rattle.paper.specs.Bytes.{part, within}
use Rattle.paper.specs.Kind.{ohms, is_zero}
use Rattle.paper.specs.Refusal.{z1_forgotten}
use Rattle.paper.specs.Answer.{paper}
use Rattle.paper.proofs.Typed.{head, bd, board, ft, typed_open}
use Rattle.paper.proofs.Calls.{Figure, call, taken, refused, All, all→}
use Rattle.paper.proofs.Figures.{j, records, gen, booth}

-- a record behind the generator, or behind another
abbrev pub hall : ℕ → ℕ → Ohms → Ohms → Ohms → Ohms → List ℕ
hall = bd "HALL" "GEN"

-- its z1 and z2 zero, of kind 4
abbrev forgotten : List ℕ
forgotten = hall 4 11 (j 0) (j 0) (j 20) (j 0)

-- 01's network with such a hall; with one whose sum passes 4,095 besides
abbrev pub forgetful : List ℕ
forgetful = head 230 1000 3 ++ gen ++ booth ++ forgotten

abbrev pub overgrown : List ℕ
overgrown = head 230 1000 3 ++ gen ++ booth ++ hall 4 11 (j 0) (j 0) (j 0) (j 1366)

-- a cable whose sum passes 4,095
abbrev far : List ℕ
far = bd "FAR" "GEN" 2 0 (j 4076) (j 4076) (j 0) (j 0)

-- the generator and such a record, asked at it: so many amps, or refused by a number
abbrev takes : List ℕ → ℕ → Figure
takes rec amps = call (head 230 1000 2 ++ gen ++ rec) (ft "HALL" 0 0 (j 0)) 61 (taken 2 2 amps) []

abbrev refuses : List ℕ → ℕ → Figure
refuses rec number = call (head 230 1000 2 ++ gen ++ rec) (ft "HALL" 0 0 (j 0)) 61 (refused number 2 (part NetworkBytes 52 44)) []

-- the generator and two records: refused by a number at a place
abbrev refuses3 : List ℕ → List ℕ → ℕ → ℕ → Figure
refuses3 second third number place = call (head 230 1000 3 ++ gen ++ second ++ third) (ft "GEN" 0 0 (j 0)) 85 (refused number place (part NetworkBytes (8 + 44 * (place - 1)) 44)) []

-- a source alone: refused by a number
abbrev refuses1 : List ℕ → ℕ → Figure
refuses1 source number = call (head 230 1000 1 ++ source) (ft "GEN" 0 0 (j 0)) 37 (refused number 1 (part NetworkBytes 8 44)) []

unfoldable pub forgotten_calls : List Figure
forgotten_calls =
    -- 21: each of the three kinds, whatever z0 and zn are
    refuses (hall 3 0 (j 0) (j 0) (j 0) (j 0)) 21
    ∷ refuses (hall 3 0 (j 0) (j 0) (ohms 3 4) (ohms 1 2)) 21
    ∷ refuses (hall 4 11 (j 0) (j 0) (j 20) (j 0)) 21
    ∷ refuses (hall 5 6 (j 0) (j 0) (j 0) (j 0)) 21
    -- R zero with X not, and X zero with R not, are taken
    ∷ takes (hall 3 0 (j 1) (j 1) (j 0) (j 0)) 10952
    ∷ takes (hall 3 0 (ohms 1 0) (ohms 1 0) (j 0) (j 0)) 11485
    ∷ takes (hall 4 11 (j 1) (j 1) (j 0) (j 0)) 10952
    ∷ takes (hall 4 11 (ohms 1 0) (ohms 1 0) (j 0) (j 0)) 11485
    ∷ takes (hall 5 6 (j 1) (j 1) (j 0) (j 0)) 10952
    ∷ takes (hall 5 6 (ohms 1 0) (ohms 1 0) (j 0) (j 0)) 11485
    -- kinds 0 to 2 as before: a source of nothing is 10, a cable of zero length is fine
    ∷ refuses1 (bd "GEN" "" 0 0 (j 0) (j 20) (j 5) (j 5)) 10
    ∷ refuses1 (bd "GEN" "" 1 0 (j 0) (j 20) (j 0) (j 0)) 10
    ∷ takes (hall 2 0 (j 0) (j 0) (j 0) (j 0)) 11500
    -- 9 and 10 before 21: an even clock, another z2, z0 too large, z0 where there is none
    ∷ refuses (hall 4 10 (j 0) (j 0) (j 20) (j 0)) 9
    ∷ refuses (hall 6 0 (j 0) (j 0) (j 0) (j 0)) 9
    ∷ refuses (hall 3 0 (j 0) (j 1) (j 0) (j 0)) 10
    ∷ refuses (hall 4 11 (j 0) (j 0) (j 4096) (j 0)) 10
    ∷ refuses (hall 5 6 (j 0) (j 0) (j 1) (j 0)) 10
    -- 21 before 11: a sum that passes 4,095 besides
    ∷ refuses (hall 4 11 (j 0) (j 0) (j 0) (j 1366)) 21
    ∷ refuses (hall 4 11 (j 1) (j 1) (j 0) (j 1366)) 11
    -- record by record: an earlier one's 11 comes first, a later one's does not; the first of two is named
    ∷ refuses3 far forgotten 11 2
    ∷ refuses3 forgotten far 21 2
    ∷ refuses3 (bd "BOOTH" "GEN" 2 0 (j 0) (j 0) (j 0) (j 0)) forgotten 21 3
    ∷ refuses3 (bd "TENT" "GEN" 5 0 (j 0) (j 0) (j 0) (j 0)) forgotten 21 2
    -- and all before the fault is looked at
    ∷ call forgetful [] 0 (refused 21 3 (part NetworkBytes 96 44)) []
    ∷ call overgrown [] 0 (refused 21 3 (part NetworkBytes 96 44)) []
    ∷ []

pub forgotten_hold : All forgotten_calls
unfolding paper typed_open records forgotten_calls
forgotten_hold = all→ forgotten_calls tt

-- z1 alone is asked: z2, which 10 has tested before, is not
pub z1_alone : (z1_forgotten (board "HALL" "GEN" 3 0 (j 0) (j 1) (j 0) (j 0)) ≡ true) × (z1_forgotten (board "HALL" "GEN" 3 0 (j 1) (j 0) (j 0) (j 0)) ≡ false)
unfolding z1_forgotten within is_zero typed_open
z1_alone = (refl, refl)
