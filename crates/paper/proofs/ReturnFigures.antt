-- 02, R-4: where the earth return of a board comes from, or what stops it, in small networks that can be followed by hand, as real bytes, proved as one theorem by computing. The records are those of
-- the other figures. Assumes nothing.
use mathlib.Core.Bool.{Bool, true, ◌&&◌}
use mathlib.Core.List.{List, [], ◌∷◌, ◌++◌}
use mathlib.Core.Path.{◌≡◌}
use Prim.Native.Nat.{ℕ}
use Prim.Native.String.{String}
use lib.Dec.{T}
use lib.ListN.{take}
use Rattle.lemmas.proofs.Bools.{both_t}
use Rattle.paper.specs.declared.Part.{Part}
use Rattle.paper.specs.declared.Lent.TheVariants.{NetworkBytes, LabelBytes}
use Rattle.paper.specs.Bytes.{part}
use Rattle.paper.specs.Kind.{ohms}
use Rattle.paper.specs.Answer.{paper}
use Rattle.paper.specs.Return.{Said, earth_return_from, none_stopped_at, refused_by, earth_said, return_open}
use Rattle.paper.proofs.Typed.{head, label, bd, typed_open}
use Rattle.paper.proofs.Compare.{same_said, same_said→}
use Rattle.paper.proofs.Figures.{j, records, gen, booth, hall, star, under, block, beyond, behind, bare, lost, net3}
use Rattle.paper.proofs.UnearthedFigures.{below, side}

-- ---- a row: a network, a label's bytes, what is said. It says an equation, and is tested by computing
pub data Row : Type 0 where
  asks : List ℕ → List ℕ → Said → Row

abbrev pub All : List Row → Type 0
All [] = Unit {0}
All (asks net l s ∷ rows) = (earth_said net l ≡ s) × All rows

abbrev all? : List Row → Bool
all? [] = true
all? (asks net l s ∷ rows) = same_said (earth_said net l) s && all? rows

all→ : (rows : List Row) → T (all? rows) → All rows
all→ [] t = tt
all→ (asks net l s ∷ rows) t = let h = both_t (same_said (earth_said net l) s) (all? rows) t in (same_said→ (earth_said net l) s h.0, all→ rows h.1)

-- ---- the records that the other figures do not have
-- a second transformer that blocks, behind the first; one behind 01's HALL; cables behind these and behind BEYOND
unfoldable pub inner : List ℕ
inner = bd "INNER" "BLOCK" 5 1 (ohms 1 3) (ohms 1 3) (j 0) (j 0)

unfoldable pub foyer : List ℕ
foyer = bd "FOYER" "HALL" 5 0 (ohms 1 3) (ohms 1 3) (j 0) (j 0)

abbrev cable : String → String → List ℕ
cable l f = bd l f 2 0 (ohms 3 1) (ohms 3 1) (ohms 9 3) (j 0)

-- ---- the networks
-- 01's with the set's star point off earth
abbrev pub floating : List ℕ
floating = head 230 1000 3 ++ bare ++ booth ++ hall

-- GEN, BLOCK (5) on it, and on that BEHIND (3) with BELOW, BEYOND (4) with TENT, INNER (5) with ROOM
abbrev pub stopped : List ℕ
stopped = head 230 1000 8 ++ gen ++ block ++ behind ++ below ++ beyond ++ inner ++ cable "TENT" "BEYOND" ++ cable "ROOM" "INNER"

-- 14, with all bytes of the label
abbrev unknown : ℕ → Said
unknown len = refused_by (record { part = part LabelBytes 0 len; place = 0; number = 14 })

abbrev refused : ℕ → ℕ → Part → Said
refused number place p = refused_by (record { part = p; place = place; number = number })

unfoldable pub returns : List Row
returns =
    -- 01's network: the set's own, the booth's by its cable, the hall's from its transformer
    asks net3 (label "GEN") (earth_return_from 1)
    ∷ asks net3 (label "BOOTH-WEST-1") (earth_return_from 1)
    ∷ asks net3 (label "HALL") (earth_return_from 3)
    -- star/star, both earthed, goes on
    ∷ asks (head 230 1000 3 ++ gen ++ star ++ under) (label "UNDER") (earth_return_from 1)
    -- the set's star point off earth: the set is to blame, but not for the hall
    ∷ asks floating (label "GEN") (none_stopped_at 1)
    ∷ asks floating (label "BOOTH-WEST-1") (none_stopped_at 1)
    ∷ asks floating (label "HALL") (earth_return_from 3)
    -- and star/star does not help
    ∷ asks (head 230 1000 3 ++ bare ++ star ++ side) (label "SIDE") (none_stopped_at 1)
    -- a transformer that blocks, though the set is earthed: itself, star/star on it, a cable on that
    ∷ asks stopped (label "GEN") (earth_return_from 1)
    ∷ asks stopped (label "BLOCK") (none_stopped_at 2)
    ∷ asks stopped (label "BEHIND") (none_stopped_at 2)
    ∷ asks stopped (label "BELOW") (none_stopped_at 2)
    -- a delta with an earthed star behind it starts afresh
    ∷ asks stopped (label "BEYOND") (earth_return_from 5)
    ∷ asks stopped (label "TENT") (earth_return_from 5)
    -- of two that block, the nearer
    ∷ asks stopped (label "INNER") (none_stopped_at 6)
    ∷ asks stopped (label "ROOM") (none_stopped_at 6)
    -- one that blocks behind one that starts
    ∷ asks (head 230 1000 4 ++ gen ++ hall ++ foyer ++ cable "ROOM" "FOYER") (label "ROOM") (none_stopped_at 3)
    -- labels in any case, as everywhere
    ∷ asks net3 (label "booth-West-1") (earth_return_from 1)
    -- 14: no board has the label; it is malformed; spaces
    ∷ asks net3 (label "NOBODY") (unknown 12)
    ∷ asks net3 (label "GE N") (unknown 12)
    ∷ asks net3 (label "") (unknown 12)
    -- not of twelve bytes: none, a label's letters alone, eleven, thirteen
    ∷ asks net3 [] (unknown 0)
    ∷ asks net3 (take 3 (label "GEN")) (unknown 3)
    ∷ asks net3 (take 11 (label "GEN")) (unknown 11)
    ∷ asks net3 (take 11 (label "BOOTH-WEST-1")) (unknown 11)
    ∷ asks net3 (label "GEN" ++ (0x20 ∷ [])) (unknown 13)
    ∷ asks net3 (label "GEN" ++ (0x0A ∷ [])) (unknown 13)
    -- the network's own come first, with their places and parts
    ∷ asks [] [] (refused 1 0 (part NetworkBytes 0 0))
    ∷ asks (head 0 1000 1 ++ gen) (label "NOBODY") (refused 3 0 (part NetworkBytes 0 8))
    ∷ asks (head 230 1000 2 ++ gen ++ lost) (label "GEN") (refused 8 2 (part NetworkBytes 52 44))
    ∷ asks (head 230 1000 2 ++ gen ++ bd "HALL" "GEN" 4 11 (j 0) (j 0) (j 20) (j 0)) (label "GEN") (refused 21 2 (part NetworkBytes 52 44))
    ∷ []

pub returns_hold : All returns
unfolding paper return_open typed_open records below side inner foyer returns
returns_hold = all→ returns tt
