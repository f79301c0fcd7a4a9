-- 01, 'Sums', and 02, R-2: a board's chain, the part of the network that it lies in, the earth return of that part, and the sums. Places count from 1; 0 is no place. A chain and a part
-- look at no later board. Assumes nothing.
use Rattle.std.specs.Prelude.{Bool, true, false, cond, List, [], ◌∷◌, ℕ, zero, suc, ◌+◌, ◌-◌, eqb, get_or, take}
use Rattle.paper.specs.declared.Ohms.{Ohms}
use Rattle.paper.specs.declared.Board.{Board}
use Rattle.paper.specs.Bytes.{one_of}
use Rattle.paper.specs.Label.{Label, same_label}
use Rattle.paper.specs.Kind.{ohms, ◌+Ω◌, Zero, starts, goes_on, none, kind_of, zero_term}

abbrev pub Boards : Type 0
Boards = List Board

-- what stands past the last board: no label is its
abbrev pub no_board : Board
no_board = record { z1 = ohms 0 0; z2 = ohms 0 0; z0 = ohms 0 0; zn = ohms 0 0; label = []; feeder = []; kind = 0; clock = 0 }

abbrev pub board : Boards → ℕ → Board
board bs r = get_or bs (r - 1) no_board

-- "a label is looked for in it from the front: the first equal one, or none" (none: 0)
unfoldable pub look_from : ℕ → Label → Boards → ℕ
look_from r l [] = 0
look_from r l (b ∷ bs) = let later = look_from (suc r) l bs in cond (same_label l b.label) r later

abbrev pub place_of : Label → Boards → ℕ
place_of l bs = look_from 1 l bs

-- "Any other feeder is the label of an earlier record." (record 1, and a feeder that is no earlier label: 0)
unfoldable pub feeder_of : Boards → ℕ → ℕ
feeder_of bs r = place_of (board bs r).feeder (take (r - 1) bs)

-- a climb: the place r, then the climb from the place that a rule gives for r. It gives an earlier one, so r steps are enough
unfoldable pub climb : ℕ → (ℕ → ℕ) → ℕ → List ℕ
climb zero up r = []
climb (suc steps) up zero = []
climb (suc steps) up (suc q) = suc q ∷ climb steps up (up (suc q))

-- a board's chain: the board itself, then its feeder's chain, to the source
unfoldable pub chain : Boards → ℕ → List ℕ
chain bs r = climb r (feeder_of bs) r

-- ---- the parts of a network: boards that zero sequence joins
abbrev pub zero_of : Boards → ℕ → Zero
zero_of bs r = (kind_of (board bs r).kind).zero_seq

-- the board that a record joins its own to: its feeder where zero sequence goes on, none (0) where the record heads a part
unfoldable pub tied : Zero → ℕ → ℕ
tied (starts t) feeder = 0
tied (goes_on t) feeder = feeder
tied none feeder = 0

unfoldable pub tie : Boards → ℕ → ℕ
tie bs r = tied (zero_of bs r) (feeder_of bs r)

-- the records from board r back to the head of its part, the head included
unfoldable pub part_chain : Boards → ℕ → List ℕ
part_chain bs r = climb r (tie bs) r

unfoldable pub empty : List ℕ → Bool
empty [] = true
empty (q ∷ qs) = false

-- (of none: 0)
unfoldable pub last_of : List ℕ → ℕ
last_of [] = 0
last_of (q ∷ qs) = let rest = last_of qs in cond (empty qs) q rest

-- the record that heads the part: the nearest, on the way from the board to the source, where zero sequence does not go on
unfoldable pub part_head : Boards → ℕ → ℕ
part_head bs r = last_of (part_chain bs r)

-- 02, R-2: "k and the boards joined to it by kinds 2 and 3". They have the same head (that such records link them, up and down, is a theorem of `follows`: `Joined`)
unfoldable pub joined : Boards → ℕ → ℕ → Bool
joined bs j k = eqb (part_head bs j) (part_head bs k)

-- ---- the earth return of a part: none, or the place that zero-sequence current comes from (0: from above the head, where it starts). ""None" isn't zero."
pub data Earth : Type 0 where
  no_earth : Earth
  earth_at : ℕ → Earth

-- by the head's word in the kind table (a head that goes on has no feeder, which 8 and 9 refuse)
unfoldable pub earth_by : Zero → Earth
earth_by (starts t) = earth_at 0
earth_by (goes_on t) = no_earth
earth_by none = no_earth

-- (place 0, which is no board, has none)
unfoldable pub earth_of : Boards → ℕ → Earth
earth_of bs zero = no_earth
earth_of bs (suc q) = earth_by (zero_of bs (part_head bs (suc q)))

unfoldable pub is_none : Earth → Bool
is_none no_earth = true
is_none (earth_at e) = false

-- "board without earth return"; "A kind 2 or 3 record under a board without earth return has none either."
abbrev pub unearthed : Boards → ℕ → Bool
unearthed bs r = is_none (earth_of bs r)

-- the records of a board's zero-sequence sum, from the board back to the record where zero sequence starts; empty where there is none
unfoldable pub return_by : Earth → List ℕ → List ℕ
return_by no_earth part = []
return_by (earth_at e) part = part

unfoldable pub zero_chain : Boards → ℕ → List ℕ
zero_chain bs r = return_by (earth_of bs r) (part_chain bs r)

-- ---- sums over records
unfoldable pub sumΩ : (ℕ → Ohms) → List ℕ → Ohms
sumΩ f [] = ohms 0 0
sumΩ f (q ∷ qs) = f q +Ω sumΩ f qs

unfoldable pub sumℕ : (ℕ → ℕ) → List ℕ → ℕ
sumℕ f [] = 0
sumℕ f (q ∷ qs) = f q + sumℕ f qs

-- what record q adds in each sequence
abbrev pub term1 : Boards → ℕ → Ohms
term1 bs q = (board bs q).z1

abbrev pub term2 : Boards → ℕ → Ohms
term2 bs q = (board bs q).z2

abbrev pub term0 : Boards → ℕ → Ohms
term0 bs q = zero_term (zero_of bs q) (board bs q)

-- "Z1 and Z2 of a board are the sums of z1 and z2 over its chain, source included."
unfoldable pub Z1 : Boards → ℕ → Ohms
Z1 bs r = sumΩ (term1 bs) (chain bs r)

unfoldable pub Z2 : Boards → ℕ → Ohms
Z2 bs r = sumΩ (term2 bs) (chain bs r)

-- "Z0, where there is one, is the sum from the record where zero sequence started."
unfoldable pub Z0 : Boards → ℕ → Ohms
Z0 bs r = sumΩ (term0 bs) (zero_chain bs r)

-- "A board's turn s is the sum of clocks on its chain."
unfoldable pub turn_of : Boards → ℕ → ℕ
turn_of bs r = sumℕ (λ q. (board bs q).clock) (chain bs r)

-- "The shared impedance of boards j and k sums the records common to both chains."
unfoldable pub common : List ℕ → List ℕ → List ℕ
common [] ds = []
common (c ∷ cs) ds = let rest = common cs ds in cond (one_of c ds) (c ∷ rest) rest

unfoldable pub shared1 : Boards → ℕ → ℕ → Ohms
shared1 bs j k = sumΩ (term1 bs) (common (chain bs j) (chain bs k))

unfoldable pub shared2 : Boards → ℕ → ℕ → Ohms
shared2 bs j k = sumΩ (term2 bs) (common (chain bs j) (chain bs k))

-- "For zero sequence it sums only those from the starting record on, with their zero-sequence terms, and is zero unless both boards have the same starting record."
-- (The starting record is the head of the part. Other parts have no record in common: a theorem of `follows`, `shared_apart`.)
unfoldable pub shared0 : Boards → ℕ → ℕ → Ohms
shared0 bs j k = sumΩ (term0 bs) (common (zero_chain bs j) (zero_chain bs k))

unfoldable pub chain_open : Unit {0}
unfolding look_from feeder_of climb chain tied tie part_chain empty last_of part_head joined earth_by earth_of is_none return_by zero_chain sumΩ sumℕ Z1 Z2 Z0 turn_of common shared1 shared2 shared0
chain_open = tt
