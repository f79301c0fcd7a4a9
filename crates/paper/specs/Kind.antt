-- 01, 'Record kinds': the table as data, row by row, and what its words mean. Assumes nothing.
use Rattle.std.specs.Prelude.{Bool, true, false, not, ◌&&◌, ◌||◌, List, [], ◌∷◌, ℕ, ◌+◌, ◌*◌, ltb, eqb, length, get_or}
use Rattle.paper.specs.declared.Ohms.{Ohms}
use Rattle.paper.specs.declared.Board.{Board}

-- ---- impedances in counts
abbrev pub ohms : ℕ → ℕ → Ohms
ohms r x = record { r = r; x = x }

infixl 6 ◌+Ω◌
unfoldable pub ◌+Ω◌ : Ohms → Ohms → Ohms
a +Ω b = ohms (a.r + b.r) (a.x + b.x)

unfoldable pub thrice : Ohms → Ohms
thrice a = ohms (3 * a.r) (3 * a.x)

-- "An impedance is zero when both its parts are."
unfoldable pub is_zero : Ohms → Bool
is_zero a = eqb a.r 0 && eqb a.x 0

unfoldable pub same_ohms : Ohms → Ohms → Bool
same_ohms a b = eqb a.r b.r && eqb a.x b.x

unfoldable pub part_over : ℕ → Ohms → Bool
part_over most a = ltb most a.r || ltb most a.x

-- ---- the words of the table
-- "Kinds 0 and 1 occur in record 1 and only there."
pub data Stands : Type 0 where
  record_1 later : Stands

pub data Term : Type 0 where
  z0_alone z0+3zn : Term

pub data Zero : Type 0 where
  starts goes_on : Term → Zero
  none : Zero

pub data Rule : Type 0 where
  z1≠0 z2≠0 z1=z2 z0=0 zn=0 : Rule

pub record Kind : Type 0 where
  pub stands : Stands
  pub clocks : List ℕ
  pub zero_seq : Zero
  pub rules : List Rule

abbrev kind : Stands → List ℕ → Zero → List Rule → Kind
kind s c z m = record { stands = s; clocks = c; zero_seq = z; rules = m }

abbrev zero_only : List ℕ
zero_only = 0 ∷ []

-- "odd, 1 to 11"
abbrev odd : List ℕ
odd = 1 ∷ 3 ∷ 5 ∷ 7 ∷ 9 ∷ 11 ∷ []

-- "0 to 11"
abbrev any : List ℕ
any = 0 ∷ 1 ∷ 2 ∷ 3 ∷ 4 ∷ 5 ∷ 6 ∷ 7 ∷ 8 ∷ 9 ∷ 10 ∷ 11 ∷ []

-- ---- the table
unfoldable pub kinds : List Kind
kinds =
    --   stands   clock     zero sequence       must hold
    -- 0 source, earthed
    kind record_1 zero_only (starts z0+3zn) (z1≠0 ∷ z2≠0 ∷ [])
    -- 1 source, unearthed
    ∷ kind record_1 zero_only none (z1≠0 ∷ z2≠0 ∷ z0=0 ∷ zn=0 ∷ [])
    -- 2 cable
    ∷ kind later zero_only (goes_on z0_alone) (z1=z2 ∷ zn=0 ∷ [])
    -- 3 star/star, both earthed
    ∷ kind later zero_only (goes_on z0+3zn) (z1=z2 ∷ [])
    -- 4 delta at the feeder, earthed star at the board
    ∷ kind later odd (starts z0+3zn) (z1=z2 ∷ [])
    -- 5 any pair that blocks both sides
    ∷ kind later any none (z1=z2 ∷ z0=0 ∷ zn=0 ∷ [])
    ∷ []

-- ---- what the words mean
unfoldable pub known : ℕ → Bool
known k = ltb k (length kinds)

-- the row of a kind (of a number that is no kind, which 9 refuses, an empty one)
unfoldable pub kind_of : ℕ → Kind
kind_of k = get_or kinds k (kind later [] none [])

unfoldable pub stands_at : Stands → ℕ → Bool
stands_at record_1 r = eqb r 1
stands_at later r = not (eqb r 1)

unfoldable pub holds : Rule → Board → Bool
holds z1≠0 b = not (is_zero b.z1)
holds z2≠0 b = not (is_zero b.z2)
holds z1=z2 b = same_ohms b.z1 b.z2
holds z0=0 b = is_zero b.z0
holds zn=0 b = is_zero b.zn

unfoldable pub all_hold : List Rule → Board → Bool
all_hold [] b = true
all_hold (m ∷ ms) b = let rest = all_hold ms b in holds m b && rest

unfoldable pub term : Term → Board → Ohms
term z0_alone b = b.z0
term z0+3zn b = b.z0 +Ω thrice b.zn

-- what a record adds to a zero-sequence sum that it is in
unfoldable pub zero_term : Zero → Board → Ohms
zero_term (starts t) b = term t b
zero_term (goes_on t) b = term t b
zero_term none b = ohms 0 0

-- "starts here", "starts afresh"
unfoldable pub is_start : Zero → Bool
is_start (starts t) = true
is_start (goes_on t) = false
is_start none = false

unfoldable pub kind_open : Unit {0}
unfolding ◌+Ω◌ thrice is_zero same_ohms part_over kinds known kind_of stands_at holds all_hold term zero_term is_start
kind_open = tt
