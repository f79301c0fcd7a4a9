-- 01, 'The four faults at board k', and 02, R-2: the table of faults and that of a board without earth return, as data, row by row, over the impedances of the faulted board. Assumes nothing.
use Rattle.std.specs.Prelude.{Bool, cond, List, [], ◌∷◌, ℕ, ℤ, pos, get_or}
use Rattle.turn.specs.declared.Num.{Num}
use Rattle.turn.specs.Number.{whole_n, complex_n, one_n, ◌+N◌, neg_n, ◌*N◌, conj_n, square_n}
use Rattle.paper.specs.declared.Ohms.{Ohms}
use Rattle.paper.specs.declared.Seq.{Seq}

abbrev pub nil_n : Num
nil_n = whole_n (pos 0)

-- "R + jX"
unfoldable pub num_of : Ohms → Num
num_of z = complex_n (pos z.r) (pos z.x)

-- positive, negative and zero sequence
abbrev pub seq : Num → Num → Num → Seq
seq a b c = record { s1 = a; s2 = b; s0 = c }

-- a row of the table: what is divided by, and I1, I2 and I0 above the line
pub record Short : Type 0 where
  pub divisor : Num
  pub above : Seq

abbrev short : Num → Num → Num → Num → Short
short d a b c = record { divisor = d; above = seq a b c }

-- no current, over 1
abbrev pub no_short : Short
no_short = short one_n nil_n nil_n nil_n

module _ (Z1 Z2 Z0 Zf : Num) where
  -- "With G = Z0 + 3Zf and Δ = Z1·Z2 + Z1·G + Z2·G"
  unfoldable pub G : Num
  G = Z0 +N (Zf +N Zf +N Zf)

  unfoldable pub Δ : Num
  Δ = Z1 *N Z2 +N Z1 *N G +N Z2 *N G

  -- ---- the rows that stand in both tables
  abbrev three_phases : Short
  three_phases = short (Z1 +N Zf) one_n nil_n nil_n

  abbrev two_phases : Num → Short
  two_phases between = short (Z1 +N Z2 +N between) one_n (neg_n one_n) nil_n

  -- ---- the table
  unfoldable pub shorts : List Short
  shorts =
      --    divided by         I1        I2          I0
      -- 0 three phases, clear of earth
      three_phases
      -- 1 one phase to earth
      ∷ short (Z1 +N Z2 +N G) one_n one_n one_n
      -- 2 two phases
      ∷ two_phases Zf
      -- 3 two phases to earth
      ∷ short Δ (Z2 +N G) (neg_n G) (neg_n Z2)
      ∷ []

  -- 02, R-2: the table of a board without earth return
  unfoldable pub unearthed_shorts : List Short
  unearthed_shorts =
      -- 0 as above
      three_phases
      -- 1 "all currents 0, D = 1"
      ∷ no_short
      -- 2 as above
      ∷ two_phases Zf
      -- 3 "currents and D as for kind 2 with Zf = 0"
      ∷ two_phases nil_n
      ∷ []

  -- the row of a kind, at a board without earth return or with one (a kind over 3, which 15 refuses, has none)
  unfoldable pub short_of : Bool → ℕ → Short
  short_of unearthed kind = get_or (cond unearthed unearthed_shorts shorts) kind no_short

-- "D is the square of its absolute value, not reduced."
unfoldable pub D : Short → ℤ
D s = square_n s.divisor

-- I1, I2 and I0 over D: what stands above the line times the divisor's conjugate
unfoldable pub currents : Short → Seq
currents s =
    let c = conj_n s.divisor in
    let n = s.above in
    seq (n.s1 *N c) (n.s2 *N c) (n.s0 *N c)

-- 02, R-2: what W0 is where there is no earth return, by the kind and the faulted board's W1, w: "W0 = -1 at k and the boards joined to it" of kind 1, where W1 is 1;
-- "W0 at those boards is the faulted board's W1" of kind 3
unfoldable pub lift_of : ℕ → Num → Num
lift_of kind w = get_or (nil_n ∷ neg_n w ∷ nil_n ∷ w ∷ []) kind nil_n

unfoldable pub fault_open : Unit {0}
unfolding num_of G Δ shorts unearthed_shorts short_of D currents lift_of
fault_open = tt
