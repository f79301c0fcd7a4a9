-- 01, 'The four faults at board k', its last paragraph but one, 00, demand 3, and 02, R-2: Ohm's law in every record, Kirchhoff's current law at every board, the source's voltage and the fault's connection,
-- of values over a divisor E. Assumes nothing.
use Rattle.std.specs.Prelude.{Bool, true, false, ◌&&◌, [], ◌∷◌, ◌≡◌, ℕ, zero, suc, eqb, ℤ, length}
use Rattle.turn.specs.declared.Num.{Num}
use Rattle.turn.specs.Number.{whole_n, ◌+N◌, ◌-N◌, ◌*N◌}
use Rattle.paper.specs.declared.Ohms.{Ohms}
use Rattle.paper.specs.declared.Seq.{Seq}
use Rattle.paper.specs.Bytes.{one_of}
use Rattle.paper.specs.Kind.{Zero, starts, goes_on, none, term}
use Rattle.paper.specs.Chain.{board, feeder_of, zero_of, joined, unearthed, term1, term2}
use Rattle.paper.specs.Fault.{nil_n, num_of, seq}
use Rattle.paper.specs.Phase.{Asked, only_if}
use Rattle.laws.specs.Values.{Values, Everywhere}
use Rattle.laws.specs.Connection.{Connected}

-- "board voltage = feeder voltage less z times current"
abbrev pub Ohm : Num → Num → Ohms → Num → Type 0
Ohm w u z i = w ≡ u -N num_of z *N i

-- of records 1 to n
abbrev pub sum_to : ℕ → (ℕ → Num) → Num
sum_to zero f = nil_n
sum_to (suc n) f = sum_to n f +N f (suc n)

-- what the records that board b feeds draw from it, of n records with these feeders
abbrev pub drawn_from : (ℕ → ℕ) → ℕ → (ℕ → Num) → ℕ → Num
drawn_from feeder n draws b = sum_to n (λ r. only_if (eqb (feeder r) b) (draws r))

-- Kirchhoff's law: what comes to board b goes on to the records that it feeds, and out at the fault if b is the faulted board
abbrev pub Kirchhoff : (ℕ → ℕ) → ℕ → ℕ → (comes draws : ℕ → Num) → Num → ℕ → Type 0
Kirchhoff feeder n k comes draws out b = comes b ≡ drawn_from feeder n draws b +N only_if (eqb b k) out

-- "where zero sequence starts .. the feeder board gives none of that current"
abbrev pub draws0 : Zero → Num → Num
draws0 (starts t) i = nil_n
draws0 (goes_on t) i = i
draws0 none i = i

module _ (q : Asked) (E : ℤ) (v : Values) where
  open q use {boards, fault, k}
  open v use {W, I, F}

  -- "the source's feeder voltage is 1, 0, 0": over E, and at no place
  abbrev pub above : ℕ → Seq
  above zero = seq (whole_n E) nil_n nil_n
  above (suc r) = W (suc r)

  -- "where zero sequence starts it is 0"; "kinds 2 and 3 there still keep Ohm's law, kinds 1 and 5 set no zero-sequence tie"
  abbrev pub Ohm0 : Zero → ℕ → Type 0
  Ohm0 (starts t) r = Ohm (W r).s0 nil_n (term t (board boards r)) (I r).s0
  Ohm0 (goes_on t) r = Ohm (W r).s0 (above (feeder_of boards r)).s0 (term t (board boards r)) (I r).s0
  Ohm0 none r = Unit {0}

  pub record Laws : Type 0 where
    pub ohm1 : Everywhere q (λ r. Ohm (W r).s1 (above (feeder_of boards r)).s1 (term1 boards r) (I r).s1)
    pub ohm2 : Everywhere q (λ r. Ohm (W r).s2 (above (feeder_of boards r)).s2 (term2 boards r) (I r).s2)
    -- "(in zero sequence the kind table's term)"
    pub ohm0 : Everywhere q (λ r. Ohm0 (zero_of boards r) r)
    pub kirchhoff1 : Everywhere q (Kirchhoff (feeder_of boards) (length boards) k (λ r. (I r).s1) (λ r. (I r).s1) F.s1)
    pub kirchhoff2 : Everywhere q (Kirchhoff (feeder_of boards) (length boards) k (λ r. (I r).s2) (λ r. (I r).s2) F.s2)
    pub kirchhoff0 : Everywhere q (Kirchhoff (feeder_of boards) (length boards) k (λ r. (I r).s0) (λ r. draws0 (zero_of boards r) (I r).s0) F.s0)
    -- "Where zero sequence is none no zero-sequence current passes"
    pub blocked : Everywhere q (λ r. unearthed boards r ≡ true → (I r).s0 ≡ nil_n)
    pub connected : Connected fault (W k) F

-- 02, R-2: "For those two faults demand 3's premise of zero W0 leaves out k and the boards so joined to it". Those two: kinds 1 and 3 "without earth return"
unfoldable pub lifts : Asked → Bool
lifts q = one_of q.fault.kind (1 ∷ 3 ∷ []) && unearthed q.boards q.k

-- apart from the laws, 00's premise: "given that a board with no earth return has zero-sequence voltage zero". It leaves those out; "otherwise it stands as before"
abbrev pub Quiet : Asked → Values → Type 0
Quiet q v = Everywhere q (λ r. unearthed q.boards r ≡ true → (lifts q && joined q.boards r q.k) ≡ false → (v.W r).s0 ≡ nil_n)
