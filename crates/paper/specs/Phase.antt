-- 01, 'The four faults at board k', and 02, R-2: voltages, record currents, phases and turns, of an accepted question. Assumes nothing.
use Rattle.std.specs.Prelude.{Bool, true, false, List, [], ◌∷◌, ℕ, ◌+◌, ◌*◌, ◌%◌, ℤ}
use Rattle.turn.specs.declared.Num.{Num}
use Rattle.turn.specs.Number.{whole_n, ◌+N◌, ◌-N◌, neg_n, ◌*N◌, turn_n}
use Rattle.paper.specs.declared.Head.{Head}
use Rattle.paper.specs.declared.Fault.{Fault}
use Rattle.paper.specs.Bytes.{one_of}
use Rattle.paper.specs.File.{head_of, fault_of, boards_of}
use Rattle.paper.specs.Chain.{Boards, place_of, chain, joined, unearthed, zero_chain, Z1, Z2, Z0, shared1, shared2, shared0, turn_of}
use Rattle.paper.specs.declared.Ohms.{Ohms}
use Rattle.paper.specs.declared.Seq.{Seq}
use Rattle.paper.specs.Fault.{nil_n, num_of, seq, Short, short_of, D, currents, lift_of}

-- ---- a question: a network and a fault, decoded, with the faulted board's place
pub record Asked : Type 0 where
  pub head : Head
  pub boards : Boards
  pub fault : Fault
  pub k : ℕ

unfoldable pub asked : List ℕ → List ℕ → Asked
asked net flt =
    let bs = boards_of net in
    let f = fault_of flt in
    record { head = head_of net; boards = bs; fault = f; k = place_of f.label bs }

-- a number, or zero
unfoldable pub only_if : Bool → Num → Num
only_if true n = n
only_if false n = nil_n

-- "W1 = 1 - Z1jk·I1, W2 = -Z2jk·I2, W0 = -Z0jk·I0", over D, of the impedances that j and k share; W0 with what it is lifted by
unfoldable pub voltage_of : ℤ → Seq → Ohms → Ohms → Ohms → Num → Seq
voltage_of D I za zb zc up = seq (whole_n D -N num_of za *N I.s1) (neg_n (num_of zb *N I.s2)) (neg_n (num_of zc *N I.s0) +N up)

module _ (q : Asked) where
  open q use {boards, fault, k}

  -- the row of the fault, by whether board k has an earth return
  unfoldable pub the_short : Short
  the_short = short_of (num_of (Z1 boards k)) (num_of (Z2 boards k)) (num_of (Z0 boards k)) (num_of fault.zf) (unearthed boards k) fault.kind

  -- D, and I1, I2 and I0 over it
  unfoldable pub the_d : ℤ
  the_d = D the_short

  unfoldable pub the_i : Seq
  the_i = currents the_short

  -- 02, R-2: what W0 is lifted by at k and the boards joined to it, where they have no earth return (board k's W1 is D - Z1·I1: it shares all of its chain with itself)
  unfoldable pub lift : Num
  lift = only_if (unearthed boards k) (lift_of fault.kind (whole_n the_d -N num_of (Z1 boards k) *N the_i.s1))

  -- "The referred voltages of board j"
  unfoldable pub voltage : ℕ → Seq
  voltage j = voltage_of the_d the_i (shared1 boards j k) (shared2 boards j k) (shared0 boards j k) (only_if (joined boards j k) lift)

  -- "A record on k's chain carries I1 and I2; it carries I0 if it also lies on k's zero-sequence sum; otherwise zero."
  unfoldable pub current : ℕ → Seq
  current j =
      let on = one_of j (chain boards k) in
      seq (only_if on the_i.s1) (only_if on the_i.s2) (only_if (one_of j (zero_chain boards k)) the_i.s0)

-- "With d = s(j) - s(k), phase (p+i) mod 3 shows t^(8p)·(X0 + t^(8i-d)·X1 + t^(4i+d)·X2)". Twelve turns go round, so t^(-d) is t^(11 s(j) + s(k)) and t^d is t^(s(j) + 11 s(k))
unfoldable pub shows : ℕ → ℕ → ℕ → Seq → ℕ → Num
shows p sj sk X i = turn_n (8 * p) (X.s0 +N turn_n (8 * i + 11 * sj + sk) X.s1 +N turn_n (4 * i + sj + 11 * sk) X.s2)

-- phase ph (0 a, 1 b, 2 c) is (p + i) mod 3 for i = (ph + 2p) mod 3
unfoldable pub phase : ℕ → ℕ → ℕ → Seq → ℕ → Num
phase p sj sk X ph = shows p sj sk X ((ph + 2 * p) % 3)

-- "three phases, each of four whole numbers"
abbrev pub four : Num → List ℤ
four n = n.x0 ∷ n.x1 ∷ n.x2 ∷ n.x3 ∷ []

unfoldable pub phases : ℕ → ℕ → ℕ → Seq → List (List ℤ)
phases p sj sk X = four (phase p sj sk X 0) ∷ four (phase p sj sk X 1) ∷ four (phase p sj sk X 2) ∷ []

-- ---- what is shown
module _ (q : Asked) where
  open q use {boards, fault, k}

  -- "Fault currents flow out of the network": at board k itself, so with no turn between
  unfoldable pub fault_currents : List (List ℤ)
  fault_currents = phases fault.phase 0 0 (the_i q)

  unfoldable pub board_voltages : ℕ → List (List ℤ)
  board_voltages j = phases fault.phase (turn_of boards j) (turn_of boards k) (voltage q j)

  unfoldable pub record_currents : ℕ → List (List ℤ)
  record_currents j = phases fault.phase (turn_of boards j) (turn_of boards k) (current q j)

unfoldable pub phase_open : Unit {0}
unfolding asked voltage_of the_short the_d the_i lift voltage only_if current shows phase phases fault_currents board_voltages record_currents
phase_open = tt
