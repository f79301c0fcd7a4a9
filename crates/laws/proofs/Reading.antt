-- The numbers of the answer, read back from the buffer place by place. Assumes nothing.
use mathlib.Core.List.{List, ◌++◌, append_assoc}
use mathlib.Core.Path.{◌≡◌, refl, sym, ◌∙◌, ap}
use Prim.Native.Nat.{ℕ, zero, suc, ◌+◌, ◌*◌, ◌%◌, ◌≤◌, ◌<◌}
use native.Mathlib.Omega.{arith}
use lib.IntN.{ℤ, pos}
use lib.ListN.{length, get_or, get_or-append}
use lib.Seq.{get_or-append-add, get_or-drop}
use Rattle.turn.proofs.Form.{alike}
use Rattle.paper.specs.declared.Seq.{Seq}
use Rattle.paper.specs.Chain.{turn_of}
use Rattle.paper.specs.Phase.{Asked, the_d, the_i, voltage, current, shows, phase, phases, fault_currents, board_voltages, record_currents}
use Rattle.paper.specs.Answer.{flat, of_board, of_boards, numbers}
use Rattle.follows.proofs.Laid.{behind_top, board_size_lem}
use Rattle.laws.specs.Seen.{number_at, place_of_board}

-- ---- which phase is which: phase (p + i) mod 3 is i behind the odd phase
which : (p i : ℕ) → p ≤ 2 → i ≤ 2 → ((p + i) % 3 + 2 * p) % 3 ≡ i
which zero zero h l = refl
which zero (suc zero) h l = refl
which zero (suc (suc zero)) h l = refl
which (suc zero) zero h l = refl
which (suc zero) (suc zero) h l = refl
which (suc zero) (suc (suc zero)) h l = refl
which (suc (suc zero)) zero h l = refl
which (suc (suc zero)) (suc zero) h l = refl
which (suc (suc zero)) (suc (suc zero)) h l = refl
which (suc (suc (suc p))) i h l = absurd (omega arith)
which zero (suc (suc (suc i))) h l = absurd (omega arith)
which (suc zero) (suc (suc (suc i))) h l = absurd (omega arith)
which (suc (suc zero)) (suc (suc (suc i))) h l = absurd (omega arith)

pub phase_shows : (p sj sk : ℕ) (X : Seq) (i : ℕ) → p ≤ 2 → i ≤ 2 → phase p sj sk X ((p + i) % 3) ≡ shows p sj sk X i
unfolding phase
phase_shows p sj sk X i h l = ap (shows p sj sk X) (which p i h l)

module _ (q : Asked) (rest : List ℤ) where
  open q use {boards, fault, k}

  abbrev xs : List ℤ
  xs = numbers q ++ rest

  pub read_D : get_or xs 0 (pos 0) ≡ the_d q
  unfolding numbers
  read_D = refl

  pub read_F : (ph : ℕ) → ph ≤ 2 → number_at xs (1 + 4 * ph) ≡ phase fault.phase 0 0 (the_i q) ph
  unfolding numbers flat fault_currents phases
  read_F zero l = refl
  read_F (suc zero) l = refl
  read_F (suc (suc zero)) l = refl
  read_F (suc (suc (suc ph))) l = absurd (omega arith)

  -- ---- a board's own numbers
  own_W : (r ph : ℕ) → ph ≤ 2 → number_at (of_board q r) (4 * ph) ≡ phase fault.phase (turn_of boards r) (turn_of boards k) (voltage q r) ph
  unfolding of_board flat board_voltages record_currents phases
  own_W r zero l = refl
  own_W r (suc zero) l = refl
  own_W r (suc (suc zero)) l = refl
  own_W r (suc (suc (suc ph))) l = absurd (omega arith)

  own_I : (r ph : ℕ) → ph ≤ 2 → number_at (of_board q r) (12 + 4 * ph) ≡ phase fault.phase (turn_of boards r) (turn_of boards k) (current q r) ph
  unfolding of_board flat board_voltages record_currents phases
  own_I r zero l = refl
  own_I r (suc zero) l = refl
  own_I r (suc (suc zero)) l = refl
  own_I r (suc (suc (suc ph))) l = absurd (omega arith)

  -- ---- behind those of the boards before it
  boards_at : (n r i j : ℕ) → i < n → j < 24 → get_or (of_boards q r n ++ rest) (24 * i + j) (pos 0) ≡ get_or (of_board q (r + i)) j (pos 0)
  unfolding of_boards
  boards_at zero r i j h l = absurd (omega arith)
  boards_at (suc n) r zero j h l =
      let e : 24 * 0 + j ≡ j = omega arith in
      let f : r ≡ r + 0 = omega arith in
      ap (λ (zs : List ℤ). get_or zs (24 * 0 + j) (pos 0)) (append_assoc (of_board q r) (of_boards q (suc r) n) rest) ∙ ap (λ (m : ℕ). get_or (of_board q r ++ (of_boards q (suc r) n ++ rest)) m (pos 0)) e
      ∙ get_or-append (of_board q r) (of_boards q (suc r) n ++ rest) (pos 0) j (omega (arith, board_size_lem q r))
      ∙ ap (λ (m : ℕ). get_or (of_board q m) j (pos 0)) f
  boards_at (suc n) r (suc i) j h l =
      let e : 24 * suc i + j ≡ length (of_board q r) + (24 * i + j) = omega (arith, board_size_lem q r) in
      let f : suc r + i ≡ r + suc i = omega arith in
      ap (λ (zs : List ℤ). get_or zs (24 * suc i + j) (pos 0)) (append_assoc (of_board q r) (of_boards q (suc r) n) rest)
      ∙ ap (λ (m : ℕ). get_or (of_board q r ++ (of_boards q (suc r) n ++ rest)) m (pos 0)) e
      ∙ get_or-append-add (of_board q r) (of_boards q (suc r) n ++ rest) (24 * i + j) (pos 0)
      ∙ boards_at n (suc r) i j (omega arith) l
      ∙ ap (λ (m : ℕ). get_or (of_board q m) j (pos 0)) f

  at : (i j m : ℕ) → i < length boards → j < 24 → m ≡ 13 + 24 * i + j → get_or xs m (pos 0) ≡ get_or (of_board q (suc i)) j (pos 0)
  at i j m h l e =
      let f : m ≡ 13 + (24 * i + j) = omega arith in
      let g : 1 + i ≡ suc i = omega arith in
      ap (λ (n : ℕ). get_or xs n (pos 0)) f ∙ sym (get_or-drop 13 xs (24 * i + j) (pos 0)) ∙ ap (λ (zs : List ℤ). get_or zs (24 * i + j) (pos 0)) (behind_top q rest)
      ∙ boards_at (length boards) 1 i j h l
      ∙ ap (λ (n : ℕ). get_or (of_board q n) j (pos 0)) g

  four_at : (i j m : ℕ) → i < length boards → j ≤ 20 → m ≡ 13 + 24 * i + j → number_at xs m ≡ number_at (of_board q (suc i)) j
  four_at i j m h l e = alike (at i j m h (omega arith) e) (at i (j + 1) (m + 1) h (omega arith) (omega arith)) (at i (j + 2) (m + 2) h (omega arith) (omega arith)) (at i (j + 3) (m + 3) h (omega arith) (omega arith))

  pub read_W : (r : ℕ) → 1 ≤ r → r ≤ length boards → (ph : ℕ) → ph ≤ 2
      → number_at xs (place_of_board r + 4 * ph) ≡ phase fault.phase (turn_of boards r) (turn_of boards k) (voltage q r) ph
  read_W zero h l ph c = absurd (omega arith)
  read_W (suc i) h l ph c = four_at i (4 * ph) (place_of_board (suc i) + 4 * ph) (omega arith) (omega arith) (omega arith) ∙ own_W (suc i) ph c

  pub read_I : (r : ℕ) → 1 ≤ r → r ≤ length boards → (ph : ℕ) → ph ≤ 2
      → number_at xs (place_of_board r + 12 + 4 * ph) ≡ phase fault.phase (turn_of boards r) (turn_of boards k) (current q r) ph
  read_I zero h l ph c = absurd (omega arith)
  read_I (suc i) h l ph c = four_at i (12 + 4 * ph) (place_of_board (suc i) + 12 + 4 * ph) (omega arith) (omega arith) (omega arith) ∙ own_I (suc i) ph c
