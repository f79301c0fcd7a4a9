-- "That every number fits is proved": every number of the answer buffer is at most 2 ^ 62 from 0, so it fits its signed word (`fits_at`). Assumes nothing.
use mathlib.Core.Bool.{Bool, true, false}
use mathlib.Core.List.{List, [], ◌∷◌, ◌++◌}
use Prim.Native.Nat.{ℕ, zero, suc, ◌+◌, ◌*◌, ◌%◌, ◌^◌, ◌≤◌, ◌<◌}
use native.Mathlib.Omega.{arith}
use lib.Dec.{lit≤}
use lib.IntN.{ℤ, pos}
use lib.ListN.{length, get_or}
use mir.Syntax.{w64}
use mir.Val.{SFits}
use Rattle.lemmas.specs.Small.{Small}
use Rattle.lemmas.proofs.Distance.{small_weak}
use Rattle.lemmas.proofs.Words.{sfits}
use Rattle.turn.specs.declared.Num.{Num}
use Rattle.turn.specs.Bounds.{Within}
use Rattle.turn.proofs.Within.{within_weak}
use Rattle.paper.specs.Bytes.{one_of}
use Rattle.paper.specs.Chain.{chain, joined, unearthed, zero_chain, Z1, Z2, Z0, shared1, shared2, shared0, turn_of}
use Rattle.paper.specs.declared.Seq.{Seq}
use Rattle.paper.specs.Phase.{Asked, the_short, the_d, the_i, lift, voltage, only_if, current, phase, four, phases, fault_currents, board_voltages, record_currents}
use Rattle.paper.specs.Answer.{flat, of_board, of_boards, numbers}
use Rattle.paper.specs.Bounds.{AtMost, Plane, EachSeq, most_d, most_i, most_w, most_lift}
use Rattle.fits.proofs.Plane.{plane_whole, plane_weak}
use Rattle.follows.proofs.Row.{kind_at}
use Rattle.follows.proofs.Divisor.{the_d_is, the_i_is}
use Rattle.follows.proofs.Shared.{shared1_small, shared2_small, shared0_small}
use Rattle.fits.proofs.Sizes.{Ranged, ranged_at, D_most, currents_plane, lift_of_plane, voltage_of_plane, shows_fits}

-- ---- every number of a list
pub data Smalls (b : ℕ) : List ℤ → Type 0 where
  none : Smalls b []
  more : {z : ℤ} {zs : List ℤ} → Small b z → Smalls b zs → Smalls b (z ∷ zs)

smalls_append : {b : ℕ} {xs ys : List ℤ} → Smalls b xs → Smalls b ys → Smalls b (xs ++ ys)
smalls_append none q = q
smalls_append (more h p) q = more h (smalls_append p q)

pub small_at : {b : ℕ} {zs : List ℤ} (i : ℕ) → Smalls b zs → Small b (get_or zs i (pos 0))
small_at i none = record { small = omega arith }
small_at zero (more h p) = h
small_at (suc i) (more h p) = small_at i p

pub fits_at : {zs : List ℤ} (i : ℕ) → Smalls (2 ^ 62) zs → SFits w64 (get_or zs i (pos 0))
fits_at i p = sfits (small_at i p) (lit≤ tt)

-- ---- three phases
four_smalls : {n : Num} → Within (2 ^ 58) n → Smalls (2 ^ 62) (four n)
four_smalls w = let v = within_weak (lit≤ tt) w in more v.w0 (more v.w1 (more v.w2 (more v.w3 none)))

module _ (p sj sk : ℕ) {X : Seq} (x : EachSeq (Plane most_w) X) where
  pub phase_within : (ph : ℕ) → Within (2 ^ 58) (phase p sj sk X ph)
  unfolding phase
  phase_within ph = shows_fits x p sj sk ((ph + 2 * p) % 3)

  pub phases_fit : Smalls (2 ^ 62) (flat (phases p sj sk X))
  unfolding flat phases
  phases_fit = smalls_append (four_smalls (phase_within 0)) (smalls_append (four_smalls (phase_within 1)) (smalls_append (four_smalls (phase_within 2)) none))

-- ---- of a question: the parts at most 4,095 (Zf: 1,365)
-- the sums of a board
pub record SumsSmall (q : Asked) (j : ℕ) : Type 0 where
  pub sum1 : AtMost 4095 (Z1 q.boards j)
  pub sum2 : AtMost 4095 (Z2 q.boards j)
  pub sum0 : AtMost 4095 (Z0 q.boards j)

-- the shared impedances of board j and the faulted board
pub record SharesSmall (q : Asked) (j : ℕ) : Type 0 where
  pub share1 : AtMost 4095 (shared1 q.boards j q.k)
  pub share2 : AtMost 4095 (shared2 q.boards j q.k)
  pub share0 : AtMost 4095 (shared0 q.boards j q.k)

pub shares_small : (q : Asked) {j : ℕ} → SumsSmall q j → SharesSmall q j
shares_small q {j} u =
    record {
      share1 = shared1_small q.boards q.k j 4095 u.sum1;
      share2 = shared2_small q.boards q.k j 4095 u.sum2;
      share0 = shared0_small q.boards q.k j 4095 u.sum0;
    }

pub only_if_lem : {most : ℕ} (b : Bool) {n : Num} → Plane most n → Plane most (only_if b n)
unfolding only_if
only_if_lem true p = p
only_if_lem false p = plane_whole (record { small = omega arith })

-- a current is narrower than a voltage
pub as_wide : {X : Seq} → EachSeq (Plane most_i) X → EachSeq (Plane most_w) X
as_wide p = record { e1 = plane_weak (lit≤ tt) p.e1; e2 = plane_weak (lit≤ tt) p.e2; e0 = plane_weak (lit≤ tt) p.e0 }

module _ (q : Asked) (s : Ranged (Z1 q.boards q.k) (Z2 q.boards q.k) (Z0 q.boards q.k) q.fault.zf) where
  open q use {boards, fault, k}

  pub the_d_small : Small most_d (the_d q)
  the_d_small = let u = unearthed boards k in rw (the_d_is q) (record { small = D_most (ranged_at u fault.kind s) (kind_at u fault.kind) })

  pub the_i_plane : EachSeq (Plane most_i) (the_i q)
  the_i_plane = let u = unearthed boards k in rw (the_i_is q) (currents_plane (ranged_at u fault.kind s) (kind_at u fault.kind))

  pub lift_plane : Plane most_lift (lift q)
  unfolding lift the_d the_i the_short
  lift_plane = lift_of_plane s (unearthed boards k) fault.kind

  pub voltage_plane : {j : ℕ} → SharesSmall q j → EachSeq (Plane most_w) (voltage q j)
  unfolding voltage
  voltage_plane {j} h = voltage_of_plane the_d_small the_i_plane h.share1 h.share2 h.share0 (only_if_lem (joined boards j k) lift_plane)

  pub current_plane : (j : ℕ) → EachSeq (Plane most_i) (current q j)
  unfolding current
  current_plane j =
      let on = one_of j (chain boards k) in
      let p = the_i_plane in
      record { e1 = only_if_lem on p.e1; e2 = only_if_lem on p.e2; e0 = only_if_lem (one_of j (zero_chain boards k)) p.e0 }

  -- ---- what is shown
  pub fault_currents_fit : Smalls (2 ^ 62) (flat (fault_currents q))
  unfolding fault_currents
  fault_currents_fit = phases_fit fault.phase 0 0 (as_wide the_i_plane)

  pub board_voltages_fit : {j : ℕ} → SharesSmall q j → Smalls (2 ^ 62) (flat (board_voltages q j))
  unfolding board_voltages
  board_voltages_fit {j} h = phases_fit fault.phase (turn_of boards j) (turn_of boards k) (voltage_plane h)

  pub record_currents_fit : (j : ℕ) → Smalls (2 ^ 62) (flat (record_currents q j))
  unfolding record_currents
  record_currents_fit j = phases_fit fault.phase (turn_of boards j) (turn_of boards k) (as_wide (current_plane j))

  pub the_d_fits : Small (2 ^ 62) (the_d q)
  the_d_fits = small_weak (lit≤ tt) the_d_small

  -- ---- and so all that is written
  of_boards_fit : (n r : ℕ) → ((j : ℕ) → r ≤ j → j < r + n → SumsSmall q j) → Smalls (2 ^ 62) (of_boards q r n)
  unfolding of_boards of_board
  of_boards_fit zero r h = none
  of_boards_fit (suc n) r h =
      smalls_append (smalls_append (board_voltages_fit (shares_small q (h r (omega arith) (omega arith)))) (record_currents_fit r))
      (of_boards_fit n (suc r) (λ j a b. h j (omega arith) (omega arith)))

  pub numbers_fit : ((j : ℕ) → 1 ≤ j → j ≤ length boards → SumsSmall q j) → Smalls (2 ^ 62) (numbers q)
  unfolding numbers
  numbers_fit h = more the_d_fits (smalls_append fault_currents_fit (of_boards_fit (length boards) 1 (λ j a b. h j a (omega arith))))
