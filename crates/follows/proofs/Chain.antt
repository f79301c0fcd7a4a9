-- A board's chain from its feeder's: equations that need no fuel, so that a proof leaves `climb` shut. Assumes nothing.
use mathlib.Core.List.{[], ◌∷◌}
use mathlib.Core.Path.{◌≡◌, ap}
use Prim.Native.Nat.{ℕ, suc, ◌+◌, ◌-◌, ◌≤◌}
use native.Mathlib.Omega.{arith}
use lib.ListN.{take, length-take}
use Rattle.paper.specs.declared.Ohms.{Ohms}
use Rattle.paper.specs.Kind.{ohms, ◌+Ω◌}
use Rattle.paper.specs.Chain.{Boards, board, feeder_of, chain, sumΩ, sumℕ, term1, term2, Z1, Z2, turn_of}
use Rattle.follows.proofs.Lists.{On}
use Rattle.follows.proofs.Places.{place_most}
use Rattle.follows.proofs.Paths.{Tree, climb_tree, climbing, between}

-- ---- a feeder stands earlier
pub feeder_earlier : (bs : Boards) (q : ℕ) → feeder_of bs (suc q) ≤ q
unfolding feeder_of
feeder_earlier bs q = omega (arith, place_most (board bs (suc q)).feeder (take (suc q - 1) bs), length-take (suc q - 1) bs)

-- ---- the chain: the board, then its feeder's chain; 0, no board, has none
pub chain_tree : (bs : Boards) → Tree (feeder_of bs) (chain bs)
unfolding chain
chain_tree bs = climb_tree (feeder_of bs) (feeder_earlier bs)

-- what holds of no board, and of a board if it holds of its feeder, holds of every board
pub along : (bs : Boards) (P : ℕ → Type 0) → P 0 → ((q : ℕ) → P (feeder_of bs (suc q)) → P (suc q)) → (r : ℕ) → P r
along bs = climbing (chain_tree bs)

pub chain_none : (bs : Boards) → chain bs 0 ≡ []
chain_none bs = (chain_tree bs).ends

pub chain_board : (bs : Boards) (q : ℕ) → chain bs (suc q) ≡ suc q ∷ chain bs (feeder_of bs (suc q))
chain_board bs = (chain_tree bs).goes

pub chain_between : (bs : Boards) (r i : ℕ) → On i (chain bs r) → (1 ≤ i) × (i ≤ r)
chain_between bs = between (chain_tree bs)

-- ---- sums over the chain
pub sum_none : (bs : Boards) (f : ℕ → Ohms) → sumΩ f (chain bs 0) ≡ ohms 0 0
unfolding sumΩ
sum_none bs f = ap (sumΩ f) (chain_none bs)

pub sum_board : (bs : Boards) (f : ℕ → Ohms) (q : ℕ) → sumΩ f (chain bs (suc q)) ≡ f (suc q) +Ω sumΩ f (chain bs (feeder_of bs (suc q)))
unfolding sumΩ
sum_board bs f q = ap (sumΩ f) (chain_board bs q)

pub Z1_none : (bs : Boards) → Z1 bs 0 ≡ ohms 0 0
unfolding Z1
Z1_none bs = sum_none bs (term1 bs)

pub Z1_board : (bs : Boards) (q : ℕ) → Z1 bs (suc q) ≡ (board bs (suc q)).z1 +Ω Z1 bs (feeder_of bs (suc q))
unfolding Z1
Z1_board bs q = sum_board bs (term1 bs) q

pub Z2_none : (bs : Boards) → Z2 bs 0 ≡ ohms 0 0
unfolding Z2
Z2_none bs = sum_none bs (term2 bs)

pub Z2_board : (bs : Boards) (q : ℕ) → Z2 bs (suc q) ≡ (board bs (suc q)).z2 +Ω Z2 bs (feeder_of bs (suc q))
unfolding Z2
Z2_board bs q = sum_board bs (term2 bs) q

pub turn_none : (bs : Boards) → turn_of bs 0 ≡ 0
unfolding turn_of sumℕ
turn_none bs = rw chain_none

pub turn_board : (bs : Boards) (q : ℕ) → turn_of bs (suc q) ≡ (board bs (suc q)).clock + turn_of bs (feeder_of bs (suc q))
unfolding turn_of sumℕ
turn_board bs q = rw (chain_board bs q)
