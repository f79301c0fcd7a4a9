-- The next board from the boards before it: what the reader computes and judges with 11, and then keeps. Assumes nothing.
use mathlib.Core.Bool.{cond}
use mathlib.Core.List.{◌∷◌, ◌++◌}
use mathlib.Core.Path.{◌≡◌, ◌∙◌, ap, ap₂}
use Prim.Native.Nat.{ℕ, suc, ◌+◌, ◌-◌, ◌≤◌}
use native.Mathlib.Omega.{arith}
use lib.ListN.{length, take, get_or}
use lib.Seq.{take-append_seam, get_or-append_seam}
use Rattle.paper.specs.declared.Board.{Board}
use Rattle.paper.specs.Kind.{ohms, ◌+Ω◌, Term, Zero, starts, goes_on, none, kind_of, term}
use Rattle.paper.specs.Chain.{Boards, no_board, board, place_of, feeder_of, chain, zero_of, part_head, no_earth, earth_at, earth_of, unearthed, Z1, Z2, Z0, turn_of}
use Rattle.follows.proofs.Places.{place_most}
use Rattle.follows.proofs.Chain.{chain_board, Z1_board, Z2_board, turn_board}
use Rattle.follows.proofs.Parts.{ZeroIs, is_starts, is_tied, is_blocked}
use Rattle.follows.proofs.Before.{chain_before, head_before, earth_before, turn_before, Z1_before, Z2_before, Z0_before}

module _ (before : Boards) (b : Board) (rest : Boards) where
  pub board_next : board (before ++ (b ∷ rest)) (suc (length before)) ≡ b
  board_next = ap (λ n. get_or (before ++ (b ∷ rest)) n no_board) (omega arith) ∙ get_or-append_seam before b rest no_board

  pub feeder_next : feeder_of (before ++ (b ∷ rest)) (suc (length before)) ≡ place_of b.feeder before
  unfolding feeder_of
  feeder_next =
      let e : suc (length before) - 1 ≡ length before = omega arith in
      ap₂ (λ c n. place_of c.feeder (take n (before ++ (b ∷ rest)))) board_next e ∙ ap (place_of b.feeder) (take-append_seam before (b ∷ rest))

  -- what agrees on the boards before is at the next board's feeder what it was
  at_feeder : {X : Type 0} (g : Boards → ℕ → X) → ((r : ℕ) → r ≤ length before → g (before ++ (b ∷ rest)) r ≡ g before r) →
      g (before ++ (b ∷ rest)) (feeder_of (before ++ (b ∷ rest)) (suc (length before))) ≡ g before (place_of b.feeder before)
  at_feeder g agrees = ap (g (before ++ (b ∷ rest))) feeder_next ∙ agrees (place_of b.feeder before) (place_most b.feeder before)

  pub chain_next : chain (before ++ (b ∷ rest)) (suc (length before)) ≡ suc (length before) ∷ chain before (place_of b.feeder before)
  chain_next = chain_board (before ++ (b ∷ rest)) (length before) ∙ ap (λ l. suc (length before) ∷ l) (at_feeder chain (chain_before before (b ∷ rest)))

  pub Z1_next : Z1 (before ++ (b ∷ rest)) (suc (length before)) ≡ b.z1 +Ω Z1 before (place_of b.feeder before)
  Z1_next = Z1_board (before ++ (b ∷ rest)) (length before) ∙ ap₂ (λ c z. c.z1 +Ω z) board_next (at_feeder Z1 (Z1_before before (b ∷ rest)))

  pub Z2_next : Z2 (before ++ (b ∷ rest)) (suc (length before)) ≡ b.z2 +Ω Z2 before (place_of b.feeder before)
  Z2_next = Z2_board (before ++ (b ∷ rest)) (length before) ∙ ap₂ (λ c z. c.z2 +Ω z) board_next (at_feeder Z2 (Z2_before before (b ∷ rest)))

  pub turn_next : turn_of (before ++ (b ∷ rest)) (suc (length before)) ≡ b.clock + turn_of before (place_of b.feeder before)
  turn_next = turn_board (before ++ (b ∷ rest)) (length before) ∙ ap₂ (λ c s. c.clock + s) board_next (at_feeder turn_of (turn_before before (b ∷ rest)))

  -- ---- zero sequence, by the words of the kind table
  zero_of_lem : {z : Zero} → (kind_of b.kind).zero_seq ≡ z → zero_of (before ++ (b ∷ rest)) (suc (length before)) ≡ z
  zero_of_lem e = ap (λ c. (kind_of c.kind).zero_seq) board_next ∙ e

  pub next_starts : {t : Term} → (kind_of b.kind).zero_seq ≡ starts t → ZeroIs (before ++ (b ∷ rest)) (suc (length before)) (suc (length before)) (earth_at 0) (term t b)
  next_starts e = rw board_next at (is_starts (before ++ (b ∷ rest)) (length before) (zero_of_lem e))

  pub next_tied : {t : Term} → (kind_of b.kind).zero_seq ≡ goes_on t → 1 ≤ place_of b.feeder before →
      ZeroIs (before ++ (b ∷ rest)) (suc (length before)) (part_head before (place_of b.feeder before)) (earth_of before (place_of b.feeder before))
      (cond (unearthed before (place_of b.feeder before)) (ohms 0 0) (term t b +Ω Z0 before (place_of b.feeder before)))
  next_tied e l =
      rw (board_next, at_feeder part_head (head_before before (b ∷ rest)), at_feeder earth_of (earth_before before (b ∷ rest)), at_feeder Z0 (Z0_before before (b ∷ rest))) at
      (is_tied (before ++ (b ∷ rest)) (length before) (zero_of_lem e) (omega (arith, feeder_next)))

  pub next_blocked : (kind_of b.kind).zero_seq ≡ none → ZeroIs (before ++ (b ∷ rest)) (suc (length before)) (suc (length before)) no_earth (ohms 0 0)
  next_blocked e = is_blocked (before ++ (b ∷ rest)) (length before) (zero_of_lem e)
