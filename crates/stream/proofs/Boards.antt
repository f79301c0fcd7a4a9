-- The boards of a case, decoded one behind the other into their table. Assumes nothing.
use mathlib.Core.List.{List, ◌++◌}
use mathlib.Core.Path.{◌≡◌, sym, ◌∙◌, ap}
use Prim.Native.Nat.{ℕ, zero, suc, ◌+◌, ◌-◌, ◌*◌, ◌≤◌, ◌<◌}
use native.Mathlib.Nat.{zero-add, zero-sub, sub-zero}
use native.Mathlib.Omega.{arith}
use lib.ListN.{length, set, take, drop, replicate, length-replicate}
use lib.Seq.{paste, paste-zero, take_all, take_at}
use Rattle.lemmas.proofs.Over.{copy_one}
use Rattle.paper.specs.declared.Board.{Board}
use Rattle.paper.specs.Chain.{Boards}
use Rattle.paper.specs.File.{board_of, records, decoded}
use Rattle.node.specs.Tables.{empty_board}
use Rattle.node.proofs.Records.{records_length, records_at, decoded_length, decoded_at}

drop_replicate : {A : Type 0} (m n : ℕ) (a : A) → drop n (replicate m a) ≡ replicate (m - n) a
drop_replicate m zero a = ap (λ (k : ℕ). replicate k a) (sym (sub-zero m))
drop_replicate zero (suc n) a = ap (λ (k : ℕ). replicate k a) (sym (zero-sub (suc n)))
drop_replicate (suc m) (suc n) a = let e : m - n ≡ suc m - suc n = omega arith in drop_replicate m n a ∙ ap (λ (k : ℕ). replicate k a) e

module _ (m n : ℕ) (s : List ℕ) where
  abbrev all : Boards
  all = decoded (records n s)

  count : length all ≡ n
  count = decoded_length (records n s) ∙ records_length n s

  -- a table of m places, after i boards
  unfoldable pub filled : ℕ → List Board
  filled i = paste (replicate m empty_board) 0 all i

  pub none_yet : {b : Board} → b ≡ empty_board → replicate m b ≡ filled 0
  unfolding filled
  none_yet e = ap (replicate m) e ∙ paste-zero (replicate m empty_board) 0 all

  pub one_more : (i : ℕ) {t : List Board} {b : Board} → i < n → n ≤ m → t ≡ filled i → b ≡ board_of (take 44 (drop (44 * i) s)) → set t i b ≡ filled (i + 1)
  unfolding filled
  one_more i {t} {b} h few e f =
      copy_one empty_board (replicate m empty_board) all t i b (omega (arith, length-replicate m empty_board)) (omega (arith, count)) e
      (f ∙ ap board_of (sym (records_at n s i h)) ∙ sym (decoded_at empty_board (records n s) i (omega (arith, records_length n s))))

  pub all_there : (i : ℕ) → i ≡ n → filled i ≡ all ++ replicate (m - n) empty_board
  unfolding filled
  all_there i e =
      (λ j. take (e j) all ++ drop (0 + e j) (replicate m empty_board))
      ∙ (λ j. take_all n all (omega (arith, count)) j ++ (ap (λ (k : ℕ). drop k (replicate m empty_board)) (zero-add n) ∙ drop_replicate m n empty_board) j)

  -- the boards in front are those that were brought
  pub brought : {t : List Board} → t ≡ all ++ replicate (m - n) empty_board → take n t ≡ all
  brought e = ap (take n) e ∙ take_at all (replicate (m - n) empty_board) n count
