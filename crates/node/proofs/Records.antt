-- The records of a network, one behind the other, and the refusal of the first that breaks a rule. Assumes nothing.
use mathlib.Core.List.{List, [], ◌∷◌, ◌++◌}
use mathlib.Core.Option.{none, some}
use mathlib.Core.Path.{◌≡◌, refl, sym, ◌∙◌, ap}
use Prim.Native.Nat.{ℕ, zero, suc, ◌+◌, ◌*◌, ◌<◌}
use native.Mathlib.Omega.{arith}
use lib.ListN.{length, get_or, take, drop}
use lib.Dec.{lit<}
use lib.Seq.{get_or-take, get_or-drop, take-suc, drop-cons, drop-drop, drop-length, split_at}
use Rattle.paper.specs.declared.Board.{Board}
use Rattle.paper.specs.declared.Refusal.{Refusal}
use Rattle.paper.specs.Rows.{first}
use Rattle.paper.specs.Bytes.{u16_at}
use Rattle.paper.specs.File.{mark_of, head_of, board_of, records, records_of, decoded, boards_of}
use Rattle.paper.specs.Chain.{Boards, no_board}
use Rattle.paper.specs.Refusal.{record_rows, in_order, records_rows, records_refusal}
use Rattle.follows.proofs.Rows.{behind, ahead}

-- ---- where a record stands
pub records_length : (n : ℕ) (s : List ℕ) → length (records n s) ≡ n
unfolding records
records_length zero s = refl
records_length (suc n) s = ap suc (records_length n (drop 44 s))

pub records_at : (n : ℕ) (s : List ℕ) (i : ℕ) → i < n → get_or (records n s) i [] ≡ take 44 (drop (44 * i) s)
unfolding records
records_at zero s i h = absurd (omega arith)
records_at (suc n) s zero h = refl
records_at (suc n) s (suc i) h =
    let e : 44 + 44 * i ≡ 44 * suc i = omega arith in
    records_at n (drop 44 s) i (omega arith) ∙ ap (take 44) (drop-drop (44 * i) 44 s ∙ ap (λ (m : ℕ). drop m s) e)

pub decoded_length : (recs : List (List ℕ)) → length (decoded recs) ≡ length recs
unfolding decoded
decoded_length [] = refl
decoded_length (s ∷ recs) = ap suc (decoded_length recs)

pub decoded_at : (d : Board) (recs : List (List ℕ)) (i : ℕ) → i < length recs → get_or (decoded recs) i d ≡ board_of (get_or recs i [])
unfolding decoded
decoded_at d [] i h = absurd (omega arith)
decoded_at d (s ∷ recs) zero h = refl
decoded_at d (s ∷ recs) (suc i) h = decoded_at d recs i (omega arith)

module _ (net : List ℕ) where
  abbrev pub count : ℕ
  count = (head_of net).boards

  abbrev pub bytes_of : ℕ → List ℕ
  bytes_of i = take 44 (drop (8 + 44 * i) net)

  pub recs_length : length (records_of net) ≡ count
  unfolding records_of
  recs_length = records_length count (drop 8 net)

  pub boards_count : length (boards_of net) ≡ count
  unfolding boards_of
  boards_count = decoded_length (records_of net) ∙ recs_length

  pub record_at_lem : (i : ℕ) → i < count → get_or (records_of net) i [] ≡ bytes_of i
  unfolding records_of
  record_at_lem i h = records_at count (drop 8 net) i h ∙ ap (take 44) (drop-drop (44 * i) 8 net)

  pub board_at : (d : Board) (i : ℕ) → i < count → get_or (boards_of net) i d ≡ board_of (bytes_of i)
  unfolding boards_of
  board_at d i h = decoded_at d (records_of net) i (omega (arith, recs_length)) ∙ ap board_of (record_at_lem i h)

  -- its mark
  pub mark_at_lem : (i : ℕ) → u16_at net (8 + 44 * i) ≡ mark_of (bytes_of i)
  mark_at_lem i =
      let a = 8 + 44 * i in
      let e : a + 0 ≡ a = omega arith in
      sym ((λ j. at 0 (lit< tt) j + 256 * at 1 (lit< tt) j) ∙ ap (λ (m : ℕ). get_or net m 0 + 256 * get_or net (a + 1) 0) e)
    where
      at : (k : ℕ) → k < 44 → get_or (bytes_of i) k 0 ≡ get_or net (8 + 44 * i + k) 0
      at k h = get_or-take 44 (drop (8 + 44 * i) net) k 0 h ∙ get_or-drop (8 + 44 * i) net k 0

  -- ---- after i records: those before, this one, the rest
  pub before_next : (i : ℕ) → i < count → take (suc i) (boards_of net) ≡ take i (boards_of net) ++ (board_of (bytes_of i) ∷ [])
  before_next i h = take-suc (boards_of net) i no_board (omega (arith, boards_count)) ∙ ap (λ (b : Board). take i (boards_of net) ++ (b ∷ [])) (board_at no_board i h)

  pub all_boards : (i : ℕ) → i < count → boards_of net ≡ take i (boards_of net) ++ (board_of (bytes_of i) ∷ drop (suc i) (boards_of net))
  all_boards i h = split_at (boards_of net) i no_board (omega (arith, boards_count)) ∙ ap (λ (b : Board). take i (boards_of net) ++ (b ∷ drop (suc i) (boards_of net))) (board_at no_board i h)

  rest_of : (i : ℕ) → i < count → drop i (records_of net) ≡ bytes_of i ∷ drop (suc i) (records_of net)
  rest_of i h = drop-cons (records_of net) i [] (omega (arith, recs_length)) ∙ ap (λ (s : List ℕ). s ∷ drop (suc i) (records_of net)) (record_at_lem i h)

  -- i records have passed: what refuses the network is what refuses the rest
  abbrev pub Passed : ℕ → Type 0
  Passed i = records_refusal [] (records_of net) ≡ records_refusal (take i (boards_of net)) (drop i (records_of net))

  pub passed_none : Passed 0
  passed_none = refl

  step : (i : ℕ) → i < count → Passed i → records_refusal [] (records_of net) ≡ first (record_rows (take i (boards_of net)) (bytes_of i) ++ records_rows (take (suc i) (boards_of net)) (drop (suc i) (records_of net)))
  unfolding in_order
  step i h p =
      p ∙ ap (records_refusal (take i (boards_of net))) (rest_of i h)
      ∙ ap (λ (bs : Boards). first (record_rows (take i (boards_of net)) (bytes_of i) ++ records_rows bs (drop (suc i) (records_of net)))) (sym (before_next i h))

  pub passed_next : (i : ℕ) → i < count → Passed i → first (record_rows (take i (boards_of net)) (bytes_of i)) ≡ none → Passed (suc i)
  passed_next i h p e = step i h p ∙ behind _ _ e

  pub passed_refused : (i : ℕ) {r : Refusal} → i < count → Passed i → first (record_rows (take i (boards_of net)) (bytes_of i)) ≡ some r → records_refusal [] (records_of net) ≡ some r
  passed_refused i h p e = step i h p ∙ ahead _ _ e

  pub passed_all : (i : ℕ) → i ≡ count → Passed i → records_refusal [] (records_of net) ≡ none
  unfolding in_order first
  passed_all i e p = p ∙ ap (λ (m : ℕ). records_refusal (take i (boards_of net)) (drop m (records_of net))) (e ∙ sym recs_length) ∙ ap (records_refusal (take i (boards_of net))) (drop-length (records_of net))
