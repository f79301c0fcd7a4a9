-- The boards' lines, from the first board that is left on. Assumes nothing.
use mathlib.Core.Path.{◌≡◌, sym, ap, ◌∙◌}
use mathlib.Core.List.{List, [], ◌∷◌, ◌++◌}
use Prim.Native.Nat.{ℕ, suc, ◌+◌, ◌*◌, ◌-◌, ◌≤◌, ◌<◌}
use native.Mathlib.Numerals.{add-one}
use native.Mathlib.Omega.{arith}
use lib.IntN.{ℤ}
use lib.ListN.{length, get_or, take, drop, drop_of_length-le}
use lib.Seq.{drop-cons, drop-drop}
use Rattle.std.proofs.lemmas.List.{take_rest}
use Rattle.paper.specs.declared.Board.{Board}
use Rattle.paper.specs.Bytes.{text}
use Rattle.paper.specs.File.{head_of, board_of, boards_of}
use Rattle.paper.specs.Chain.{no_board}
use Rattle.node.proofs.Records.{boards_count, board_at}
use Rattle.lines.specs.Name.{unspaced}
use Rattle.lines.specs.Lines.{three_lines, fours}
use Rattle.lines.proofs.Unspaced.{front}
use Rattle.lines.specs.Boards.{board_lines, board_lying, boards_lying}

-- a board's lines as the code writes them, its label and its numbers cut
pub board_pieces : (l : List ℕ) (n : ℕ) (zs : List ℤ) → n ≡ length (unspaced l)
    → board_lying l zs ≡ three_lines (take n l ++ (0x20 ∷ 0x56 ∷ 0x20 ∷ [])) (fours zs) ++ three_lines (take n l ++ (0x20 ∷ 0x49 ∷ 0x20 ∷ [])) (fours (take (length zs - 12) (drop 12 zs)))
unfolding board_lying board_lines text
board_pieces l n zs e = rw (front l e, take_rest zs 12)

-- a record as the code cuts it
pub label_cut : (net : List ℕ) (a : ℕ) {b : Board} → b ≡ board_of (take (a + 44 - a) (drop a net)) → b.label ≡ (board_of (take 44 (drop a net))).label
label_cut net a e = let k44 : a + 44 - a ≡ 44 = omega arith in ap (λ (b : Board). b.label) e ∙ ap (λ (k : ℕ). (board_of (take k (drop a net))).label) k44

module _ (net : List ℕ) (zs : List ℤ) (n : ℕ) (e : n ≡ (head_of net).boards) where
  pub next_board : (i : ℕ) {l : List ℕ} → i < n → l ≡ (board_of (take 44 (drop (8 + 44 * i) net))).label
      → boards_lying (drop i (boards_of net)) (drop (13 + 24 * i) zs) ≡ board_lying l (take (length zs - (13 + 24 * i)) (drop (13 + 24 * i) zs)) ++ boards_lying (drop (i + 1) (boards_of net)) (drop (13 + 24 * (i + 1)) zs)
  unfolding boards_lying
  next_board i {l} h f =
      let more : 13 + 24 * i + 24 ≡ 13 + 24 * (i + 1) = omega arith in
      let ws = drop (13 + 24 * i) zs in
      let bs = boards_of net in
      let is : (get_or bs i no_board).label ≡ l = ap (λ (b : Board). b.label) (board_at net no_board i (omega (arith, e))) ∙ sym f in
      rw (take_rest zs (13 + 24 * i))
      (ap (λ (l : List Board). boards_lying l ws) (drop-cons bs i no_board (omega (arith, e, boards_count net)))
      ∙ ap (λ (x : List ℕ). board_lying x ws ++ boards_lying (drop (suc i) bs) (drop 24 ws)) is
      ∙ ap (λ (x : List ℤ). board_lying l ws ++ boards_lying (drop (suc i) bs) x) (drop-drop 24 (13 + 24 * i) zs ∙ ap (λ (k : ℕ). drop k zs) more)
      ∙ ap (λ (k : ℕ). board_lying l ws ++ boards_lying (drop k bs) (drop (13 + 24 * (i + 1)) zs)) (sym (add-one i)))

  pub no_board_lem : (i : ℕ) (ws : List ℤ) → n ≤ i → boards_lying (drop i (boards_of net)) ws ≡ []
  unfolding boards_lying
  no_board_lem i ws h = ap (λ (l : List Board). boards_lying l ws) (drop_of_length-le (boards_of net) {i = i} (omega (arith, e, boards_count net)))
