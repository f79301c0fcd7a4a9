-- A network that the reader accepts, written again: its own bytes. Assumes nothing.
use mathlib.Core.List.{List, [], ◌∷◌, ◌++◌}
use mathlib.Core.Option.{none}
use mathlib.Core.Path.{◌≡◌, refl, ◌∙◌, ap, ap₂}
use Prim.Native.Nat.{ℕ, zero, suc, ◌+◌, ◌*◌, ◌<◌}
use native.Mathlib.Omega.{arith}
use lib.ListN.{length, take, drop, length-take, length-drop, take-append-drop}
use lib.Seq.{length-take-le, get_or-take, get_or-drop}
use Rattle.paper.specs.Bytes.{bytes_at}
use Rattle.paper.specs.Bounds.{AtMost}
use Rattle.paper.specs.File.{head_of, ohms_at, board_of, records, records_of, decoded, boards_of}
use Rattle.paper.specs.Chain.{Boards}
use Rattle.paper.specs.Refusal.{head_rows, record_rows, in_order, records_rows, records_refusal, network_rows, network_refusal}
use Rattle.paper.specs.Write.{head_bytes, boards_bytes, head_for, file_of}
use Rattle.follows.proofs.Rows.{both_none}
use Rattle.follows.proofs.Accepted.{Network, accepted_network_lem, record_tested}
use Rattle.writer.specs.RoundTrip.{Typed, AllTyped, Bytes}
use Rattle.writer.proofs.Bytes.{record_back, head_back}

-- ---- bytes of bytes
bytes_take : (k : ℕ) (s : List ℕ) → Bytes s → Bytes (take k s)
bytes_take k s b = record { byte = λ i h. let in-k : i < k = omega (arith, length-take k s) in omega (arith, get_or-take k s i 0 in-k, b.byte i (omega (arith, length-take k s))) }

bytes_drop : (k : ℕ) (s : List ℕ) → Bytes s → Bytes (drop k s)
bytes_drop k s b = record { byte = λ i h. omega (arith, get_or-drop k s i 0, b.byte (k + i) (omega (arith, length-drop k s))) }

-- ---- a record
module _ (s : List ℕ) (n : length s ≡ 44) (b : Bytes s) where
  word : (i : ℕ) → i + 3 < 44 → AtMost 65535 (ohms_at s i)
  word i h =
      record {
        r_most = omega (arith, b.byte i (omega arith), b.byte (i + 1) (omega arith));
        x_most = omega (arith, b.byte (i + 2) (omega arith), b.byte (i + 2 + 1) (omega arith));
      }

  board_typed : Typed (board_of s)
  unfolding board_of bytes_at
  board_typed =
      record { label_12 = refl; feeder_12 = refl; z1_word = word 28 (omega arith); z2_word = word 32 (omega arith); z0_word = word 36 (omega arith); zn_word = word 40 (omega arith) }

-- ---- the records, one behind the other
pub records_again : (before : Boards) (n : ℕ) (s : List ℕ) → length s ≡ 44 * n → Bytes s → records_refusal before (records n s) ≡ none → (boards_bytes (decoded (records n s)) ≡ s) × AllTyped (decoded (records n s))
unfolding records decoded boards_bytes in_order
records_again before zero [] l b e = (refl, tt)
records_again before zero (x ∷ s) l b e = absurd (omega arith)
records_again before (suc n) s l b e =
    let (e1, e2) = both_none (record_rows before (take 44 s)) (records_rows (before ++ (board_of (take 44 s) ∷ [])) (records n (drop 44 s))) e in
    let l44 : length (take 44 s) ≡ 44 = length-take-le 44 s (omega arith) in
    let (same, typed) = records_again (before ++ (board_of (take 44 s) ∷ [])) n (drop 44 s) (omega (arith, length-drop 44 s)) (bytes_drop 44 s b) e2 in
    (ap₂ ◌++◌ (record_back (take 44 s) l44 (bytes_take 44 s b) (record_tested before (take 44 s) e1).0) same ∙ take-append-drop 44 s, (board_typed (take 44 s) l44 (bytes_take 44 s b), typed))

-- ---- the network
module _ (net : List ℕ) (b : Bytes net) (e : network_refusal net ≡ none) where
  accepted : Network net
  accepted = accepted_network_lem net e

  kept : records_refusal [] (records_of net) ≡ none
  unfolding network_rows
  kept = (both_none (head_rows net) (records_rows [] (records_of net)) e).1

  both : (boards_bytes (boards_of net) ≡ drop 8 net) × AllTyped (boards_of net)
  unfolding boards_of records_of
  both = records_again [] (head_of net).boards (drop 8 net) (omega (arith, length-drop 8 net, accepted.size)) (bytes_drop 8 net b) kept

  pub read_typed : AllTyped (boards_of net)
  read_typed = both.1

  same_head : head_for (head_of net).volts (head_of net).unit (boards_of net) ≡ head_of net
  same_head = λ i. record { volts = (head_of net).volts; unit = (head_of net).unit; boards = accepted.count i }

  pub file_again : file_of (head_of net).volts (head_of net).unit (boards_of net) ≡ net
  unfolding file_of
  file_again =
      ap₂ ◌++◌ (ap head_bytes same_head ∙ head_back net (omega (arith, accepted.size)) b accepted.head_mark) both.0 ∙ take-append-drop 8 net
