-- The file's fields, laid down and read back, and read and laid down again: a number, a board, a head. Assumes nothing.
use mathlib.Core.List.{List, [], ◌∷◌, ◌++◌}
use mathlib.Core.Path.{◌≡◌, refl, sym, ◌∙◌, ap}
use Prim.Native.Nat.{ℕ, ◌+◌, ◌*◌, ◌/◌, ◌%◌, ◌≤◌, ◌<◌}
use native.Mathlib.Omega.{arith}
use lib.ListN.{length, get_or, take}
use Rattle.lemmas.specs.Little.{little}
use Rattle.paper.specs.declared.Ohms.{Ohms}
use Rattle.paper.specs.declared.Head.{Head}
use Rattle.paper.specs.declared.Board.{Board}
use Rattle.paper.specs.Bytes.{u8_at, u16_at, bytes_at}
use Rattle.paper.specs.Kind.{ohms}
use Rattle.paper.specs.Bounds.{AtMost}
use Rattle.paper.specs.File.{mark_of, HD, BD, head_of, board_of}
use Rattle.paper.specs.Write.{head_bytes, board_bytes}
use Rattle.follows.proofs.Spelt.{front_bytes, all_bytes}
use Rattle.writer.specs.RoundTrip.{Typed, Bytes}

-- ---- a number of two bytes
pub two_back : (n : ℕ) → n ≤ 65535 → n % 256 + 256 * (n / 256 % 256) ≡ n
two_back n h = omega arith

back_two : (a b : ℕ) → a ≤ 255 → b ≤ 255 → little 2 (a + 256 * b) ≡ a ∷ b ∷ []
unfolding little
back_two a b h k =
    let low : (a + 256 * b) % 256 ≡ a = omega arith in
    let high : (a + 256 * b) / 256 ≡ b = omega arith in
    let same : b % 256 ≡ b = omega arith in
    λ i. low i ∷ (ap (λ (n : ℕ). n % 256) high ∙ same) i ∷ []

-- ---- a board
abbrev spelt : Board → Board
spelt b = record { z1 = b.z1; z2 = b.z2; z0 = b.z0; zn = b.zn; label = bytes_at 12 b.label 0; feeder = bytes_at 12 b.feeder 0; kind = b.kind; clock = b.clock }

module _ (b : Board) (t : Typed b) where
  label_spelt : bytes_at 12 b.label 0 ≡ b.label
  label_spelt = all_bytes b.label 12 t.label_12

  feeder_spelt : bytes_at 12 b.feeder 0 ≡ b.feeder
  feeder_spelt = all_bytes b.feeder 12 t.feeder_12

  is_spelt : spelt b ≡ b
  is_spelt = λ i. record { z1 = b.z1; z2 = b.z2; z0 = b.z0; zn = b.zn; label = label_spelt i; feeder = feeder_spelt i; kind = b.kind; clock = b.clock }

  pub board_length : length (board_bytes b) ≡ 44
  unfolding board_bytes little bytes_at
  board_length = ap (λ (d : Board). length (board_bytes d)) (sym is_spelt)

  pub board_mark : mark_of (board_bytes b) ≡ BD
  unfolding board_bytes little
  board_mark = refl

  back : (z : Ohms) → AtMost 65535 z → ohms (z.r % 256 + 256 * (z.r / 256 % 256)) (z.x % 256 + 256 * (z.x / 256 % 256)) ≡ z
  back z h = λ i. ohms (two_back z.r h.r_most i) (two_back z.x h.x_most i)

  pub board_back : board_of (board_bytes b) ≡ b
  unfolding board_bytes board_of little bytes_at
  board_back =
      ap (λ (d : Board). board_of (board_bytes d)) (sym is_spelt)
      ∙ (λ i. record { z1 = back b.z1 t.z1_word i; z2 = back b.z2 t.z2_word i; z0 = back b.z0 t.z0_word i; zn = back b.zn t.zn_word i; label = label_spelt i; feeder = feeder_spelt i; kind = b.kind; clock = b.clock })

module _ (s : List ℕ) (n : length s ≡ 44) (bs : Bytes s) where
  at : (i : ℕ) → i < 44 → get_or s i 0 ≤ 255
  at i h = bs.byte i (omega (arith, n))

  two_at : (i : ℕ) → i + 1 < 44 → little 2 (u16_at s i) ≡ u8_at s i ∷ u8_at s (i + 1) ∷ []
  two_at i h = back_two (u8_at s i) (u8_at s (i + 1)) (at i (omega arith)) (at (i + 1) h)

  pub record_back : mark_of s ≡ BD → board_bytes (board_of s) ≡ s
  unfolding board_bytes board_of bytes_at
  record_back m =
      (λ i. (ap (little 2) (sym m) ∙ two_at 0 (omega arith)) i ++ (bytes_at 12 s 2 ++ (bytes_at 12 s 14 ++ ((u8_at s 26 ∷ u8_at s 27 ∷ [])
      ++ ((two_at 28 (omega arith) i ++ two_at 30 (omega arith) i) ++ ((two_at 32 (omega arith) i ++ two_at 34 (omega arith) i) ++ ((two_at 36 (omega arith) i ++ two_at 38 (omega arith) i) ++ (two_at 40 (omega arith) i ++ two_at 42 (omega arith) i))))))))
      ∙ all_bytes s 44 n

-- ---- a head
pub head_length : (h : Head) → length (head_bytes h) ≡ 8
unfolding head_bytes little
head_length h = refl

module _ (s : List ℕ) (n : 8 ≤ length s) (bs : Bytes s) where
  head_two : (i : ℕ) → i + 1 < 8 → little 2 (u16_at s i) ≡ u8_at s i ∷ u8_at s (i + 1) ∷ []
  head_two i h = back_two (u8_at s i) (u8_at s (i + 1)) (bs.byte i (omega arith)) (bs.byte (i + 1) (omega arith))

  pub head_back : mark_of s ≡ HD → head_bytes (head_of s) ≡ take 8 s
  unfolding head_bytes head_of bytes_at
  head_back m =
      (λ i. (ap (little 2) (sym m) ∙ head_two 0 (omega arith)) i ++ (head_two 2 (omega arith) i ++ (head_two 4 (omega arith) i ++ head_two 6 (omega arith) i)))
      ∙ front_bytes 8 s n
