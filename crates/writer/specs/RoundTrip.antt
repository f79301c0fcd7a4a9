-- 02, R-1: what its theorems are said with (proofs/Theorems.antt). Assumes nothing.
use Rattle.std.specs.Prelude.{List, [], ◌∷◌, ◌≡◌, ℕ, ◌≤◌, ◌<◌, length, get_or}
use Rattle.std.proofs.Math.Option.{Option, none, some}
use Rattle.paper.specs.declared.Board.{Board}
use Rattle.paper.specs.declared.Refusal.{Refusal}
use Rattle.paper.specs.Bounds.{AtMost}
use Rattle.paper.specs.File.{head_of, boards_of}
use Rattle.paper.specs.Chain.{Boards}
use Rattle.paper.specs.Refusal.{no_part, network_refusal}
use Rattle.paper.specs.Write.{head_for}

-- ---- what types say of boards, twelve bytes to a label and two to a number, and of bytes. All boards that a call is lent are so (proofs/, `typed_boards`)
pub record Typed (b : Board) : Type 0 where
  pub label_12 : length b.label ≡ 12
  pub feeder_12 : length b.feeder ≡ 12
  pub z1_word : AtMost 65535 b.z1
  pub z2_word : AtMost 65535 b.z2
  pub z0_word : AtMost 65535 b.z0
  pub zn_word : AtMost 65535 b.zn

abbrev pub AllTyped : Boards → Type 0
AllTyped [] = Unit {0}
AllTyped (b ∷ bs) = Typed b × AllTyped bs

pub record Bytes (s : List ℕ) : Type 0 where
  pub byte : (i : ℕ) → i < length s → get_or s i 0 ≤ 255

-- ---- "Reading what was written gives the same boards": the bytes are accepted, and say volts, unit and boards
pub record ReadBack (volts unit : ℕ) (bs : Boards) (net : List ℕ) : Type 0 where
  pub accepted : network_refusal net ≡ none
  pub same_head : head_of net ≡ head_for volts unit bs
  pub same_boards : boards_of net ≡ bs

-- ---- a refusal of the reader's with its number and its place, and without the bytes
unfoldable pub unshown : Option Refusal → Option Refusal
unshown none = none
unshown (some r) = some (record { part = no_part; place = r.place; number = r.number })
