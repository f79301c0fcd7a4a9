-- Text written behind text with a pen: what the functions that write hand on to each other. Assumes nothing.
use mathlib.Core.Path.{◌≡◌, refl, ◌∙◌}
use mathlib.Core.List.{List, [], ◌++◌}
use Prim.Native.Nat.{ℕ}
use Rattle.decimal.specs.declared.Pen.{Pen}
use Rattle.decimal.specs.Writing.{Fits, Writes}
use Rattle.decimal.proofs.Writes.{wrote_none, room_front, room_behind, wrote_then}

pub fits_front : {s : List ℕ} {pen : Pen} (t : List ℕ) → Fits (s ++ t) pen → Fits s pen
fits_front t f = record { room = room_front t f.room }

pub fits_as : {s t : List ℕ} {pen : Pen} → s ≡ t → Fits s pen → Fits t pen
fits_as e f = rw e at f

pub writes_as : {s t : List ℕ} {pen later : Pen} → s ≡ t → Writes s pen later → Writes t pen later
writes_as e w = rw e at w

pub writes_then : {s t : List ℕ} {pen mid later : Pen} → Fits (s ++ t) pen → Writes s pen mid → Writes t mid later → Writes (s ++ t) pen later
writes_then f w v = record { wrote = wrote_then f.room w.wrote v.wrote; same_buffer = v.same_buffer ∙ w.same_buffer }

-- ---- of s, that the pen is to write, t is left to write from mid on
pub record Left (pen : Pen) (s : List ℕ) (mid : Pen) (t : List ℕ) : Type 0 where
  pub room : Fits t mid
  pub then : (later : Pen) → Writes t mid later → Writes s pen later

pub left_all : {pen : Pen} {s : List ℕ} → Fits s pen → Left pen s pen s
left_all r = record { room = r; then = λ later w. w }

pub left_as : {pen mid : Pen} {s t t' : List ℕ} → t ≡ t' → Left pen s mid t → Left pen s mid t'
left_as e l = rw e at l

pub left_by : {pen : Pen} {s t : List ℕ} → s ≡ t → Fits s pen → Left pen s pen t
left_by e r = left_as e (left_all r)

pub left_then : {pen mid next : Pen} {s t u : List ℕ} → Left pen s mid (t ++ u) → Writes t mid next → Left pen s next u
left_then l w = record { room = record { room = room_behind l.room.room w.wrote }; then = λ later v. l.then later (writes_then l.room w v) }

pub left_two : {pen mid next end : Pen} {s t u v : List ℕ} → Left pen s mid (t ++ (u ++ v)) → Writes t mid next → Writes u next end → Left pen s end v
left_two l w v = left_then (left_then l w) v

pub left_last : {pen mid later : Pen} {s t : List ℕ} → Left pen s mid t → Writes t mid later → Writes s pen later
left_last {later = later} l w = l.then later w

-- nothing is left
pub left_none : {pen mid : Pen} {s : List ℕ} → Left pen s mid [] → Writes s pen mid
left_none {mid = mid} l = l.then mid (record { wrote = wrote_none mid.at mid.out.now; same_buffer = refl })
