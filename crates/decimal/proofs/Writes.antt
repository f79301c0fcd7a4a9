-- Text written behind text: what the functions that write hand on to each other. Assumes nothing.
use mathlib.Core.Path.{◌≡◌, refl, sym, ap, ◌∙◌}
use mathlib.Core.List.{List, [], ◌∷◌, ◌++◌, append_assoc}
use Prim.Native.Nat.{ℕ, ◌+◌, ◌<◌}
use native.Mathlib.Nat.{add-zero, zero-add}
use native.Mathlib.Numerals.{add-one}
use native.Mathlib.Omega.{arith}
use lib.ListN.{length, get_or, take, drop, set, length-append, take-append-drop}
use lib.Seq.{paste, paste-suc, take-length, take-append_seam, drop-drop, set_split}
use Rattle.lemmas.specs.Over.{over}
use Rattle.lemmas.proofs.Over.{over_length, over_then}
use Rattle.decimal.specs.Wrote.{Room, Wrote}

-- nothing
pub wrote_none : (at : ℕ) (o : List ℕ) → Wrote at [] o o at
unfolding over
wrote_none at o = record { stands = sym (take-append-drop at o); behind = sym (add-zero at) }

-- a byte
pub wrote_byte : (at b : ℕ) (o : List ℕ) → at < length o → Wrote at (b ∷ []) o (set o at b) (at + 1)
unfolding over
wrote_byte at b o h = record { stands = set_split o at b h ∙ ap (λ (l : List ℕ). take at o ++ b ∷ l) (ap (λ (n : ℕ). drop n o) (sym (add-one at)) ∙ sym (drop-drop 1 at o)); behind = refl }

-- a copy
pub wrote_copy : (at n : ℕ) (s o later : List ℕ) → later ≡ paste o at s n → n ≡ length s → Wrote at s o later (at + n)
unfolding over
wrote_copy at n s o later e l =
    record {
      stands =
          e ∙ ap (λ (m : ℕ). paste o at s m) l
          ∙ ap (λ (x : List ℕ). (take at o ++ x) ++ drop (at + length s) o) (take-length s)
          ∙ append_assoc (take at o) s (drop (at + length s) o)
          ∙ ap (λ (x : List ℕ). take at o ++ (s ++ x)) (sym (drop-drop (length s) at o));
      behind = ap (λ (m : ℕ). at + m) l;
    }

-- a turn of it
pub copy_turn : (at i : ℕ) (s o later : List ℕ) → later ≡ paste o at s i → at + i < length o → i < length s → set later (at + i) (get_or s i 0) ≡ paste o at s (i + 1)
copy_turn at i s o later e h l =
    ap (λ (x : List ℕ). set x (at + i) (get_or s i 0)) e ∙ paste-suc o at s i 0 h l ∙ ap (λ (m : ℕ). paste o at s m) (sym (add-one i))

-- the buffer stays as long as it was
pub wrote_length : {at end : ℕ} {s o o' : List ℕ} → Room at s o → Wrote at s o o' end → length o' ≡ length o
wrote_length {at} {end} {s} {o} room w = ap length w.stands ∙ over_length 0 at s o room.fits

-- what was written from the front on is the front
pub wrote_front : {n : ℕ} {s o later : List ℕ} → Wrote 0 s o later n → take n later ≡ s
unfolding over
wrote_front {n} {s} {o} {later} w = ap (λ (k : ℕ). take k later) (w.behind ∙ zero-add (length s)) ∙ ap (take (length s)) w.stands ∙ take-append_seam s _

-- one buffer and one next place alone are what a text leaves
pub same_text : {at m n : ℕ} {s o x y : List ℕ} → Wrote at s o x m → Wrote at s o y n → (x ≡ y) × (m ≡ n)
same_text w v = (w.stands ∙ sym v.stands, w.behind ∙ sym v.behind)

-- ---- a text behind a text
-- room for both is room for the first
pub room_front : {at : ℕ} {s o : List ℕ} (t : List ℕ) → Room at (s ++ t) o → Room at s o
room_front {at} {s} {o} t room = record { fits = omega (arith, length-append s t, room.fits) }

-- and, behind the first, for the second
pub room_behind : {at mid : ℕ} {s t o o' : List ℕ} → Room at (s ++ t) o → Wrote at s o o' mid → Room mid t o'
room_behind {at} {mid} {s} {t} {o} {o'} room w =
    record { fits = omega (arith, length-append s t, room.fits, w.behind, ap length w.stands, over_length 0 at s o (omega (arith, length-append s t, room.fits))) }

pub wrote_then : {at mid end : ℕ} {s t o o' o'' : List ℕ} → Room at (s ++ t) o → Wrote at s o o' mid → Wrote mid t o' o'' end → Wrote at (s ++ t) o o'' end
wrote_then {at} {mid} {end} {s} {t} {o} {o'} {o''} room w v =
    record {
      stands =
          v.stands ∙ ap (λ (x : List ℕ). over mid t x) w.stands
          ∙ ap (λ (n : ℕ). over n t (over at s o)) w.behind
          ∙ over_then at s t o (omega (arith, room.fits));
      behind = omega (arith, length-append s t, w.behind, v.behind);
    }
