-- The part that is lent out is the part that is said. Assumes nothing.
use mathlib.Core.List.{List}
use mathlib.Core.Path.{◌≡◌, refl, sym, ◌∙◌, ap, subst}
use Prim.Native.Nat.{ℕ, ◌+◌, ◌-◌, ◌^◌, ◌≤◌, ◌<◌}
use native.Mathlib.Omega.{arith}
use lib.ListN.{length, take, drop, length-take, length-drop}
use denote.Ref.{Bor}
use Rattle.paper.specs.declared.Lent.{Lent}
use Rattle.paper.specs.declared.Lent.TheVariants.{NetworkBytes, FaultBytes, LabelBytes}
use Rattle.paper.specs.declared.Part.{Part}
use Rattle.paper.specs.Bytes.{cut}
use Rattle.verdict.specs.Shown.{lent, shown_bytes, Within, IsPart}

-- `&s[a..a + n]`
abbrev slice : Bor (List ℕ) → ℕ → ℕ → Bor (List ℕ)
slice s a n = record { ref_ptr = (s.ref_ptr.0, a + s.ref_ptr.1); now = take (a + n - a) (drop a s.now) }

slice_is : (s : Bor (List ℕ)) (a n : ℕ) → IsPart s a n (slice s a n)
slice_is s a n =
    let e : a + n - a ≡ n = omega arith in
    record { bytes = ap (λ (m : ℕ). take m (drop a s.now)) e; block = refl; offset = omega arith }

-- of the slice that the part names
pub lent_room : (p : Part) (net flt : List ℕ) → length net < 2 ^ 64 → length flt < 2 ^ 64 → Within p net flt → p.start + p.len < 2 ^ 64
lent_room p net flt n f fits = go p.whose fits
  where
    go : (w : Lent) → p.start + p.len ≤ length (lent w net flt) → p.start + p.len < 2 ^ 64
    go NetworkBytes h = omega arith
    go FaultBytes h = omega arith
    go LabelBytes h = omega arith

module _ (p : Part) (net flt : Bor (List ℕ)) (w : Lent) (h : p.whose ≡ w) where
  pub lent_end : Within p net.now flt.now → p.start + p.len ≤ length (lent w net.now flt.now)
  lent_end fits = subst (λ (v : Lent). p.start + p.len ≤ length (lent v net.now flt.now)) h fits

  pub lent_part : IsPart (lent p.whose net flt) p.start p.len (slice (lent w net flt) p.start p.len)
  lent_part = subst (λ (v : Lent). IsPart (lent v net flt) p.start p.len (slice (lent w net flt) p.start p.len)) (sym h) (slice_is (lent w net flt) p.start p.len)

-- the bytes, for a caller that has lists
pub lent_bytes : (w : Lent) (net flt : Bor (List ℕ)) {a n : ℕ} {r : Bor (List ℕ)} → IsPart (lent w net flt) a n r → r.now ≡ cut (lent w net.now flt.now) a n
lent_bytes NetworkBytes net flt h = h.bytes
lent_bytes FaultBytes net flt h = h.bytes
lent_bytes LabelBytes net flt h = h.bytes

module _ (p : Part) (net flt : List ℕ) where
  -- as many as the part says
  pub shown_length : Within p net flt → length (shown_bytes net flt p) ≡ p.len
  shown_length fits = simp (length-take, length-drop) (omega arith)

  -- and no more than the longer of the two slices has
  pub shown_most : {m : ℕ} → length net ≤ m → length flt ≤ m → length (shown_bytes net flt p) ≤ m
  shown_most {m} n f = go p.whose
    where
      go : (w : Lent) → length (cut (lent w net flt) p.start p.len) ≤ m
      go NetworkBytes = simp (length-take, length-drop) (omega arith)
      go FaultBytes = simp (length-take, length-drop) (omega arith)
      go LabelBytes = simp (length-take, length-drop) (omega arith)

-- two results that the contract allows are the same bytes at the same place
pub same_part_lem : {s : Bor (List ℕ)} {a n : ℕ} {q r : Bor (List ℕ)} → IsPart s a n q → IsPart s a n r → (q.now ≡ r.now) × (q.ref_ptr ≡ r.ref_ptr)
same_part_lem h k = (h.bytes ∙ sym k.bytes, λ i. ((h.block ∙ sym k.block) i, (h.offset ∙ sym k.offset) i))
