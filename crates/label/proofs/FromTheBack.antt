-- Spaces to a label's end, read from the back: what the bytes from i on say, from what those behind i say. Assumes nothing.
use Rattle.std.proofs.Common.{◌≡◌, ℕ, suc, ◌-◌, ◌<◌, ◌≤◌, Bool, true, ◌&&◌, eqb, List, ◌∷◌, length, drop, sym, ap, ◌∙◌, arith, drop_of_length-le, drop-cons}
use Rattle.paper.specs.Bytes.{u8_at}
use Rattle.paper.specs.Label.{blank}

module _ (l : List ℕ) (n : length l ≡ 12) where
  pub ends_blank : true ≡ blank (drop 12 l)
  unfolding blank
  ends_blank = sym (ap blank (drop_of_length-le l {i = 12} (omega arith)))

  module _ (i : ℕ) (h : 0 < i) (k : i ≤ 12) where
    from : drop (i - 1) l ≡ u8_at l (i - 1) ∷ drop i l
    from = let e : suc (i - 1) ≡ i = omega arith in drop-cons l (i - 1) 0 (omega arith) ∙ ap (λ n. u8_at l (i - 1) ∷ drop n l) e

    pub blank_from : {b : Bool} → b ≡ blank (drop i l) → (eqb (u8_at l (i - 1)) 0x20 && b) ≡ blank (drop (i - 1) l)
    unfolding blank
    blank_from e = rw (from, e)
