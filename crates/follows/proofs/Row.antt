-- The fault table over impedances: what holds of each row holds of the row of every kind; and the table of a board without earth return has no row that this one has not, of another kind or Zf.
-- Assumes nothing.
use mathlib.Core.Bool.{Bool, true, false, cond, ◌&&◌}
use mathlib.Core.List.{[], ◌∷◌}
use mathlib.Core.Path.{◌≡◌, refl}
use Prim.Native.Nat.{ℕ, zero, suc, ◌≤◌}
use native.Mathlib.Omega.{arith}
use lib.Dec.{eqb}
use lib.IntN.{ℤ}
use lib.ListN.{get_or, get_or-eq_default}
use Rattle.turn.specs.declared.Num.{Num}
use Rattle.turn.specs.Number.{one_n, ◌+N◌, neg_n}
use Rattle.paper.specs.declared.Ohms.{Ohms}
use Rattle.paper.specs.declared.Seq.{Seq}
use Rattle.paper.specs.Kind.{ohms}
use Rattle.paper.specs.Bounds.{AtMost}
use Rattle.paper.specs.Fault.{nil_n, num_of, seq, Short, no_short, G, Δ, shorts, unearthed_shorts, short_of, D, currents, lift_of}

-- P speaks of a divisor and of what stands above the line
module _ (Z1 Z2 Z0 Zf : Num) (P : Num → Seq → Type 0) where
  pub each_row : P (Z1 +N Zf) (seq one_n nil_n nil_n)
      → P (Z1 +N Z2 +N G Z1 Z2 Z0 Zf) (seq one_n one_n one_n)
      → P (Z1 +N Z2 +N Zf) (seq one_n (neg_n one_n) nil_n)
      → P (Δ Z1 Z2 Z0 Zf) (seq (Z2 +N G Z1 Z2 Z0 Zf) (neg_n (G Z1 Z2 Z0 Zf)) (neg_n Z2))
      → P one_n (seq nil_n nil_n nil_n)
      → (kind : ℕ)
      → P (short_of Z1 Z2 Z0 Zf false kind).divisor (short_of Z1 Z2 Z0 Zf false kind).above
  unfolding short_of shorts
  each_row p0 p1 p2 p3 p4 zero = p0
  each_row p0 p1 p2 p3 p4 (suc zero) = p1
  each_row p0 p1 p2 p3 p4 (suc (suc zero)) = p2
  each_row p0 p1 p2 p3 p4 (suc (suc (suc zero))) = p3
  each_row p0 p1 p2 p3 p4 (suc (suc (suc (suc k)))) = p4

-- a number that is no kind has the default row
pub no_row : (Z1 Z2 Z0 Zf : Num) (kind : ℕ) → 4 ≤ kind → short_of Z1 Z2 Z0 Zf false kind ≡ no_short
unfolding short_of shorts
no_row Z1 Z2 Z0 Zf kind h = get_or-eq_default (shorts Z1 Z2 Z0 Zf) _ h

-- the table over impedances
module _ (z1 z2 z0 zf : Ohms) where
  abbrev pub GOf : Num
  GOf = G (num_of z1) (num_of z2) (num_of z0) (num_of zf)

  abbrev pub ΔOf : Num
  ΔOf = Δ (num_of z1) (num_of z2) (num_of z0) (num_of zf)

  abbrev pub row_of : ℕ → Short
  row_of kind = short_of (num_of z1) (num_of z2) (num_of z0) (num_of zf) false kind

  abbrev pub DOf : ℕ → ℤ
  DOf kind = D (row_of kind)

  abbrev pub IOf : ℕ → Seq
  IOf kind = currents (row_of kind)

-- ---- a kind that is clear of earth, neither 1 nor 3: 0, 2, or no kind
pub clear_of_earth : (P : ℕ → Type 0) → P 0 → P 2 → ((k : ℕ) → P (suc (suc (suc (suc k))))) → (kind : ℕ) → (kind ≡ 1 → ⊥) → (kind ≡ 3 → ⊥) → P kind
clear_of_earth P p0 p2 p4 zero h1 h3 = p0
clear_of_earth P p0 p2 p4 (suc zero) h1 h3 = absurd (h1 refl)
clear_of_earth P p0 p2 p4 (suc (suc zero)) h1 h3 = p2
clear_of_earth P p0 p2 p4 (suc (suc (suc zero))) h1 h3 = absurd (h3 refl)
clear_of_earth P p0 p2 p4 (suc (suc (suc (suc k)))) h1 h3 = p4 k

-- it lifts nothing
pub clear_lifts_nothing : (kind : ℕ) (w : Num) → (kind ≡ 1 → ⊥) → (kind ≡ 3 → ⊥) → lift_of kind w ≡ nil_n
unfolding lift_of
clear_lifts_nothing kind w = clear_of_earth (λ n. lift_of n w ≡ nil_n) refl refl (λ k. refl) kind

-- ---- at a board without earth return
-- the kind and the Zf that a fault has there: of kind 1 the row of no kind, of kind 3 that of kind 2 with Zf = 0
unfoldable pub kind_at : Bool → ℕ → ℕ
kind_at unearthed kind = cond unearthed (get_or (0 ∷ 4 ∷ 2 ∷ 2 ∷ []) kind kind) kind

unfoldable pub zf_at : Bool → ℕ → Ohms → Ohms
zf_at unearthed kind zf = cond (unearthed && eqb kind 3) (ohms 0 0) zf

pub by_row : (z1 z2 z0 zf : Ohms) (unearthed : Bool) (kind : ℕ) → short_of (num_of z1) (num_of z2) (num_of z0) (num_of zf) unearthed kind ≡ row_of z1 z2 z0 (zf_at unearthed kind zf) (kind_at unearthed kind)
unfolding short_of shorts unearthed_shorts kind_at zf_at num_of
by_row z1 z2 z0 zf false kind = refl
by_row z1 z2 z0 zf true zero = refl
by_row z1 z2 z0 zf true (suc zero) = refl
by_row z1 z2 z0 zf true (suc (suc zero)) = refl
by_row z1 z2 z0 zf true (suc (suc (suc zero))) = refl
by_row z1 z2 z0 zf true (suc (suc (suc (suc kind)))) = refl

pub zf_small : (most : ℕ) (zf : Ohms) (unearthed : Bool) (kind : ℕ) → AtMost most zf → AtMost most (zf_at unearthed kind zf)
unfolding zf_at
zf_small most zf unearthed kind h = go (unearthed && eqb kind 3)
  where
    go : (c : Bool) → AtMost most (cond c (ohms 0 0) zf)
    go true = record { r_most = omega arith; x_most = omega arith }
    go false = h
