-- R-2: the row of a fault by whether the faulted board has an earth return, and what it lifts W0 by where it has none. Assumes nothing.
use mathlib.Core.Bool.{Bool, true, false}
use mathlib.Core.List.{[], ◌∷◌}
use mathlib.Core.Logic.{◌⊎◌, inl, inr}
use mathlib.Core.Path.{◌≡◌, refl}
use Prim.Native.Nat.{ℕ, zero, suc}
use lib.IntN.{ℤ}
use Rattle.lemmas.proofs.Bools.{both, untrue, not_both}
use Rattle.lemmas.proofs.Ring.{mul_zer}
use Rattle.lemmas.proofs.Solver.{◌⊗◌, ⊝◌}
use Rattle.lemmas.proofs.Solve.{solve}
use Rattle.turn.specs.declared.Num.{Num}
use Rattle.turn.specs.Number.{◌*N◌}
use Rattle.turn.proofs.Ring.{Nring}
use Rattle.paper.specs.declared.Ohms.{Ohms}
use Rattle.paper.specs.declared.Fault.{Fault}
use Rattle.paper.specs.Bytes.{one_of}
use Rattle.paper.specs.Chain.{unearthed}
use Rattle.paper.specs.Fault.{nil_n, num_of, Short, unearthed_shorts, short_of, lift_of}
use Rattle.paper.specs.Phase.{Asked, only_if}
use Rattle.follows.proofs.Lists.{On, on_none, on_cases}
use Rattle.follows.proofs.Row.{clear_lifts_nothing}
use Rattle.laws.specs.Values.{Same}
use Rattle.laws.specs.Laws.{lifts}
use Rattle.laws.proofs.Fractions.{same_nil, same_minus, same_only}

-- ---- the row of a fault at a board of these impedances, without earth return (`true`) or with one
abbrev pub row_at : Fault → Ohms → Ohms → Ohms → Bool → ℕ → Short
row_at f z1 z2 z0 u kind = short_of (num_of z1) (num_of z2) (num_of z0) (num_of f.zf) u kind

-- without earth return no row has current to earth
pub no_earth_row : (f : Fault) (z1 z2 z0 : Ohms) (kind : ℕ) → (row_at f z1 z2 z0 true kind).above.s0 ≡ nil_n
unfolding short_of unearthed_shorts
no_earth_row f z1 z2 z0 zero = refl
no_earth_row f z1 z2 z0 (suc zero) = refl
no_earth_row f z1 z2 z0 (suc (suc zero)) = refl
no_earth_row f z1 z2 z0 (suc (suc (suc zero))) = refl
no_earth_row f z1 z2 z0 (suc (suc (suc (suc kind)))) = refl

-- ---- the lift, of the faulted board's W1, w
abbrev pub lift_at : Bool → ℕ → Num → Num
lift_at u kind w = only_if u (lift_of kind w)

-- only in kinds 1 and 3 without earth return
abbrev pub Freed : Bool → ℕ → Type 0
Freed u kind = (u ≡ true) × ((kind ≡ 1) ⊎ (kind ≡ 3))

pub not_freed : (u : Bool) (kind : ℕ) → (kind ≡ 1 → ⊥) → (kind ≡ 3 → ⊥) → Freed u kind → ⊥
not_freed u kind a b f = go f.1
  where
    go : (kind ≡ 1) ⊎ (kind ≡ 3) → ⊥
    go (inl e) = a e
    go (inr e) = b e

pub unlifted : (u : Bool) (kind : ℕ) (w : Num) → (Freed u kind → ⊥) → lift_at u kind w ≡ nil_n
unfolding only_if
unlifted false kind w un = refl
unlifted true kind w un = clear_lifts_nothing kind w (λ e. un (refl, inl e)) (λ e. un (refl, inr e))

-- these are the faults of `lifts`
module _ (q : Asked) where
  open q use {boards, fault, k}

  freed_lifts : Freed (unearthed boards k) fault.kind → lifts q ≡ true
  unfolding lifts one_of
  freed_lifts f = go f.1
    where
      go : (fault.kind ≡ 1) ⊎ (fault.kind ≡ 3) → lifts q ≡ true
      go (inl e) = rw (f.0, e) refl
      go (inr e) = rw (f.0, e) refl

  pub lifts_freed : lifts q ≡ true → Freed (unearthed boards k) fault.kind
  unfolding lifts
  lifts_freed h = let (a, u) = both _ (unearthed boards k) h in (u, first (on_cases fault.kind 1 (3 ∷ []) a))
    where
      last : (fault.kind ≡ 3) ⊎ On fault.kind [] → fault.kind ≡ 3
      last (inl e) = e
      last (inr o) = absurd (on_none fault.kind o)

      first : (fault.kind ≡ 1) ⊎ On fault.kind (3 ∷ []) → (fault.kind ≡ 1) ⊎ (fault.kind ≡ 3)
      first (inl e) = inl e
      first (inr o) = inr (last (on_cases fault.kind 3 [] o))

  pub unfreed : lifts q ≡ false → Freed (unearthed boards k) fault.kind → ⊥
  unfreed h f = not_both (freed_lifts f) h

  pub unfreed_lifts : (Freed (unearthed boards k) fault.kind → ⊥) → lifts q ≡ false
  unfreed_lifts un = untrue (lifts q) (λ t. un (lifts_freed t))

-- ---- it goes with W1
pub lift_same : (E N : ℤ) (u : Bool) (kind : ℕ) (v w : Num) → Same E v N w → Same E (lift_at u kind v) N (lift_at u kind w)
unfolding lift_of
lift_same E N u kind v w h = same_only E N (lift_of kind v) (lift_of kind w) (go kind) u
  where
    go : (kind : ℕ) → Same E (lift_of kind v) N (lift_of kind w)
    go zero = same_nil E N refl refl
    go (suc zero) = same_minus E N v w h
    go (suc (suc zero)) = same_nil E N refl refl
    go (suc (suc (suc zero))) = h
    go (suc (suc (suc (suc kind)))) = same_nil E N refl refl

pub lift_times : (m : Num) (u : Bool) (kind : ℕ) (w : Num) → m *N lift_at u kind w ≡ lift_at u kind (m *N w)
unfolding lift_of only_if
lift_times m false kind w = mul_zer Nring m
lift_times m true zero w = mul_zer Nring m
lift_times m true (suc zero) w = solve Nring 2 (λ m w. m ⊗ (⊝ w)) (λ m w. ⊝ (m ⊗ w)) tt m w
lift_times m true (suc (suc zero)) w = mul_zer Nring m
lift_times m true (suc (suc (suc zero))) w = refl
lift_times m true (suc (suc (suc (suc kind)))) w = mul_zer Nring m
