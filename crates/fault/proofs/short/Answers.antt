use mathlib.Core.Path.{◌≡◌, refl, sym, ap, ◌∙◌, subst}
use mathlib.Core.Bool.{Bool, true, false, not}
use Prim.Native.Nat.{ℕ, zero, suc}
use lib.IntN.{ℤ}
use mir.Syntax.{w64}
use mir.Facts.{to_z-of_z}
use borrow.Author.Rules.{rules}
use Rattle.lemmas.specs.Small.{Small}
use Rattle.turn.specs.declared.Num.{Num}
use Rattle.turn.specs.Number.{whole_n, ◌-N◌, ◌*N◌, square_n}
use Rattle.paper.specs.declared.Ohms.{Ohms}
use Rattle.paper.specs.declared.Seq.{Seq}
use Rattle.paper.specs.Bounds.{AtMost, most_d}
use Rattle.paper.specs.Fault.{num_of, Short, shorts, unearthed_shorts, short_of, D, currents, lift_of}
use Rattle.paper.specs.Phase.{only_if}
use Rattle.follows.proofs.Row.{row_of, kind_at, zf_at, by_row}
use Rattle.fits.proofs.Needs.{ForCurrents, for_currents}
use Rattle.fits.proofs.Sizes.{Ranged, ranged, ranged_at, D_most, currents_plane}
use Rattle.fault.specs.declared.kinds.FaultKind.{FaultKind}
use Rattle.fault.specs.Kinds.{kind_of, number_of}
use Rattle.fault.specs.Short.{shorted_of}
use Rattle.fault.proofs.short.Goals as goal

-- `fault::short` meets its contract: without earth return the row is that of another kind or Zf. Assumes nothing.
-- ---- the paper's tables read the number, and a number over 3 as any other
same_row : (Z1 Z2 Z0 Zf : Num) (unearthed : Bool) (kind : ℕ) → short_of Z1 Z2 Z0 Zf unearthed (number_of (kind_of kind)) ≡ short_of Z1 Z2 Z0 Zf unearthed kind
unfolding kind_of number_of short_of shorts unearthed_shorts
same_row Z1 Z2 Z0 Zf u zero = refl
same_row Z1 Z2 Z0 Zf u (suc zero) = refl
same_row Z1 Z2 Z0 Zf u (suc (suc zero)) = refl
same_row Z1 Z2 Z0 Zf u (suc (suc (suc zero))) = refl
same_row Z1 Z2 Z0 Zf true (suc (suc (suc (suc k)))) = refl
same_row Z1 Z2 Z0 Zf false (suc (suc (suc (suc k)))) = refl

same_lift : (kind : ℕ) (w : Num) → lift_of (number_of (kind_of kind)) w ≡ lift_of kind w
unfolding kind_of number_of lift_of
same_lift zero w = refl
same_lift (suc zero) w = refl
same_lift (suc (suc zero)) w = refl
same_lift (suc (suc (suc zero))) w = refl
same_lift (suc (suc (suc (suc k)))) w = refl

-- ---- k and f: the kind and the Zf that were picked
module _ {z1 z2 z0 zf f : Ohms} (kind : ℕ) (earthed : Bool) {k : ℕ} {named : FaultKind}
    (r : record { z1_at_most : AtMost 4095 z1; z2_at_most : AtMost 4095 z2; z0_at_most : AtMost 4095 z0; zf_at_most : AtMost 1365 zf }) (named_is : named ≡ kind_of kind)
    (kind_is : k ≡ kind_at (not earthed) (number_of named)) (zf_is : f ≡ zf_at (not earthed) (number_of named) zf) where
  in_range : Ranged z1 z2 z0 f
  in_range = rw zf_is (ranged_at (not earthed) (number_of named) (ranged (r.z1_at_most, (r.z2_at_most, (r.z0_at_most, r.zf_at_most)))))

  -- and their row
  picked_is : row_of z1 z2 z0 f k ≡ short_of (num_of z1) (num_of z2) (num_of z0) (num_of zf) (not earthed) kind
  picked_is =
      (λ i. row_of z1 z2 z0 (zf_is i) (kind_is i)) ∙ sym (by_row z1 z2 z0 zf (not earthed) (number_of named))
      ∙ ap (λ (k : FaultKind). short_of (num_of z1) (num_of z2) (num_of z0) (num_of zf) (not earthed) (number_of k)) named_is
      ∙ same_row (num_of z1) (num_of z2) (num_of z0) (num_of zf) (not earthed) kind

-- ---- the divisor and what stands above it, of the row that was picked
module _ {z1 z2 z0 f : Ohms} (k : ℕ) {n : Num} {a : Seq} (s : Ranged z1 z2 z0 f) (n_is : n ≡ (row_of z1 z2 z0 f k).divisor) (a_is : a ≡ (row_of z1 z2 z0 f k).above) where
  row_is : ◌≡◌ {A = Short} (record { divisor = n; above = a }) (row_of z1 z2 z0 f k)
  row_is = λ i. record { divisor = n_is i; above = a_is i }

  asked : ForCurrents n a
  asked = subst (λ (r : Short). ForCurrents r.divisor r.above) (sym row_is) (for_currents s k)

  -- the currents
  i_is : {i : Seq} → i ≡ currents (record { divisor = n; above = a }) → i ≡ currents (row_of z1 z2 z0 f k)
  i_is e = e ∙ ap currents row_is

-- and D
d_is : (r : Short) {n : Num} {d : ℤ} → n ≡ r.divisor → d ≡ square_n n → d ≡ D r
unfolding D
d_is r n_is e = e ∙ ap square_n n_is

pub invariant_of-z : goal.invariant_of-z
unfolding kind_at zf_at
invariant_of-z c =
    let s = in_range c.args.kind c.args.earthed c.requires c.from-named.ensures c.kind_at-flowing.ensures c.zf_at-f.ensures in
    record { z1_at_most = s.upto1; z2_at_most = s.upto2; z0_at_most = s.upto0; zf_at_most = s.uptof }

pub currents-i-requires : goal.currents-i-requires
unfolding kind_at zf_at
currents-i-requires c =
    let s = in_range c.args.kind c.args.earthed c.requires c.from-named.ensures c.kind_at-flowing.ensures c.zf_at-f.ensures in
    let n = asked (number_of c.kind_at-flowing.result) s c.divisor-n.ensures c.above.ensures in
    record { n_addable = n.conjugate; a_factors = n.times }

pub square-d-requires : goal.square-d-requires
unfolding kind_at zf_at
square-d-requires c =
    let s = in_range c.args.kind c.args.earthed c.requires c.from-named.ensures c.kind_at-flowing.ensures c.zf_at-f.ensures in
    (asked (number_of c.kind_at-flowing.result) s c.divisor-n.ensures c.above.ensures).square

pub invariant_of-over : goal.invariant_of-over
unfolding kind_at zf_at
invariant_of-over c =
    let k = number_of c.kind_at-flowing.result in
    let s = in_range c.args.kind c.args.earthed c.requires c.from-named.ensures c.kind_at-flowing.ensures c.zf_at-f.ensures in
    record {
      d_small = subst (Small most_d) (sym (d_is _ c.divisor-n.ensures (to_z-of_z {w = w64} {z = c.square-d.result} (search rules) ∙ c.square-d.ensures))) (record { small = D_most s k });
      i_plane = rw (i_is k s c.divisor-n.ensures c.above.ensures c.currents-i.ensures) (currents_plane s k);
    }

pub returns : goal.returns
unfolding shorted_of kind_at zf_at
returns c =
    let z = c.args in
    let k = number_of c.kind_at-flowing.result in
    let s = in_range c.args.kind c.args.earthed c.requires c.from-named.ensures c.kind_at-flowing.ensures c.zf_at-f.ensures in
    let r = picked_is z.kind z.earthed c.requires c.from-named.ensures c.kind_at-flowing.ensures c.zf_at-f.ensures in
    let d = d_is _ c.divisor-n.ensures (to_z-of_z {w = w64} {z = c.square-d.result} (search rules) ∙ c.square-d.ensures) ∙ ap D r in
    let i = i_is k s c.divisor-n.ensures c.above.ensures c.currents-i.ensures ∙ ap currents r in
    λ t. record {
      d = d t;
      i = i t;
      lift = (c.lift-lift.ensures ∙ (λ u. only_if (not z.earthed) (lift_of (number_of (c.from-named.ensures u)) (whole_n (d u) -N num_of z.z1 *N (i u).s1)))
          ∙ ap (only_if (not z.earthed)) (same_lift z.kind _)) t;
    }
