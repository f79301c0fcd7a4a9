-- What the operations on numbers ask at each step, in the order in which the table is computed: of +, the binary -, conj and turn each operand (Addable), of * both (Factors), of the other -
-- and square theirs. Assumes nothing.
use mathlib.Core.Path.{◌≡◌, sym, subst}
use Prim.Native.Nat.{ℕ}
use lib.Dec.{lit≤}
use lib.IntN.{ℤ}
use Rattle.lemmas.specs.Small.{Small}
use Rattle.turn.specs.declared.Num.{Num}
use Rattle.turn.specs.Number.{whole_n, one_n, ◌+N◌, ◌-N◌, ◌*N◌, turn_n, conj_n}
use Rattle.turn.specs.Bounds.{Within, Addable, Negatable, Squarable, Factors}
use Rattle.turn.proofs.Within.{within_weak, within_add, within_turn}
use Rattle.paper.specs.declared.Ohms.{Ohms}
use Rattle.paper.specs.declared.Seq.{Seq}
use Rattle.paper.specs.Fault.{num_of}
use Rattle.follows.proofs.Row.{GOf, row_of}
use Rattle.paper.specs.Bounds.{AtMost, Plane, EachSeq, most_d, most_i, most_w, most_lift}
use Rattle.fits.proofs.Plane.{plane_num, plane_whole, plane_add, plane_sub, plane_mul, plane_conj, addable, negatable, squarable, factors}
use Rattle.fits.proofs.Sizes.{Ranged, plane_one, G_plane, divisor_plane, above_plane, drop_plane}

-- ---- the divisor
-- "G = Z0 + 3Zf"
pub record ForG (Z0 Zf : Num) : Type 0 where
  pub once : Addable Zf
  pub twice : Addable (Zf +N Zf)
  pub thrice : Addable (Zf +N Zf +N Zf)
  pub zero : Addable Z0

-- the sums of kinds 0 to 2
pub record ForSums (Z1 Z2 G : Num) : Type 0 where
  pub first : Addable Z1
  pub second : Addable Z2
  pub both : Addable (Z1 +N Z2)
  pub earth : Addable G

-- "Δ = Z1·Z2 + Z1·G + Z2·G", and -G and -Z2 above it
pub record ForΔ (Z1 Z2 G : Num) : Type 0 where
  pub times12 : Factors Z1 Z2
  pub times1_g : Factors Z1 G
  pub times2_g : Factors Z2 G
  pub product12 : Addable (Z1 *N Z2)
  pub product1_g : Addable (Z1 *N G)
  pub sum : Addable (Z1 *N Z2 +N Z1 *N G)
  pub product2_g : Addable (Z2 *N G)
  pub neg_g : Negatable G
  pub neg2 : Negatable Z2

-- "-I1" of kind 2
pub for_minus : Negatable one_n
for_minus = negatable plane_one (lit≤ tt)

module _ {z1 z2 z0 zf : Ohms} (s : Ranged z1 z2 z0 zf) where
  pub for_G : ForG (num_of z0) (num_of zf)
  for_G =
      let f = plane_num s.uptof in
      record {
        once = addable f (lit≤ tt);
        twice = addable (plane_add f f) (lit≤ tt);
        thrice = addable (plane_add (plane_add f f) f) (lit≤ tt);
        zero = addable (plane_num s.upto0) (lit≤ tt);
      }

  pub for_sums : ForSums (num_of z1) (num_of z2) (GOf z1 z2 z0 zf)
  for_sums =
      let p1 = plane_num s.upto1 in
      let p2 = plane_num s.upto2 in
      record { first = addable p1 (lit≤ tt); second = addable p2 (lit≤ tt); both = addable (plane_add p1 p2) (lit≤ tt); earth = addable (G_plane s) (lit≤ tt) }

  pub for-Δ : ForΔ (num_of z1) (num_of z2) (GOf z1 z2 z0 zf)
  for-Δ =
      let p1 = plane_num s.upto1 in
      let p2 = plane_num s.upto2 in
      let g = G_plane s in
      record {
        times12 = factors p1 p2 (lit≤ tt);
        times1_g = factors p1 g (lit≤ tt);
        times2_g = factors p2 g (lit≤ tt);
        product12 = addable (plane_mul p1 p2) (lit≤ tt);
        product1_g = addable (plane_mul p1 g) (lit≤ tt);
        sum = addable (plane_add (plane_mul p1 p2) (plane_mul p1 g)) (lit≤ tt);
        product2_g = addable (plane_mul p2 g) (lit≤ tt);
        neg_g = negatable g (lit≤ tt);
        neg2 = negatable p2 (lit≤ tt);
      }

-- ---- D and the currents
pub record ForCurrents (d : Num) (above : Seq) : Type 0 where
  pub square : Squarable d
  pub conjugate : Addable d
  pub times : EachSeq (λ n. Factors n (conj_n d)) above

pub for_currents : {z1 z2 z0 zf : Ohms} (s : Ranged z1 z2 z0 zf) (kind : ℕ) → ForCurrents (row_of z1 z2 z0 zf kind).divisor (row_of z1 z2 z0 zf kind).above
for_currents s kind =
    let d = divisor_plane s kind in
    let c = plane_conj d in
    let n = above_plane s kind in
    record {
      square = squarable d (lit≤ tt);
      conjugate = addable d (lit≤ tt);
      times = record { e1 = factors n.e1 c (lit≤ tt); e2 = factors n.e2 c (lit≤ tt); e0 = factors n.e0 c (lit≤ tt) };
    }

-- ---- the referred voltages: W2, and W0 with what it is lifted by
pub record ForVoltage (I : Seq) (zb zc : Ohms) (up : Num) : Type 0 where
  pub drop2 : Negatable (num_of zb *N I.s2)
  pub drop0 : Addable (num_of zc *N I.s0)
  pub lifts : Addable up

pub for_voltage : {I : Seq} {zb zc : Ohms} {up : Num} → EachSeq (Plane most_i) I → AtMost 4095 zb → AtMost 4095 zc → Plane most_lift up → ForVoltage I zb zc up
for_voltage p ub uc l =
    record {
      drop2 = negatable (drop_plane ub p.e2) (lit≤ tt);
      drop0 = addable (drop_plane uc p.e0) (lit≤ tt);
      lifts = addable l (lit≤ tt);
    }

-- W1, of any board
pub record ForFirst (D : ℤ) (za : Ohms) (i1 : Num) : Type 0 where
  pub whole : Addable (whole_n D)
  pub drop1 : Addable (num_of za *N i1)
  pub turned : Negatable (whole_n D -N num_of za *N i1)

pub for_first : {D : ℤ} {za : Ohms} {i1 : Num} → Small most_d D → AtMost 4095 za → Plane most_i i1 → ForFirst D za i1
for_first d ua p =
    let w = plane_whole d in
    let v = drop_plane ua p in
    record { whole = addable w (lit≤ tt); drop1 = addable v (lit≤ tt); turned = negatable (plane_sub w v) (lit≤ tt) }

-- ---- what is shown, of three sequences: all of them, and each over 1, a or a²
pub record ForAll (u v w : Num) : Type 0 where
  pub zero : Addable u
  pub first : Addable v
  pub second : Addable w
  pub both : Addable (v +N w)
  pub all : Addable (u +N (v +N w))

pub for_all : {u v w : Num} → Within most_w u → Within most_w v → Within most_w w → ForAll u v w
for_all p q r =
    record {
      zero = within_weak (lit≤ tt) p;
      first = within_weak (lit≤ tt) q;
      second = within_weak (lit≤ tt) r;
      both = within_weak (lit≤ tt) (within_add q r);
      all = within_weak (lit≤ tt) (within_add p (within_add q r));
    }

pub record ForThirds (c0 c1 c2 : Num) : Type 0 where
  pub plain : Addable c0
  pub over_a : Addable c1
  pub over_a² : Addable c2
  pub by_a : Addable (turn_n 4 c1)
  pub by_a² : Addable (turn_n 8 c2)
  pub turned : Addable (turn_n 4 c1 +N turn_n 8 c2)

pub for_thirds : {c0 c1 c2 : Num} → Within most_w c0 → Within most_w c1 → Within most_w c2 → ForThirds c0 c1 c2
for_thirds p q r =
    record {
      plain = within_weak (lit≤ tt) p;
      over_a = within_weak (lit≤ tt) q;
      over_a² = within_weak (lit≤ tt) r;
      by_a = within_weak (lit≤ tt) (within_turn 4 q);
      by_a² = within_weak (lit≤ tt) (within_turn 8 r);
      turned = within_weak (lit≤ tt) (within_add (within_turn 4 q) (within_turn 8 r));
    }

-- ---- what holds of a number holds of a result that is that number
pub within_is : {b : ℕ} {m n : Num} → m ≡ n → Within b n → Within b m
within_is {b} e w = subst (Within b) (sym e) w

pub factors_are : {k l m n : Num} → k ≡ m → l ≡ n → Factors m n → Factors k l
factors_are d e f = rw (d, e) f
