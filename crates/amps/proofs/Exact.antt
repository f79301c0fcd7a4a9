-- "|I|² is then a fraction of whole numbers": over D² it is D times a factor of the kind, so over D it is the factor. The amps are the root of that. Assumes nothing.
use mathlib.Core.Path.{◌≡◌, refl, sym, ◌∙◌, ap, ap₂}
use mathlib.Core.Bool.{Bool, true, false}
use mathlib.Core.List.{[], ◌∷◌}
use mathlib.Core.Logic.{◌⊎◌, inl, inr}
use Prim.Native.Nat.{ℕ, zero, suc, ◌+◌, ◌*◌, ◌≤◌}
use native.Mathlib.Nat.{zero-mul, mul-pos, mul-le-mul, le_trans, lt_of_le_of_lt, div-le_self}
use native.Mathlib.Omega.{arith}
use lib.Dec.{lit≤}
use lib.IntN.{ℤ, pos, nat_abs}
use lib.ListN.{get_or}
use Rattle.lemmas.proofs.Ring.{ℤring}
use Rattle.lemmas.proofs.Solver.{con, ◌⊕◌, ◌⊗◌, ⊝◌}
use Rattle.lemmas.proofs.Solve.{solve}
use Rattle.turn.specs.declared.Num.{Num}
use Rattle.turn.specs.Number.{whole_n, power_n, times_t, ◌+N◌, neg_n, ◌·N◌, ◌*N◌, conj_n, square_n}
use Rattle.turn.proofs.Ring.{Nring, whole_mul}
use Rattle.turn.proofs.Conj.{conj_mul, conj_conj}
use Rattle.root.specs.Root.{Root}
use Rattle.root.proofs.Laws.{root_unique}
use Rattle.paper.specs.declared.Ohms.{Ohms}
use Rattle.paper.specs.Kind.{is_zero}
use Rattle.paper.specs.Chain.{unearthed, Z1, Z2, Z0}
use Rattle.paper.specs.declared.Seq.{Seq}
use Rattle.paper.specs.Fault.{num_of, seq, shorts, unearthed_shorts, short_of, D, currents}
use Rattle.paper.specs.Phase.{Asked, the_short, the_d, the_i, shows}
use Rattle.paper.specs.Amps.{greatest, said, said_square, amps_over, amps_under, amps, factor}
use Rattle.follows.proofs.Flat.{flat_num, flat_add, flat_neg, flat_square}
use Rattle.follows.proofs.Square.{sq}
use Rattle.follows.proofs.Divisor.{the_d_square, the_d_natural, the_d_least}
use Rattle.paper.specs.Bounds.{AtMost}
use Rattle.amps.proofs.Greatest.{greatest_is, root_scale, greatest_scale, greatest_none}

-- ---- I is some number N times the conjugate of the divisor, so the square of its absolute value is N's times D
product_square : (N d : Num) (k : ℕ) (D : ℤ) {n : Num} → n ≡ N *N conj_n d → N *N conj_n N ≡ whole_n (pos k) → d *N conj_n d ≡ whole_n D → D ≡ pos (nat_abs D)
    → n *N conj_n n ≡ whole_n (pos (k * nat_abs D))
product_square N d k D e eN ed eD =
    ap (λ (n : Num). n *N conj_n n) e ∙ ap (λ (c : Num). N *N conj_n d *N c) (conj_mul N (conj_n d) ∙ ap (λ (c : Num). conj_n N *N c) (conj_conj d))
    ∙ solve Nring 4 (λ n c m d. n ⊗ c ⊗ (m ⊗ d)) (λ n c m d. (n ⊗ m) ⊗ (d ⊗ c)) tt N (conj_n d) (conj_n N) d
    ∙ ap₂ ◌*N◌ eN (ed ∙ ap whole_n eD)
    ∙ sym (whole_mul (pos k) (pos (nat_abs D)))

-- "odd phase as a, I is Ia (kinds 0, 1), Ib (2) or the earth current 3I0 (3)"
abbrev said_of : Seq → ℕ → Num
said_of I kind = get_or (shows 0 0 0 I 0 ∷ shows 0 0 0 I 0 ∷ shows 0 0 0 I 1 ∷ (I.s0 +N I.s0 +N I.s0) ∷ []) kind (shows 0 0 0 I 0)

-- a factor of all three sequences is a factor of it
abbrev scaled : Seq → Num → Seq
scaled n c = seq (n.s1 *N c) (n.s2 *N c) (n.s0 *N c)

shows_scaled : (p sj sk i : ℕ) (n : Seq) (c : Num) → shows p sj sk (scaled n c) i ≡ shows p sj sk n i *N c
unfolding shows
shows_scaled p sj sk i n c =
    solve Nring 7 (λ w a b e c u v. w ⊗ (e ⊗ c ⊕ u ⊗ (a ⊗ c) ⊕ v ⊗ (b ⊗ c))) (λ w a b e c u v. w ⊗ (e ⊕ u ⊗ a ⊕ v ⊗ b) ⊗ c) tt (power_n (8 * p)) n.s1 n.s2
    n.s0 c (power_n (8 * i + 11 * sj + sk)) (power_n (4 * i + sj + 11 * sk))

thrice_scaled : (a c : Num) → a *N c +N a *N c +N a *N c ≡ (a +N a +N a) *N c
thrice_scaled = solve Nring 2 (λ a c. a ⊗ c ⊕ a ⊗ c ⊕ a ⊗ c) (λ a c. (a ⊕ a ⊕ a) ⊗ c) tt

said_scaled : (kind : ℕ) (n : Seq) (c : Num) → said_of (scaled n c) kind ≡ said_of n kind *N c
said_scaled zero n c = shows_scaled 0 0 0 0 n c
said_scaled (suc zero) n c = shows_scaled 0 0 0 0 n c
said_scaled (suc (suc zero)) n c = shows_scaled 0 0 0 1 n c
said_scaled (suc (suc (suc zero))) n c = thrice_scaled n.s0 c
said_scaled (suc (suc (suc (suc k)))) n c = shows_scaled 0 0 0 0 n c

-- ---- so it is what stands above the line, times the conjugate of the divisor
-- |-3 Z2|²
nine : (z : Ohms) → square_n (neg_n (num_of z) +N neg_n (num_of z) +N neg_n (num_of z)) ≡ pos (9 * sq z)
unfolding num_of square_n sq neg_n ◌+N◌
nine z =
    solve ℤring 2 (λ r x. (⊝ r ⊕ ⊝ r ⊕ ⊝ r) ⊗ (⊝ r ⊕ ⊝ r ⊕ ⊝ r) ⊕ (⊝ x ⊕ ⊝ x ⊕ ⊝ x) ⊗ (⊝ x ⊕ ⊝ x ⊕ ⊝ x)) (λ r x. con (pos 9) ⊗ (r ⊗ r ⊕ x ⊗ x)) tt
    (pos z.r) (pos z.x)

earth_square : (z : Ohms) → let n = neg_n (num_of z) +N neg_n (num_of z) +N neg_n (num_of z) in n *N conj_n n ≡ whole_n (pos (9 * sq z))
earth_square z = let f = flat_neg (flat_num z) in flat_square (flat_add (flat_add f f) f) ∙ ap whole_n (nine z)

module _ (z1 z2 z0 zf : Ohms) where
  abbrev above : Bool → ℕ → Num
  above unearthed kind = said_of (short_of (num_of z1) (num_of z2) (num_of z0) (num_of zf) unearthed kind).above kind

  -- its square is the factor
  above_square : (unearthed : Bool) (kind : ℕ) → above unearthed kind *N conj_n (above unearthed kind) ≡ whole_n (pos (factor unearthed z2 kind))
  unfolding factor sq short_of shorts unearthed_shorts shows power_n times_t conj_n ◌*N◌ ◌+N◌ ◌·N◌ neg_n
  above_square false zero = refl
  above_square false (suc zero) = refl
  above_square false (suc (suc zero)) = refl
  above_square false (suc (suc (suc zero))) = earth_square z2
  above_square false (suc (suc (suc (suc k)))) = refl
  above_square true zero = refl
  above_square true (suc zero) = refl
  above_square true (suc (suc zero)) = refl
  above_square true (suc (suc (suc zero))) = refl
  above_square true (suc (suc (suc (suc k)))) = refl

-- how large it is at most
pub factor_most : {z2 : Ohms} (unearthed : Bool) (kind : ℕ) → AtMost 4095 z2 → factor unearthed z2 kind ≤ 301842450
unfolding factor
factor_most unearthed zero u = lit≤ tt
factor_most false (suc zero) u = lit≤ tt
factor_most true (suc zero) u = lit≤ tt
factor_most unearthed (suc (suc zero)) u = lit≤ tt
factor_most false (suc (suc (suc zero))) u = omega (arith, mul-le-mul u.r_most u.r_most, mul-le-mul u.x_most u.x_most)
factor_most true (suc (suc (suc zero))) u = lit≤ tt
factor_most unearthed (suc (suc (suc (suc k)))) u = lit≤ tt

-- ---- of a question
module _ (q : Asked) where
  open q use {head, boards, fault, k}

  abbrev pub factor_of : ℕ
  factor_of = factor (unearthed boards k) (Z2 boards k) fault.kind

  -- volts·1,000,000, squared
  abbrev pub volts_square : ℕ
  volts_square = (head.volts * 1000000) * (head.volts * 1000000)

  -- |I|² over D² is a whole number, with no other coordinates: it is the factor times D
  pub said_square_lem : said q *N conj_n (said q) ≡ whole_n (pos (factor_of * nat_abs (the_d q)))
  unfolding said the_i the_short currents
  said_square_lem =
      let row = the_short q in
      let u = unearthed boards k in
      product_square (said_of row.above fault.kind) row.divisor factor_of (the_d q) (said_scaled fault.kind row.above (conj_n row.divisor))
      (above_square (Z1 boards k) (Z2 boards k) (Z0 boards k) fault.zf u fault.kind) (the_d_square q) (the_d_natural q)

  pub said_square_is : said_square q ≡ factor_of * nat_abs (the_d q)
  unfolding said_square
  said_square_is = ap (λ (n : Num). nat_abs n.x0) said_square_lem

  -- D is a factor of both sides of the fraction
  over_is : amps_over q ≡ nat_abs (the_d q) * (factor_of * volts_square)
  unfolding amps_over
  over_is = rw said_square_is (omega arith)

  under_is : amps_under q ≡ nat_abs (the_d q) * (nat_abs (the_d q) * (head.unit * head.unit))
  unfolding amps_under
  under_is = omega arith

  module _ (h1 : is_zero (Z1 boards k) ≡ false) (h2 : is_zero (Z2 boards k) ≡ false) where
    least : 1 ≤ nat_abs (the_d q)
    least = the_d_least q h1 h2

    pub amps_is : amps q ≡ greatest (factor_of * volts_square) (nat_abs (the_d q) * (head.unit * head.unit))
    unfolding amps
    amps_is = ap₂ greatest over_is under_is ∙ greatest_scale (nat_abs (the_d q)) (factor_of * volts_square) (nat_abs (the_d q) * (head.unit * head.unit)) least

    -- 02, R-2: no amps of one phase to earth, and "earth amps 0" of two, without earth return
    pub no_earth_amps : unearthed boards k ≡ true → (fault.kind ≡ 1) ⊎ (fault.kind ≡ 3) → amps q ≡ 0
    unfolding factor
    no_earth_amps u h =
        let none : factor_of * volts_square ≡ 0 = rw (no_factor h) (zero-mul volts_square) in
        let under = nat_abs (the_d q) * (head.unit * head.unit) in
        amps_is ∙ ap (λ n. greatest n under) none ∙ greatest_none under
      where
        no_factor : (fault.kind ≡ 1) ⊎ (fault.kind ≡ 3) → factor_of ≡ 0
        no_factor (inl e) = rw (u, e)
        no_factor (inr e) = rw (u, e)

    -- and it is the root of that, the only one
    module _ (u : AtMost 4095 (Z2 boards k)) (hv : head.volts ≤ 1000) (hu : 1 ≤ head.unit) where
      pub amps_root : Root (factor_of * volts_square) (nat_abs (the_d q) * (head.unit * head.unit)) (amps q)
      amps_root =
          let v : head.volts * 1000000 ≤ 1000000000 = omega arith in
          let most : factor_of * volts_square ≤ 301842450 * (1000000000 * 1000000000) = mul-le-mul (factor_most (unearthed boards k) fault.kind u) (mul-le-mul v v) in
          rw amps_is
          (greatest_is (factor_of * volts_square) (nat_abs (the_d q) * (head.unit * head.unit)) (mul-pos least (mul-pos hu hu))
          (lt_of_le_of_lt (le_trans (div-le_self (factor_of * volts_square) (nat_abs (the_d q) * (head.unit * head.unit))) most) (lit≤ tt)))

      -- the same of the fraction as it is defined
      pub amps_exact : Root (amps_over q) (amps_under q) (amps q)
      amps_exact = rw (over_is, under_is) ((root_scale (nat_abs (the_d q)) (factor_of * volts_square) (nat_abs (the_d q) * (head.unit * head.unit)) (amps q) least).1 amps_root)

      -- so whatever number is the root is the amps
      pub amps_only : (n : ℕ) → Root (factor_of * volts_square) (nat_abs (the_d q) * (head.unit * head.unit)) n → n ≡ amps q
      amps_only n r = root_unique r amps_root
