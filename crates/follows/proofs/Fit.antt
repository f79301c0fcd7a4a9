-- What the tests of a record by itself give (6, 9 and 10), read off the kind table. Assumes nothing.
use mathlib.Core.Bool.{Bool, true, false, not, cond, ◌&&◌, ◌||◌}
use mathlib.Core.List.{List, [], ◌∷◌}
use mathlib.Core.Logic.{◌⊎◌, inl, inr}
use mathlib.Core.Path.{◌≡◌, refl, subst}
use Prim.Native.Nat.{ℕ, ◌≤◌, ◌<◌}
use native.Mathlib.Omega.{arith}
use lib.Dec.{T, ltb, leb, eqb, leb→le}
use lib.ListN.{drop}
use borrow.Author.Tests.{ltb-true, ltb-false, eqb-true, eqb-false, not-true, not-false}
use Rattle.lemmas.proofs.Table.{each_at, every_at}
use Rattle.paper.specs.declared.Board.{Board}
use Rattle.paper.specs.Bytes.{one_of}
use Rattle.paper.specs.Label.{formed}
use Rattle.paper.specs.Kind.{is_zero, same_ohms, part_over, record_1, later, Rule, z1≠0, z2≠0, z1=z2, kinds, known, kind_of, stands_at, holds, all_hold}
use Rattle.paper.specs.Refusal.{kind_wrong, impedance_wrong}
use Rattle.lemmas.proofs.Bools.{both_t, both, neither}
use Rattle.paper.specs.Bounds.{AtMost}
use Rattle.follows.proofs.Impedance.{not_over}
use Rattle.follows.proofs.Lists.{On, on_none, on_cases}

-- ---- the kind table, column by column
kind_stands : (k : ℕ) → k < 6 → (kind_of k).stands ≡ cond (ltb k 2) record_1 later
unfolding kind_of kinds
kind_stands k h = each_at (λ k. (kind_of k).stands ≡ cond (ltb k 2) record_1 later) 6 k h (refl, (refl, (refl, (refl, (refl, (refl, tt))))))

-- kinds 0 and 1 in record 1, and only there
stands_first : (k r : ℕ) → k < 6 → stands_at (kind_of k).stands r ≡ true → ((r ≡ 1 → k ≤ 1) × (1 < r → 2 ≤ k))
unfolding stands_at
stands_first k r h s = go (ltb k 2) refl (rw (kind_stands k h) at s)
  where
    go : (t : Bool) → ltb k 2 ≡ t → stands_at (cond t record_1 later) r ≡ true → ((r ≡ 1 → k ≤ 1) × (1 < r → 2 ≤ k))
    go true e s = let l = ltb-true k 2 e in let o = eqb-true r 1 s in (λ q. omega arith, λ q. absurd (omega arith))
    go false e s = let l = ltb-false k 2 e in let o = eqb-false r 1 (not-true (eqb r 1) s) in (λ q. absurd (o q), λ q. l)

-- no clock is over 11
most : ℕ → List ℕ → Bool
most n [] = true
most n (x ∷ l) = leb x n && most n l

on_most : (n : ℕ) (l : List ℕ) → T (most n l) → (i : ℕ) → On i l → i ≤ n
unfolding most
on_most n [] t i o = absurd (on_none i o)
on_most n (x ∷ l) t i o = let (a, b) = both_t (leb x n) (most n l) t in go (leb→le x n a) (on_most n l b i) (on_cases i x l o)
  where
    go : x ≤ n → (On i l → i ≤ n) → (i ≡ x) ⊎ On i l → i ≤ n
    go h ih (inl e) = omega arith
    go h ih (inr k) = ih k

clock_most : (k c : ℕ) → k < 6 → On c (kind_of k).clocks → c ≤ 11
unfolding kind_of kinds most
clock_most k c h = on_most 11 (kind_of k).clocks (every_at (λ k. most 11 (kind_of k).clocks) 6 k h tt) c

-- "z1 and z2 not zero" in kinds 0 and 1, "z1 = z2" in the others
rules_source : (k : ℕ) → k ≤ 1 → (kind_of k).rules ≡ z1≠0 ∷ z2≠0 ∷ drop 2 (kind_of k).rules
unfolding kind_of kinds
rules_source k h = each_at (λ k. (kind_of k).rules ≡ z1≠0 ∷ z2≠0 ∷ drop 2 (kind_of k).rules) 2 k (omega arith) (refl, (refl, tt))

rules_later : (k : ℕ) → k < 6 → 2 ≤ k → (kind_of k).rules ≡ z1=z2 ∷ drop 1 (kind_of k).rules
unfolding kind_of kinds
rules_later k h =
    each_at (λ k. 2 ≤ k → (kind_of k).rules ≡ z1=z2 ∷ drop 1 (kind_of k).rules) 6 k h
    (λ l. absurd (omega arith), (λ l. absurd (omega arith), (λ l. refl, (λ l. refl, (λ l. refl, (λ l. refl, tt))))))

module _ (b : Board) where
  first_holds : (m : Rule) (ms : List Rule) → all_hold (m ∷ ms) b ≡ true → (holds m b ≡ true) × (all_hold ms b ≡ true)
  unfolding all_hold
  first_holds m ms t = both (holds m b) (all_hold ms b) t

  source_holds : (k : ℕ) → k ≤ 1 → all_hold (kind_of k).rules b ≡ true → (is_zero b.z1 ≡ false) × (is_zero b.z2 ≡ false)
  unfolding holds
  source_holds k h t =
      let (h1, u) = first_holds z1≠0 (z2≠0 ∷ drop 2 (kind_of k).rules) (subst (λ ms. all_hold ms b ≡ true) (rules_source k h) t) in
      (not-true (is_zero b.z1) h1, not-true (is_zero b.z2) (first_holds z2≠0 (drop 2 (kind_of k).rules) u).0)

  later_holds : (k : ℕ) → k < 6 → 2 ≤ k → all_hold (kind_of k).rules b ≡ true → same_ohms b.z1 b.z2 ≡ true
  unfolding holds
  later_holds k h l t = (first_holds z1=z2 (drop 1 (kind_of k).rules) (subst (λ ms. all_hold ms b ≡ true) (rules_later k h l) t)).0

-- ---- what record r's board keeps by itself
pub record Fit (r : ℕ) (b : Board) : Type 0 where
  pub label_formed : formed b.label ≡ true
  pub kind_known : b.kind < 6
  pub kind_first : r ≡ 1 → b.kind ≤ 1
  pub kind_later : 1 < r → 2 ≤ b.kind
  pub clock_listed : one_of b.clock (kind_of b.kind).clocks ≡ true
  pub clock_small : b.clock ≤ 11
  pub z1_small : AtMost 4095 b.z1
  pub z2_small : AtMost 4095 b.z2
  pub z0_small : AtMost 4095 b.z0
  pub zn_small : AtMost 4095 b.zn
  pub rules_hold : all_hold (kind_of b.kind).rules b ≡ true
  pub z1_first : r ≡ 1 → is_zero b.z1 ≡ false
  pub z2_first : r ≡ 1 → is_zero b.z2 ≡ false
  pub z1_later : 1 < r → same_ohms b.z1 b.z2 ≡ true

pub fit : (r : ℕ) (b : Board) → formed b.label ≡ true → kind_wrong r b ≡ false → impedance_wrong b ≡ false → Fit r b
unfolding kind_wrong impedance_wrong known kinds
fit r b f k i =
    let (k1, k-stands) = neither (not (known b.kind) || not (one_of b.clock (kind_of b.kind).clocks)) (not (stands_at (kind_of b.kind).stands r)) k in
    let (k-known, k-clock) = neither (not (known b.kind)) (not (one_of b.clock (kind_of b.kind).clocks)) k1 in
    let (i1, i-rules) = neither (part_over 4095 b.z1 || part_over 4095 b.z2 || part_over 4095 b.z0 || part_over 4095 b.zn) (not (all_hold (kind_of b.kind).rules b)) i in
    let (i2, i-zn) = neither (part_over 4095 b.z1 || part_over 4095 b.z2 || part_over 4095 b.z0) (part_over 4095 b.zn) i1 in
    let (i3, i-z0) = neither (part_over 4095 b.z1 || part_over 4095 b.z2) (part_over 4095 b.z0) i2 in
    let (i-z1, i-z2) = neither (part_over 4095 b.z1) (part_over 4095 b.z2) i3 in
    let is_known : b.kind < 6 = ltb-true b.kind 6 (not-false (known b.kind) k-known) in
    let listed : On b.clock (kind_of b.kind).clocks = not-false (one_of b.clock (kind_of b.kind).clocks) k-clock in
    let hold : all_hold (kind_of b.kind).rules b ≡ true = not-false (all_hold (kind_of b.kind).rules b) i-rules in
    let (at_first, at-later) = stands_first b.kind r is_known (not-false (stands_at (kind_of b.kind).stands r) k-stands) in
    record {
      label_formed = f;
      kind_known = is_known;
      kind_first = at_first;
      kind_later = at-later;
      clock_listed = listed;
      clock_small = clock_most b.kind b.clock is_known listed;
      z1_small = not_over 4095 b.z1 i-z1;
      z2_small = not_over 4095 b.z2 i-z2;
      z0_small = not_over 4095 b.z0 i-z0;
      zn_small = not_over 4095 b.zn i-zn;
      rules_hold = hold;
      z1_first = λ e. (source_holds b b.kind (at_first e) hold).0;
      z2_first = λ e. (source_holds b b.kind (at_first e) hold).1;
      z1_later = λ h. later_holds b b.kind is_known (at-later h) hold;
    }
