-- A node's zero sequence by the word of its kind. Assumes nothing.
use mathlib.Core.Bool.{cond}
use mathlib.Core.Path.{◌≡◌, refl, sym, ◌∙◌, ap, subst}
use Prim.Native.Nat.{ℕ}
use native.Mathlib.Omega.{arith}
use lib.Dec.{eqb}
use Rattle.paper.specs.declared.Ohms.{Ohms}
use Rattle.paper.specs.declared.Board.{Board}
use Rattle.paper.specs.Kind.{ohms, ◌+Ω◌, thrice, Term, z0_alone, z0+3zn, Zero, starts, goes_on, none, kind_of, term, zero_term}
use Rattle.paper.specs.Bounds.{AtMost}
use Rattle.kind.specs.declared.zero.ZeroWord.{ZeroWord}
use Rattle.kind.specs.declared.zero.ZeroWord.TheVariants.{Starts, GoesOn, Blocked}
use Rattle.kind.specs.Zero.{zero_word}
use Rattle.node.specs.declared.Node.{Node}
use Rattle.node.specs.Node.{zeroed, with_zero, OwnSmall}

-- no kind has two words
apart : {A : Type 0} → ◌≡◌ {A = ℕ} 0 1 → A
apart e = absurd (omega arith)

module _ (n : Node) (b : Board) (r : ℕ) (up : Node) where
  zero_starts : (z : Zero) → zero_word z ≡ Starts → zeroed n (zero_term z b) r r ≡ with_zero n b r z up
  unfolding zero_word zero_term with_zero
  zero_starts (starts t) e = refl
  zero_starts (goes_on t) e = apart (cc)
  zero_starts none e = apart (cc)

  zero_on : (z : Zero) → zero_word z ≡ GoesOn → zeroed n (cond (eqb up.start 0) (ohms 0 0) (zero_term z b +Ω up.z0)) up.head up.start ≡ with_zero n b r z up
  unfolding zero_word zero_term with_zero
  zero_on (starts t) e = apart (cc)
  zero_on (goes_on t) e = refl
  zero_on none e = apart (cc)

  zero_blocked : (z : Zero) → zero_word z ≡ Blocked → zeroed n (ohms 0 0) r 0 ≡ with_zero n b r z up
  unfolding zero_word with_zero
  zero_blocked (starts t) e = apart (cc)
  zero_blocked (goes_on t) e = apart (cc)
  zero_blocked none e = refl

  -- ---- the three outcomes, from the facts in the shape in which the branches have them
  module _ {w : ZeroWord} (we : w ≡ zero_word (kind_of b.kind).zero_seq) where
    abbrev zero : Zero
    zero = (kind_of b.kind).zero_seq

    pub node_starts : {z0 : Ohms} → w ≡ Starts → z0 ≡ zero_term zero b → zeroed n z0 r r ≡ with_zero n b r zero up
    node_starts h e = ap (λ (z : Ohms). zeroed n z r r) e ∙ zero_starts zero (sym we ∙ h)

    pub node_on : {z0 : Ohms} → w ≡ GoesOn → z0 ≡ cond (eqb up.start 0) (ohms 0 0) (zero_term zero b +Ω up.z0) → zeroed n z0 up.head up.start ≡ with_zero n b r zero up
    node_on h e = ap (λ (z : Ohms). zeroed n z up.head up.start) e ∙ zero_on zero (sym we ∙ h)

    pub node_blocked : w ≡ Blocked → zeroed n (ohms 0 0) r 0 ≡ with_zero n b r zero up
    node_blocked h = zero_blocked zero (sym we ∙ h)

-- a record's term is at most 16,380
pub term_small : (b : Board) {t : Ohms} → OwnSmall b → t ≡ zero_term (kind_of b.kind).zero_seq b → AtMost 16380 t
unfolding zero_term term ◌+Ω◌ thrice
term_small b {t} s e = subst (AtMost 16380) (sym e) (go (kind_of b.kind).zero_seq)
  where
    alone : (x : Term) → AtMost 16380 (term x b)
    alone z0_alone = record { r_most = omega (arith, s.own0.r_most); x_most = omega (arith, s.own0.x_most) }
    alone z0+3zn = record { r_most = omega (arith, s.own0.r_most, s.own_n.r_most); x_most = omega (arith, s.own0.x_most, s.own_n.x_most) }

    go : (z : Zero) → AtMost 16380 (zero_term z b)
    go (starts x) = alone x
    go (goes_on x) = alone x
    go none = record { r_most = omega arith; x_most = omega arith }
