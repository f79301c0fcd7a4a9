-- Kirchhoff's current law in a tree of places, whatever goes out at its boards: each record carries what goes out at its board and below, and these currents keep the law. So of one current, out at one board. Assumes nothing.
use mathlib.Core.Bool.{Bool, true, false, ◌||◌}
use mathlib.Core.List.{List}
use mathlib.Core.Path.{◌≡◌, refl, sym, ◌∙◌, ap, ap₂, subst}
use Prim.Native.Nat.{ℕ, zero, suc, ◌≤◌, ◌<◌}
use native.Mathlib.Omega.{arith}
use lib.Dec.{eqb}
use borrow.Author.Tests.{eqb-true, eqb-false, eq-eqb, ne_eqb}
use Rattle.lemmas.proofs.Bools.{untrue}
use Rattle.lemmas.proofs.Solver.{◌⊕◌}
use Rattle.lemmas.proofs.Solve.{solve}
use Rattle.turn.specs.declared.Num.{Num}
use Rattle.turn.specs.Number.{◌+N◌}
use Rattle.turn.proofs.Ring.{Nring, +N_zero}
use Rattle.paper.specs.Bytes.{one_of}
use Rattle.paper.specs.Fault.{nil_n}
use Rattle.paper.specs.Phase.{only_if}
use Rattle.follows.proofs.Paths.{Tree, on_no_place, on_own, between}
use Rattle.laws.specs.Laws.{sum_to, drawn_from, Kirchhoff}
use Rattle.laws.proofs.Sums.{only_there, only_gone, only_add, sum_same, sum_nil, sum_add, sum_pick, drawn_nil}

eqb_turned : (a b : ℕ) → eqb a b ≡ eqb b a
eqb_turned a b = go (eqb a b) refl
  where
    go : (c : Bool) → eqb a b ≡ c → eqb a b ≡ eqb b a
    go true c = c ∙ sym (eq-eqb b a (sym (eqb-true a b c)))
    go false c = c ∙ sym (ne_eqb b a (λ s. eqb-false a b c (sym s)))

module _ {up : ℕ → ℕ} {path : ℕ → List ℕ} (g : Tree up path) where
  -- ---- who is on a list
  nowhere : (b : ℕ) → one_of b (path 0) ≡ false
  nowhere b = untrue (one_of b (path 0)) (on_no_place g b)

  later : (b k : ℕ) → k < b → one_of b (path k) ≡ false
  later b k l = untrue (one_of b (path k)) (λ o. let w = between g k b o in omega arith)

  other : (q b : ℕ) → (b ≡ suc q → ⊥) → one_of b (path (suc q)) ≡ one_of b (path (up (suc q)))
  unfolding one_of
  other q b n = ap (one_of b) (g.goes q) ∙ ap (λ e. e || one_of b (path (up (suc q)))) (ne_eqb b (suc q) n)

  -- ---- Kirchhoff's law of n records, outs b going out at board b
  abbrev Kept : ℕ → (ℕ → Num) → (ℕ → Num) → Type 0
  Kept n outs C = (b : ℕ) → 1 ≤ b → b ≤ n → C b ≡ drawn_from up n C b +N outs b

  -- what goes out at b and below
  abbrev share : ℕ → (ℕ → Num) → ℕ → Num
  share n outs b = sum_to n (λ j. only_if (one_of b (path j)) (outs j))

  abbrev Carried : ℕ → (ℕ → Num) → (ℕ → Num) → Type 0
  Carried n outs C = (b : ℕ) → 1 ≤ b → b ≤ n → C b ≡ share n outs b

  -- what holds of the last and of all before it
  all_to : (n : ℕ) (P : ℕ → Type 0) → P (suc n) → ((b : ℕ) → 1 ≤ b → b ≤ n → P b) → (b : ℕ) → 1 ≤ b → b ≤ suc n → P b
  all_to n P p h b a l = go (eqb b (suc n)) refl
    where
      go : (c : Bool) → eqb b (suc n) ≡ c → P b
      go true c = subst P (sym (eqb-true b (suc n) c)) p
      go false c = let e = eqb-false b (suc n) c in h b a (omega (arith, e))

  module _ (C : ℕ → Num) where
    module _ (n : ℕ) (outs : ℕ → Num) where
      -- without the last record, what goes out at its board goes out at the board above
      abbrev moved : ℕ → Num
      moved b = outs b +N only_if (eqb b (up (suc n))) (outs (suc n))

      -- the last record's board feeds nothing
      last_off : drawn_from up (suc n) C (suc n) +N outs (suc n) ≡ outs (suc n)
      last_off = ap (λ t. t +N outs (suc n)) (drawn_nil up (suc n) (suc n) C none) ∙ +N_zero (outs (suc n))
        where
          none : (r : ℕ) → 1 ≤ r → r ≤ suc n → up r ≡ suc n → C r ≡ nil_n
          none zero a l e = absurd (omega arith)
          none (suc q) a l e = let h = g.earlier q in absurd (omega arith)

      others_off : C (suc n) ≡ outs (suc n) → (b : ℕ) → drawn_from up (suc n) C b +N outs b ≡ drawn_from up n C b +N moved b
      others_off own b =
          ap₂ (λ e x. (drawn_from up n C b +N only_if e x) +N outs b) (eqb_turned (up (suc n)) b) own
          ∙ solve Nring 3 (λ d x o. (d ⊕ x) ⊕ o) (λ d x o. d ⊕ (o ⊕ x)) tt (drawn_from up n C b) (only_if (eqb b (up (suc n))) (outs (suc n))) (outs b)

      last_share : share (suc n) outs (suc n) ≡ outs (suc n)
      last_share =
          ap₂ ◌+N◌ (sum_nil n _ (λ r a l. only_gone (outs r) (later (suc n) r (omega arith)))) (only_there (outs (suc n)) (on_own g (suc n) (omega arith))) ∙ +N_zero (outs (suc n))

      others_share : (b : ℕ) → b ≤ n → share n moved b ≡ share (suc n) outs b
      others_share b l =
          let e = g.earlier n in
          let on : ℕ → Bool = λ j. one_of b (path j) in
          sum_same n _ _ (λ j a m. only_add (on j) (outs j) (only_if (eqb j (up (suc n))) (outs (suc n))))
          ∙ sum_add n (λ j. only_if (on j) (outs j)) (λ j. only_if (on j) (only_if (eqb j (up (suc n))) (outs (suc n))))
          ∙ ap (λ t. share n outs b +N t) (sum_pick n (up (suc n)) on (outs (suc n)) (nowhere b) e ∙ ap (λ c. only_if c (outs (suc n))) (sym (other n b (omega arith))))

    -- ---- the law forces the currents
    forced : (n : ℕ) (outs : ℕ → Num) → Kept n outs C → Carried n outs C
    forced zero outs h = λ b a l. absurd (omega arith)
    forced (suc n) outs h =
        let own : C (suc n) ≡ outs (suc n) = h (suc n) (omega arith) (omega arith) ∙ last_off n outs in
        let rest = forced n (moved n outs) (λ b a l. h b a (omega arith) ∙ others_off n outs own b) in
        all_to n (λ b. C b ≡ share (suc n) outs b) (own ∙ sym (last_share n outs)) (λ b a l. rest b a l ∙ others_share n outs b l)

    -- ---- and these currents keep it
    kept : (n : ℕ) (outs : ℕ → Num) → Carried n outs C → Kept n outs C
    kept zero outs h = λ b a l. absurd (omega arith)
    kept (suc n) outs h =
        let own : C (suc n) ≡ outs (suc n) = h (suc n) (omega arith) (omega arith) ∙ last_share n outs in
        let rest = kept n (moved n outs) (λ b a l. h b a (omega arith) ∙ sym (others_share n outs b l)) in
        all_to n (λ b. C b ≡ drawn_from up (suc n) C b +N outs b) (own ∙ sym (last_off n outs)) (λ b a l. rest b a l ∙ sym (others_off n outs own b))

    -- ---- of one current, F out at k: F on the list of k, nothing off it
    module _ (n k : ℕ) (kn : k ≤ n) (F : Num) where
      one_out : (b : ℕ) → share n (λ j. only_if (eqb j k) F) b ≡ only_if (one_of b (path k)) F
      one_out b = sum_pick n k (λ j. one_of b (path j)) F (nowhere b) kn

      pub carries : ((b : ℕ) → 1 ≤ b → b ≤ n → Kirchhoff up n k C C F b) → (b : ℕ) → 1 ≤ b → b ≤ n → C b ≡ only_if (one_of b (path k)) F
      carries h b a l = forced n (λ j. only_if (eqb j k) F) h b a l ∙ one_out b

      pub carried_keeps : ((b : ℕ) → 1 ≤ b → b ≤ n → C b ≡ only_if (one_of b (path k)) F) → (b : ℕ) → 1 ≤ b → b ≤ n → Kirchhoff up n k C C F b
      carried_keeps h = kept n (λ j. only_if (eqb j k) F) (λ b a l. h b a l ∙ sym (one_out b))
