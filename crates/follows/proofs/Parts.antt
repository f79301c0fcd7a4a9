-- The parts of a network: who is tied to whom, the head of a part, its earth return, and a board's zero sequence from its feeder's, by the words of the kind table. Assumes nothing.
use mathlib.Core.Bool.{Bool, true, false, not, cond}
use mathlib.Core.List.{[], ◌∷◌}
use mathlib.Core.Logic.{◌⊎◌, inl, inr}
use mathlib.Core.Path.{◌≡◌, refl, sym, ◌∙◌, ap, subst}
use Prim.Native.Nat.{ℕ, zero, suc, ◌≤◌}
use native.Mathlib.Omega.{arith}
use Rattle.lemmas.proofs.Bools.{not_both}
use Rattle.paper.specs.declared.Ohms.{Ohms}
use Rattle.paper.specs.Kind.{ohms, ◌+Ω◌, Term, Zero, starts, goes_on, none, term, zero_term, is_start}
use Rattle.paper.specs.Chain.{Boards, board, feeder_of, chain, zero_of, tied, tie, part_chain, empty, last_of, part_head, Earth, no_earth, earth_at, earth_by, earth_of, is_none, unearthed, return_by, zero_chain, sumΩ, term0, Z0}
use Rattle.follows.proofs.Lists.{On, on_none, sum_one}
use Rattle.follows.proofs.Paths.{Tree, climb_tree, climbing, on_no_place, on_path, on_behind, on_own, on_last_place, between, same_last}
use Rattle.follows.proofs.Chain.{feeder_earlier, chain_tree, along, chain_between}

module _ (bs : Boards) where
  -- ---- a record heads a part, or ties its board to its feeder's
  pub data Tied (r : ℕ) : Type 0 where
    heads : tie bs r ≡ 0 → Tied r
    joins : 1 ≤ tie bs r → tie bs r ≡ feeder_of bs r → Tied r

  pub tie_by : {z : Zero} (r : ℕ) → zero_of bs r ≡ z → tie bs r ≡ tied z (feeder_of bs r)
  unfolding tie
  tie_by r e = ap (λ z. tied z (feeder_of bs r)) e

  pub which : (r : ℕ) → Tied r
  unfolding tied
  which r = go (zero_of bs r) refl
    where
      fed : (f : ℕ) → feeder_of bs r ≡ f → tie bs r ≡ feeder_of bs r → Tied r
      fed zero e t = heads (t ∙ e)
      fed (suc f) e t = joins (omega (arith, t, e)) t

      go : (z : Zero) → zero_of bs r ≡ z → Tied r
      go (starts t) e = heads (tie_by r e)
      go (goes_on t) e = fed (feeder_of bs r) refl (tie_by r e)
      go none e = heads (tie_by r e)

  tie_earlier : (q : ℕ) → tie bs (suc q) ≤ q
  tie_earlier q = let e = feeder_earlier bs q in go (which (suc q))
    where
      go : Tied (suc q) → tie bs (suc q) ≤ q
      go (heads t) = omega arith
      go (joins l t) = omega (arith, feeder_earlier bs q)

  pub part_tree : Tree (tie bs) (part_chain bs)
  unfolding part_chain
  part_tree = climb_tree (tie bs) tie_earlier

  -- ---- heads
  pub head_tied : (q : ℕ) → 1 ≤ tie bs (suc q) → part_head bs (suc q) ≡ part_head bs (tie bs (suc q))
  unfolding part_head
  head_tied q l = same_last part_tree (tie bs (suc q)) (suc q) (on_behind part_tree q (tie bs (suc q)) (on_own part_tree (tie bs (suc q)) l))

  pub part_top : (q : ℕ) → tie bs (suc q) ≡ 0 → part_chain bs (suc q) ≡ suc q ∷ []
  part_top q e = part_tree.goes q ∙ ap (λ u. suc q ∷ part_chain bs u) e ∙ ap (λ l. suc q ∷ l) part_tree.ends

  pub head_top : (q : ℕ) → tie bs (suc q) ≡ 0 → part_head bs (suc q) ≡ suc q
  unfolding part_head last_of empty
  head_top q e = ap last_of (part_top q e)

  pub on_head : (b k : ℕ) → On b (part_chain bs k) → part_head bs k ≡ part_head bs b
  unfolding part_head
  on_head b k o = same_last part_tree b k o

  pub head_on : (j : ℕ) → 1 ≤ j → On (part_head bs j) (part_chain bs j)
  unfolding part_head
  head_on j l = on_last_place part_tree j l

  pub head_between : (j : ℕ) → 1 ≤ j → (1 ≤ part_head bs j) × (part_head bs j ≤ j)
  head_between j l = between part_tree j (part_head bs j) (head_on j l)

  pub head_head : (j : ℕ) → 1 ≤ j → part_head bs (part_head bs j) ≡ part_head bs j
  head_head j l = sym (on_head (part_head bs j) j (head_on j l))

  pub head_untied : (j : ℕ) → 1 ≤ j → tie bs (part_head bs j) ≡ 0
  head_untied = climbing part_tree (λ j. 1 ≤ j → tie bs (part_head bs j) ≡ 0) (λ l. absurd (omega arith)) go
    where
      go : (q : ℕ) → (1 ≤ tie bs (suc q) → tie bs (part_head bs (tie bs (suc q))) ≡ 0) → 1 ≤ suc q → tie bs (part_head bs (suc q)) ≡ 0
      go q ih l = at (which (suc q))
        where
          at : Tied (suc q) → tie bs (part_head bs (suc q)) ≡ 0
          at (heads e) = ap (tie bs) (head_top q e) ∙ e
          at (joins m e) = ap (tie bs) (head_tied q m) ∙ ih m

  -- ---- a part lies on the chain, and on it reaches back as far as the head is the same
  pub part_on_chain : (r i : ℕ) → On i (part_chain bs r) → On i (chain bs r)
  part_on_chain r i = climbing part_tree (λ r. On i (part_chain bs r) → On i (chain bs r)) (λ h. absurd (on_no_place part_tree i h)) go r
    where
      go : (q : ℕ) → (On i (part_chain bs (tie bs (suc q))) → On i (chain bs (tie bs (suc q)))) → On i (part_chain bs (suc q)) → On i (chain bs (suc q))
      go q ih h = at (on_path part_tree q i h) (which (suc q))
        where
          at : (i ≡ suc q) ⊎ On i (part_chain bs (tie bs (suc q))) → Tied (suc q) → On i (chain bs (suc q))
          at (inl e) t = subst (λ r. On r (chain bs (suc q))) (sym e) (on_own (chain_tree bs) (suc q) (omega arith))
          at (inr o) (heads e) = absurd (on_no_place part_tree i (subst (λ u. On i (part_chain bs u)) e o))
          at (inr o) (joins l e) = on_behind (chain_tree bs) q i (subst (λ u. On i (chain bs u)) e (ih o))

  pub part_from_chain : (j k : ℕ) → On j (chain bs k) → part_head bs j ≡ part_head bs k → On j (part_chain bs k)
  part_from_chain j = along bs (λ k. On j (chain bs k) → part_head bs j ≡ part_head bs k → On j (part_chain bs k)) (λ h. absurd (on_no_place (chain_tree bs) j h)) go
    where
      go : (q : ℕ) → (On j (chain bs (feeder_of bs (suc q))) → part_head bs j ≡ part_head bs (feeder_of bs (suc q)) → On j (part_chain bs (feeder_of bs (suc q))))
          → On j (chain bs (suc q)) → part_head bs j ≡ part_head bs (suc q) → On j (part_chain bs (suc q))
      go q ih o s = at (on_path (chain_tree bs) q j o) (which (suc q))
        where
          at : (j ≡ suc q) ⊎ On j (chain bs (feeder_of bs (suc q))) → Tied (suc q) → On j (part_chain bs (suc q))
          at (inl e) t = subst (λ r. On r (part_chain bs (suc q))) (sym e) (on_own part_tree (suc q) (omega arith))
          at (inr a) (heads e) =
              let b = chain_between bs (feeder_of bs (suc q)) j a in
              let h = head_between j b.0 in
              absurd (omega (arith, feeder_earlier bs q, s, head_top q e))
          at (inr a) (joins l e) =
              on_behind part_tree q j (subst (λ u. On j (part_chain bs u)) (sym e) (ih a (s ∙ head_tied q l ∙ ap (part_head bs) e)))

  -- ---- the earth return
  pub head_none : part_head bs 0 ≡ 0
  unfolding part_head last_of
  head_none = ap last_of part_tree.ends

  pub earth_same : (i j : ℕ) → part_head bs i ≡ part_head bs j → earth_of bs i ≡ earth_of bs j
  unfolding earth_of
  earth_same zero zero e = refl
  earth_same zero (suc j) e = let h = head_between (suc j) (omega arith) in absurd (omega (arith, e, head_none))
  earth_same (suc i) zero e = let h = head_between (suc i) (omega arith) in absurd (omega (arith, e, head_none))
  earth_same (suc i) (suc j) e = ap (λ h. earth_by (zero_of bs h)) e

  pub earth_top : (q : ℕ) → tie bs (suc q) ≡ 0 → earth_of bs (suc q) ≡ earth_by (zero_of bs (suc q))
  unfolding earth_of
  earth_top q e = ap (λ h. earth_by (zero_of bs h)) (head_top q e)

  -- a board has an earth return exactly where zero sequence starts at the head of its part
  pub start_earthed : (q : ℕ) → is_start (zero_of bs (part_head bs (suc q))) ≡ not (unearthed bs (suc q))
  unfolding earth_of earth_by is_none is_start
  start_earthed q = go (zero_of bs (part_head bs (suc q)))
    where
      go : (z : Zero) → is_start z ≡ not (is_none (earth_by z))
      go (starts t) = refl
      go (goes_on t) = refl
      go none = refl

  -- ---- the zero chain: that of the part, or none
  pub zero_earthed : (r : ℕ) → unearthed bs r ≡ false → zero_chain bs r ≡ part_chain bs r
  unfolding zero_chain return_by is_none
  zero_earthed r h = go (earth_of bs r) refl
    where
      go : (e : Earth) → earth_of bs r ≡ e → return_by (earth_of bs r) (part_chain bs r) ≡ part_chain bs r
      go no_earth e = absurd (not_both (ap is_none e) h)
      go (earth_at i) e = ap (λ x. return_by x (part_chain bs r)) e

  pub zero_unearthed : (r : ℕ) → unearthed bs r ≡ true → zero_chain bs r ≡ []
  unfolding zero_chain return_by is_none
  zero_unearthed r h = go (earth_of bs r) refl
    where
      go : (e : Earth) → earth_of bs r ≡ e → return_by (earth_of bs r) (part_chain bs r) ≡ []
      go no_earth e = ap (λ x. return_by x (part_chain bs r)) e
      go (earth_at i) e = absurd (not_both h (ap is_none e))

  pub zero_in_part : (r i : ℕ) → On i (zero_chain bs r) → On i (part_chain bs r)
  zero_in_part r i o = go (unearthed bs r) refl
    where
      go : (u : Bool) → unearthed bs r ≡ u → On i (part_chain bs r)
      go false u = rw (← zero_earthed r u) o
      go true u = absurd (on_none i (rw (zero_unearthed r u) at o))

  pub sum_earthed : (r : ℕ) → unearthed bs r ≡ false → Z0 bs r ≡ sumΩ (term0 bs) (part_chain bs r)
  unfolding Z0
  sum_earthed r h = ap (sumΩ (term0 bs)) (zero_earthed r h)

  pub sum_unearthed : (r : ℕ) → unearthed bs r ≡ true → Z0 bs r ≡ ohms 0 0
  unfolding Z0 sumΩ
  sum_unearthed r h = ap (sumΩ (term0 bs)) (zero_unearthed r h)

  pub Z0_none : Z0 bs 0 ≡ ohms 0 0
  unfolding earth_of is_none
  Z0_none = sum_unearthed 0 refl

  -- ---- the head of a board's part, whether it has an earth return, and its sum, by the word of its record
  pub record ZeroIs (r head : ℕ) (earth : Earth) (sum : Ohms) : Type 0 where
    pub zero_head : part_head bs r ≡ head
    pub zero_earth : earth_of bs r ≡ earth
    pub zero_sum : Z0 bs r ≡ sum

  -- "starts here", "starts afresh"
  pub is_starts : (q : ℕ) {t : Term} → zero_of bs (suc q) ≡ starts t → ZeroIs (suc q) (suc q) (earth_at 0) (term t (board bs (suc q)))
  unfolding tied earth_by is_none zero_term
  is_starts q {t} e =
      let top = tie_by (suc q) e in
      let x : earth_of bs (suc q) ≡ earth_at 0 = earth_top q top ∙ ap earth_by e in
      record {
        zero_head = head_top q top;
        zero_earth = x;
        zero_sum = sum_earthed (suc q) (ap is_none x) ∙ ap (sumΩ (term0 bs)) (part_top q top) ∙ sum_one (term0 bs) (suc q) ∙ ap (λ z. zero_term z (board bs (suc q))) e;
      }

  -- "none"
  pub is_blocked : (q : ℕ) → zero_of bs (suc q) ≡ none → ZeroIs (suc q) (suc q) no_earth (ohms 0 0)
  unfolding tied earth_by is_none
  is_blocked q e =
      let top = tie_by (suc q) e in
      let x : earth_of bs (suc q) ≡ no_earth = earth_top q top ∙ ap earth_by e in
      record { zero_head = head_top q top; zero_earth = x; zero_sum = sum_unearthed (suc q) (ap is_none x) }

  -- "goes on": with its feeder's head, and its feeder's earth return if there is one
  pub is_tied : (q : ℕ) {t : Term} → zero_of bs (suc q) ≡ goes_on t → 1 ≤ feeder_of bs (suc q) →
      ZeroIs (suc q) (part_head bs (feeder_of bs (suc q))) (earth_of bs (feeder_of bs (suc q))) (cond (unearthed bs (feeder_of bs (suc q))) (ohms 0 0) (term t (board bs (suc q)) +Ω Z0 bs (feeder_of bs (suc q))))
  unfolding tied zero_term sumΩ
  is_tied q {t} e l = record { zero_head = head; zero_earth = earth; zero_sum = go (unearthed bs f) refl }
    where
      f : ℕ
      f = feeder_of bs (suc q)

      tie_is : tie bs (suc q) ≡ f
      tie_is = tie_by (suc q) e

      head : part_head bs (suc q) ≡ part_head bs f
      head = head_tied q (omega (arith, tie_is, l)) ∙ ap (part_head bs) tie_is

      earth : earth_of bs (suc q) ≡ earth_of bs f
      earth = earth_same (suc q) f head

      go : (u : Bool) → unearthed bs f ≡ u → Z0 bs (suc q) ≡ cond u (ohms 0 0) (term t (board bs (suc q)) +Ω Z0 bs f)
      go true u = sum_unearthed (suc q) (ap is_none earth ∙ u)
      go false u =
          sum_earthed (suc q) (ap is_none earth ∙ u) ∙ ap (sumΩ (term0 bs)) (part_tree.goes q)
          ∙ (λ i. zero_term (e i) (board bs (suc q)) +Ω sumΩ (term0 bs) (part_chain bs (tie_is i)))
          ∙ ap (λ z. term t (board bs (suc q)) +Ω z) (sym (sum_earthed f u))
