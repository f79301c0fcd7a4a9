-- Ohm's law in a tree of places, whatever its records carry: it forces each board's voltage to be what stands above its part less the falls on its list, and these voltages keep it. So where one current F is
-- carried: the falls are the impedance shared with those who carry it, times F. Assumes nothing.
use mathlib.Core.Bool.{Bool, true, false, cond}
use mathlib.Core.List.{List, [], ◌∷◌}
use mathlib.Core.Path.{◌≡◌, refl, sym, ◌∙◌, ap, ap₂}
use Prim.Native.Nat.{ℕ, zero, suc, ◌≤◌}
use native.Mathlib.Omega.{arith}
use lib.IntN.{pos}
use Rattle.lemmas.proofs.Solver.{con, ◌⊕◌, ◌⊗◌, ◌⊖◌}
use Rattle.lemmas.proofs.Solve.{solve}
use Rattle.turn.specs.declared.Num.{Num}
use Rattle.turn.specs.Number.{◌+N◌, ◌-N◌, ◌*N◌}
use Rattle.turn.proofs.Ring.{Nring}
use Rattle.paper.specs.declared.Ohms.{Ohms}
use Rattle.paper.specs.Bytes.{one_of}
use Rattle.paper.specs.Chain.{sumΩ, common}
use Rattle.paper.specs.Fault.{nil_n, num_of}
use Rattle.paper.specs.Phase.{only_if}
use Rattle.follows.proofs.Lists.{On, on_here, on_there}
use Rattle.follows.proofs.Paths.{Tree, climbing, between}
use Rattle.follows.proofs.Square.{num_add}
use Rattle.laws.specs.Laws.{Ohm}

-- what stands above record r, whose place above is u: the voltage of that board or, above no board, that of the part
abbrev pub over : (ℕ → Num) → (ℕ → Num) → ℕ → ℕ → Num
over U top r zero = top r
over U top r (suc u) = U (suc u)

-- ---- the falls on a list
abbrev falls : (ℕ → Ohms) → (ℕ → Num) → List ℕ → Num
falls z C [] = nil_n
falls z C (r ∷ l) = num_of (z r) *N C r +N falls z C l

-- where the records of a list m carry F and no others anything
shared_falls : (z : ℕ → Ohms) (C : ℕ → Num) (m : List ℕ) (F : Num) (l : List ℕ) → ((r : ℕ) → On r l → C r ≡ only_if (one_of r m) F) → falls z C l ≡ num_of (sumΩ z (common l m)) *N F
unfolding sumΩ common num_of only_if
shared_falls z C m F [] h = solve Nring 1 (λ f. con (pos 0)) (λ f. con (pos 0) ⊗ f) tt F
shared_falls z C m F (r ∷ l) h = ap₂ (λ c t. num_of (z r) *N c +N t) (h r (on_here r l)) (shared_falls z C m F l (λ i o. h i (on_there i r l o))) ∙ go (one_of r m)
  where
    rest : Num
    rest = num_of (sumΩ z (common l m))

    go : (e : Bool) → num_of (z r) *N only_if e F +N rest *N F ≡ num_of (sumΩ z (cond e (r ∷ common l m) (common l m))) *N F
    go true = solve Nring 3 (λ z s f. z ⊗ f ⊕ s ⊗ f) (λ z s f. (z ⊕ s) ⊗ f) tt (num_of (z r)) rest F ∙ ap (λ t. t *N F) (num_add (z r) (sumΩ z (common l m)))
    go false = solve Nring 3 (λ z s f. z ⊗ con (pos 0) ⊕ s ⊗ f) (λ z s f. s ⊗ f) tt (num_of (z r)) rest F

module _ {up : ℕ → ℕ} {path : ℕ → List ℕ} (g : Tree up path) (z : ℕ → Ohms) (n : ℕ) (U C top : ℕ → Num) (same_top : (q : ℕ) → 1 ≤ up (suc q) → top (suc q) ≡ top (up (suc q))) where
  abbrev Fallen : ℕ → Type 0
  Fallen j = U j ≡ top j -N falls z C (path j)

  -- the law in the tree
  abbrev pub OhmAt : ℕ → Type 0
  OhmAt r = Ohm (U r) (over U top r (up r)) (z r) (C r)

  -- what a place below one that has fallen comes to
  below : (q u : ℕ) → up (suc q) ≡ u → (1 ≤ u → Fallen u) → over U top (suc q) u -N num_of (z (suc q)) *N C (suc q) ≡ top (suc q) -N falls z C (path (suc q))
  below q zero e h =
      solve Nring 2 (λ t x. t ⊖ x) (λ t x. t ⊖ (x ⊕ con (pos 0))) tt (top (suc q)) (num_of (z (suc q)) *N C (suc q))
      ∙ ap (λ l. top (suc q) -N falls z C l) (sym (g.goes q ∙ ap (λ u. suc q ∷ path u) e ∙ ap (λ l. suc q ∷ l) g.ends))
  below q (suc u) e h =
      let x = num_of (z (suc q)) *N C (suc q) in
      ap (λ t. t -N x) (h (omega arith) ∙ ap (λ t. t -N falls z C (path (suc u))) (sym (same_top q (omega (arith, e)) ∙ ap top e)))
      ∙ solve Nring 3 (λ t f x. (t ⊖ f) ⊖ x) (λ t f x. t ⊖ (x ⊕ f)) tt (top (suc q)) (falls z C (path (suc u))) x
      ∙ ap (λ l. top (suc q) -N falls z C l) (sym (g.goes q ∙ ap (λ u. suc q ∷ path u) e))

  -- ---- the law forces the voltages
  fallen : ((q : ℕ) → suc q ≤ n → OhmAt (suc q)) → (j : ℕ) → 1 ≤ j → j ≤ n → Fallen j
  fallen ohm = climbing g (λ j. 1 ≤ j → j ≤ n → Fallen j) (λ a. absurd (omega arith)) go
    where
      go : (q : ℕ) → (1 ≤ up (suc q) → up (suc q) ≤ n → Fallen (up (suc q))) → 1 ≤ suc q → suc q ≤ n → Fallen (suc q)
      go q ih a l = let e = g.earlier q in ohm q l ∙ below q (up (suc q)) refl (λ m. ih m (omega arith))

  -- ---- and these voltages keep it
  fallen_keeps : ((j : ℕ) → 1 ≤ j → j ≤ n → Fallen j) → (q : ℕ) → suc q ≤ n → OhmAt (suc q)
  fallen_keeps h q l =
      let e = g.earlier q in
      h (suc q) (omega arith) l ∙ sym (below q (up (suc q)) refl (λ m. h (up (suc q)) m (omega arith)))

  -- ---- of one current, F on the list m and nothing off it
  module _ (m : List ℕ) (F : Num) (carried : (r : ℕ) → 1 ≤ r → r ≤ n → C r ≡ only_if (one_of r m) F) where
    abbrev Left : ℕ → Type 0
    Left j = U j ≡ top j -N num_of (sumΩ z (common (path j) m)) *N F

    same_falls : (j : ℕ) → j ≤ n → falls z C (path j) ≡ num_of (sumΩ z (common (path j) m)) *N F
    same_falls j l = shared_falls z C m F (path j) (λ r o. let w = between g j r o in carried r w.0 (omega arith))

    pub left : ((q : ℕ) → suc q ≤ n → OhmAt (suc q)) → (j : ℕ) → 1 ≤ j → j ≤ n → Left j
    left ohm j a l = fallen ohm j a l ∙ ap (λ t. top j -N t) (same_falls j l)

    pub left_keeps : ((j : ℕ) → 1 ≤ j → j ≤ n → Left j) → (q : ℕ) → suc q ≤ n → OhmAt (suc q)
    left_keeps h = fallen_keeps (λ j a l. h j a l ∙ ap (λ t. top j -N t) (sym (same_falls j l)))
