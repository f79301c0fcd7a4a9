-- v over E is w over D (`Same`): so it is of sums, falls and multiples of such. Assumes nothing.
use mathlib.Core.Bool.{Bool, true, false}
use mathlib.Core.List.{[], ◌∷◌}
use mathlib.Core.Path.{◌≡◌, refl, sym, ◌∙◌, ap}
use lib.IntN.{ℤ, pos}
use Rattle.lemmas.proofs.Solver.{con, eqn, ◌⊕◌, ◌⊗◌, ⊝◌}
use Rattle.lemmas.proofs.Solve.{solve, solve_by}
use Rattle.turn.specs.declared.Num.{Num}
use Rattle.turn.specs.Number.{whole_n, ◌+N◌, neg_n, ◌*N◌}
use Rattle.turn.proofs.Ring.{Nring, whole_times, *N_comm}
use Rattle.paper.specs.Fault.{nil_n}
use Rattle.paper.specs.Phase.{only_if}
use Rattle.laws.specs.Values.{Same}

module _ (E D : ℤ) where
  -- as products of numbers, which the solver takes
  pub as_product : (v w : Num) → Same E v D w → whole_n D *N v ≡ whole_n E *N w
  as_product v w h = whole_times D v ∙ h ∙ sym (whole_times E w)

  pub from_product : (v w : Num) → whole_n D *N v ≡ whole_n E *N w → Same E v D w
  from_product v w h = sym (whole_times D v) ∙ h ∙ whole_times E w

  pub same_whole : Same E (whole_n E) D (whole_n D)
  same_whole = from_product (whole_n E) (whole_n D) (*N_comm (whole_n D) (whole_n E))

  pub same_nil : {v w : Num} → v ≡ nil_n → w ≡ nil_n → Same E v D w
  same_nil {v} {w} p q = from_product v w (ap (λ t. whole_n D *N t) p ∙ solve Nring 2 (λ d e. d ⊗ con (pos 0)) (λ d e. e ⊗ con (pos 0)) tt (whole_n D) (whole_n E) ∙ ap (λ t. whole_n E *N t) (sym q))

  module _ (v w : Num) (h : Same E v D w) where
    pub same_minus : Same E (neg_n v) D (neg_n w)
    same_minus = from_product (neg_n v) (neg_n w) (solve_by Nring 4 (λ e d v w. eqn (⊝ con (pos 1)) (d ⊗ v) (e ⊗ w) ∷ []) (λ e d v w. d ⊗ (⊝ v)) (λ e d v w. e ⊗ (⊝ w)) tt (whole_n E) (whole_n D) v w (as_product v w h, tt))

    pub same_scaled : (z : Num) → Same E (z *N v) D (z *N w)
    same_scaled z = from_product (z *N v) (z *N w) (solve_by Nring 5 (λ e d v w z. eqn z (d ⊗ v) (e ⊗ w) ∷ []) (λ e d v w z. d ⊗ (z ⊗ v)) (λ e d v w z. e ⊗ (z ⊗ w)) tt (whole_n E) (whole_n D) v w z (as_product v w h, tt))

    pub same_only : (e : Bool) → Same E (only_if e v) D (only_if e w)
    unfolding only_if
    same_only true = h
    same_only false = same_nil refl refl

    pub same_add : (x y : Num) → Same E x D y → Same E (v +N x) D (w +N y)
    same_add x y g =
        from_product (v +N x) (w +N y)
        (solve_by Nring 6 (λ e d v w x y. eqn (con (pos 1)) (d ⊗ v) (e ⊗ w) ∷ eqn (con (pos 1)) (d ⊗ x) (e ⊗ y) ∷ []) (λ e d v w x y. d ⊗ (v ⊕ x)) (λ e d v w x y. e ⊗ (w ⊕ y)) tt
        (whole_n E) (whole_n D) v w x y (as_product v w h, (as_product x y g, tt)))
