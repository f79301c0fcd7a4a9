-- Off the chain a record carries nothing, and its phases show twelve zeros. Assumes nothing.
use mathlib.Core.Path.{◌≡◌, sym, ap, ◌∙◌}
use mathlib.Core.Bool.{Bool, false, ◌&&◌}
use mathlib.Core.List.{List, [], ◌∷◌}
use Prim.Native.Nat.{ℕ, ◌+◌, ◌*◌, ◌%◌}
use lib.IntN.{ℤ, pos}
use lib.ListN.{replicate}
use Rattle.lemmas.proofs.Solver.{con, ◌⊕◌, ◌⊗◌}
use Rattle.lemmas.proofs.Solve.{solve}
use Rattle.turn.specs.Number.{power_n}
use Rattle.turn.proofs.Ring.{Nring}
use Rattle.paper.specs.declared.Seq.{Seq}
use Rattle.paper.specs.Fault.{nil_n, seq}
use Rattle.paper.specs.Phase.{only_if, four, shows, phase, phases}
use Rattle.paper.specs.Answer.{flat}
use Rattle.chain.specs.Carried.{carried_of}

-- a sum of nothing, turned
shows_nothing : (p sj sk i : ℕ) → shows p sj sk (seq nil_n nil_n nil_n) i ≡ nil_n
unfolding shows
shows_nothing p sj sk i =
    solve Nring 3 (λ w u v. w ⊗ (con (pos 0) ⊕ u ⊗ con (pos 0) ⊕ v ⊗ con (pos 0))) (λ w u v. con (pos 0)) tt (power_n (8 * p)) (power_n (8 * i + 11 * sj + sk)) (power_n (4 * i + sj + 11 * sk))

abbrev zeros : List (List ℤ)
zeros = four nil_n ∷ four nil_n ∷ four nil_n ∷ []

phases_nothing : (p sj sk : ℕ) → zeros ≡ phases p sj sk (seq nil_n nil_n nil_n)
unfolding phases phase
phases_nothing p sj sk =
    let a = shows_nothing p sj sk ((0 + 2 * p) % 3) in
    let b = shows_nothing p sj sk ((1 + 2 * p) % 3) in
    let c = shows_nothing p sj sk ((2 + 2 * p) % 3) in
    sym (λ i. four (a i) ∷ four (b i) ∷ four (c i) ∷ [])

pub passed_nothing : (p sj sk : ℕ) (i : Seq) (on here earthed : Bool) → on ≡ false → replicate 12 (pos 0) ≡ flat (phases p sj sk (carried_of on (on && here && earthed) i))
unfolding carried_of only_if flat
passed_nothing p sj sk i on here earthed e = ap flat (phases_nothing p sj sk ∙ ap (λ (b : Bool). phases p sj sk (carried_of b (b && here && earthed) i)) (sym e))

-- a part of twelve that is filled with zeros
pub all_zero : {n : ℕ} {xs : List ℤ} → xs ≡ replicate n (pos 0) → n ≡ 12 → xs ≡ replicate 12 (pos 0)
all_zero e h = e ∙ ap (λ (n : ℕ). replicate n (pos 0)) h
