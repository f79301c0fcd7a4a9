-- 01, 'The four faults at board k': the conditions of each fault, in phase values at the faulted board. Assumes nothing.
use Rattle.std.specs.Prelude.{◌≡◌, ℕ, zero, suc}
use Rattle.turn.specs.declared.Num.{Num}
use Rattle.turn.specs.Number.{◌+N◌, neg_n, ◌-N◌, ◌*N◌}
use Rattle.paper.specs.declared.Seq.{Seq}
use Rattle.paper.specs.declared.Fault.{Fault}
use Rattle.paper.specs.Fault.{nil_n, num_of}
use Rattle.paper.specs.Phase.{shows}

-- of the faulted board's voltage w and the fault's current i
module _ (f : Fault) (w i : Seq) where
  abbrev Zf : Num
  Zf = num_of f.zf

  -- "Conditions, odd phase first (a)": phase p, p + 1 and p + 2 at the faulted board, so with no turn between
  abbrev Va : Num
  Va = shows f.phase 0 0 w 0

  abbrev Vb : Num
  Vb = shows f.phase 0 0 w 1

  abbrev Vc : Num
  Vc = shows f.phase 0 0 w 2

  abbrev Ia : Num
  Ia = shows f.phase 0 0 i 0

  abbrev Ib : Num
  Ib = shows f.phase 0 0 i 1

  abbrev Ic : Num
  Ic = shows f.phase 0 0 i 2

  unfoldable pub Condition : ℕ → Type 0
  -- "kind 0, Va-ZfIa = Vb-ZfIb = Vc-ZfIc and Ia+Ib+Ic = 0"
  Condition zero = (Va -N Zf *N Ia ≡ Vb -N Zf *N Ib) × (Vb -N Zf *N Ib ≡ Vc -N Zf *N Ic) × (Ia +N Ib +N Ic ≡ nil_n)
  -- "kind 1, Va = ZfIa, Ib = Ic = 0"
  Condition (suc zero) = (Va ≡ Zf *N Ia) × (Ib ≡ nil_n) × (Ic ≡ nil_n)
  -- "kind 2, Ia = 0, Ib = -Ic, Vb-Vc = ZfIb"
  Condition (suc (suc zero)) = (Ia ≡ nil_n) × (Ib ≡ neg_n Ic) × (Vb -N Vc ≡ Zf *N Ib)
  -- "kind 3, Ia = 0, Vb = Vc = Zf(Ib+Ic)"
  Condition (suc (suc (suc zero))) = (Ia ≡ nil_n) × (Vb ≡ Vc) × (Vc ≡ Zf *N (Ib +N Ic))
  -- there is no other kind: 15 refuses it
  Condition (suc (suc (suc (suc kind)))) = ⊥

  unfoldable pub Connected : Type 0
  Connected = Condition f.kind
