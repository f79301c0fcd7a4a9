-- What a row of the figures' tables is, and what it says. Assumes nothing.
use mathlib.Core.Path.{◌≡◌}
use mathlib.Core.Bool.{Bool, true, ◌&&◌}
use mathlib.Core.List.{List, [], ◌∷◌}
use Prim.Native.Nat.{ℕ, ◌+◌, ◌*◌, ◌-◌}
use lib.Dec.{T}
use lib.IntN.{ℤ, pos, neg_ℤ}
use lib.ListN.{length, take, drop, replicate}
use Rattle.lemmas.proofs.Bools.{both_t}
use Rattle.turn.specs.declared.Num.{Num}
use Rattle.paper.specs.declared.Answer.{Answer}
use Rattle.paper.specs.declared.Part.{Part}
use Rattle.paper.specs.declared.Lent.TheVariants.{NetworkBytes}
use Rattle.paper.specs.Bytes.{part}
use Rattle.paper.specs.Answer.{verdict, written}
use Rattle.paper.proofs.Compare.{same_list, same_list→, same_num, same_num→, same_answer, same_answer→}

-- what stands in the buffer from a place on
pub data Reading : Type 0 where
  at : ℕ → List ℤ → Reading

-- a call: a network, a fault, the buffer's length; the answer, and readings of the buffer afterwards. Or two numbers that are the same
pub data Figure : Type 0 where
  call : List ℕ → List ℕ → ℕ → Answer → List Reading → Figure
  same : Num → Num → Figure

-- accepted: the faulted board's place, N, the amps; its record is shown
abbrev pub taken : ℕ → ℕ → ℕ → Answer
taken k n amps = record { amps = amps; part = part NetworkBytes (8 + 44 * (k - 1)) 44; place = k; n = n; number = 0 }

abbrev pub refused : ℕ → ℕ → Part → Answer
refused number place p = record { amps = 0; part = p; place = place; n = 0; number = number }

-- numbers below 0
abbrev pub neg : ℕ → ℤ
neg n = neg_ℤ (pos n)

-- the buffer is full of sevens before the call
abbrev pub old : ℕ → List ℤ
old room = replicate room (pos 7)

-- ---- a call says an equation for the answer, and one for each reading
abbrev pub Reads : List ℤ → List Reading → Type 0
Reads buffer [] = Unit {0}
Reads buffer (at place xs ∷ more) = (take (length xs) (drop place buffer) ≡ xs) × Reads buffer more

abbrev pub Says : Figure → Type 0
Says (same a b) = a ≡ b
Says (call net flt room a readings) = (verdict net flt room ≡ a) × Reads (written net flt (old room)) readings

abbrev pub All : List Figure → Type 0
All [] = Unit {0}
All (c ∷ cs) = Says c × All cs

-- ---- and is tested by computing
abbrev reads? : List ℤ → List Reading → Bool
reads? buffer [] = true
reads? buffer (at place xs ∷ more) = same_list (take (length xs) (drop place buffer)) xs && reads? buffer more

abbrev says? : Figure → Bool
says? (same a b) = same_num a b
says? (call net flt room a readings) = same_answer (verdict net flt room) a && reads? (written net flt (old room)) readings

abbrev pub all? : List Figure → Bool
all? [] = true
all? (c ∷ cs) = says? c && all? cs

reads→ : (buffer : List ℤ) (rs : List Reading) → T (reads? buffer rs) → Reads buffer rs
reads→ buffer [] t = tt
reads→ buffer (at place xs ∷ more) t =
    let h = both_t (same_list (take (length xs) (drop place buffer)) xs) (reads? buffer more) t in
    (same_list→ (take (length xs) (drop place buffer)) xs h.0, reads→ buffer more h.1)

says→ : (c : Figure) → T (says? c) → Says c
says→ (same a b) t = same_num→ a b t
says→ (call net flt room a rs) t =
    let h = both_t (same_answer (verdict net flt room) a) (reads? (written net flt (old room)) rs) t in
    (same_answer→ (verdict net flt room) a h.0, reads→ (written net flt (old room)) rs h.1)

pub all→ : (cs : List Figure) → T (all? cs) → All cs
all→ [] t = tt
all→ (c ∷ cs) t = let h = both_t (says? c) (all? cs) t in (says→ c h.0, all→ cs h.1)
