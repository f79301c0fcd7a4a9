use mathlib.Core.Bool.{Bool, cond}
use mathlib.Core.List.{List}
use mathlib.Core.Path.{◌≡◌, sym, ◌∙◌, ap}
use Prim.Native.Nat.{ℕ}
use lib.Dec.{eqb}
use lib.ListN.{length}
use borrow.Author.Tests.{eq-eqb, ne_eqb}
use Rattle.paper.specs.Bytes.{bytes_at}
use Rattle.paper.specs.Label.{Label, spaces}
use Rattle.file.proofs.field.label_in.Goals as goal

-- `file::field::label_in` meets its contract. Assumes nothing.
-- of the size, or not
of_size : (s : List ℕ) (size i : ℕ) {l : Label} → length s ≡ size → l ≡ bytes_at 12 s i → l ≡ cond (eqb (length s) size) (bytes_at 12 s i) spaces
of_size s size i e h = h ∙ ap (λ (b : Bool). cond b (bytes_at 12 s i) spaces) (sym (eq-eqb (length s) size e))

of-another : (s : List ℕ) (size i : ℕ) → (length s ≡ size → ⊥) → spaces ≡ cond (eqb (length s) size) (bytes_at 12 s i) spaces
of-another s size i f = ap (λ (b : Bool). cond b (bytes_at 12 s i) spaces) (sym (ne_eqb (length s) size f))

pub returns-then-s-size : goal.returns-then-s-size
unfolding spaces
returns-then-s-size c = of-another c.args.s.now c.args.size c.args.i c.if-s-size.true

pub returns : goal.returns
returns c = of_size c.args.s.now c.args.size c.args.i c.if-s-size.false c.label_at.ensures
