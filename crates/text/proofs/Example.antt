-- 01, 'Figures worked through', its end: the printed example, whole, by computing. Assumes nothing.
use mathlib.Core.List.{List, [], ◌∷◌, ◌++◌}
use mathlib.Core.Path.{◌≡◌, refl}
use Prim.Native.Nat.{ℕ}
use Prim.Native.String as S
use Rattle.paper.specs.Bytes.{text}
use Rattle.paper.specs.Kind.{ohms}
use Rattle.paper.specs.Answer.{paper}
use Rattle.paper.proofs.Typed.{head, ft, typed_open}
use Rattle.paper.proofs.Figures.{gen}
use Rattle.text.specs.Text.{printed, text_open}

-- a line of text, with its end
unfoldable pub ln : S.String → List ℕ
ln s = text s ++ (0x0A ∷ [])

-- "With record 1 alone (N 1) and GEN kind 0 it prints, whole:"
unfoldable pub whole : List ℕ
whole =
    ln "FAULT GEN 0 0 11500"
    ++ ln "D 400"
    ++ ln "I a 0 0 0 -20"
    ++ ln "I b 0 -20 0 20"
    ++ ln "I c 0 20 0 0"
    ++ ln "GEN V a 0 0 0 0"
    ++ ln "GEN V b 0 0 0 0"
    ++ ln "GEN V c 0 0 0 0"
    ++ ln "GEN I a 0 0 0 -20"
    ++ ln "GEN I b 0 -20 0 20"
    ++ ln "GEN I c 0 20 0 0"

pub example_printed : printed (head 230 1000 1 ++ gen) (ft "GEN" 0 0 (ohms 0 0)) ≡ whole
unfolding paper typed_open gen text_open ln whole
example_printed = refl
