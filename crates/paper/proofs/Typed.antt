-- Files written out, for the figures: text and numbers as the paper's bytes. Assumes nothing.
use mathlib.Core.List.{List, [], ◌∷◌, ◌++◌}
use Prim.Native.Nat.{ℕ, ◌/◌, ◌%◌}
use Prim.Native.String as S
use lib.ListN.{take}
use Rattle.paper.specs.declared.Ohms.{Ohms}
use Rattle.paper.specs.declared.Board.{Board}
use Rattle.paper.specs.Bytes.{text}
use Rattle.paper.specs.Label.{spaces, label_open}

-- a label: text, then spaces to the end
unfoldable pub label : S.String → List ℕ
label s = take 12 (text s ++ spaces)

unfoldable pub u16 : ℕ → List ℕ
u16 n = n % 256 ∷ n / 256 ∷ []

unfoldable pub two : Ohms → List ℕ
two z = u16 z.r ++ u16 z.x

unfoldable pub head : ℕ → ℕ → ℕ → List ℕ
head volts unit n = text "HD" ++ u16 volts ++ u16 unit ++ u16 n

unfoldable pub bd : S.String → S.String → ℕ → ℕ → Ohms → Ohms → Ohms → Ohms → List ℕ
bd l f kind clock z1 z2 z0 zn = text "BD" ++ label l ++ label f ++ (kind ∷ clock ∷ []) ++ two z1 ++ two z2 ++ two z0 ++ two zn

-- the same, decoded
unfoldable pub board : S.String → S.String → ℕ → ℕ → Ohms → Ohms → Ohms → Ohms → Board
board l f kind clock z1 z2 z0 zn = record { z1 = z1; z2 = z2; z0 = z0; zn = zn; label = label l; feeder = label f; kind = kind; clock = clock }

unfoldable pub ft : S.String → ℕ → ℕ → Ohms → List ℕ
ft l kind phase zf = text "FT" ++ label l ++ (kind ∷ phase ∷ []) ++ two zf

unfoldable pub typed_open : Unit {0}
unfolding label_open text label u16 two head bd board ft
typed_open = tt
