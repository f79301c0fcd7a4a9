-- An answer in a stream of answers: its bytes. Assumes nothing.
use Rattle.std.specs.Prelude.{List, [], ◌∷◌, ◌++◌, ℕ, ℤ, length}
use Rattle.paper.specs.declared.Lent.{Lent}
use Rattle.paper.specs.declared.Lent.TheVariants.{NetworkBytes, FaultBytes, LabelBytes}
use Rattle.paper.specs.declared.Part.{Part}
use Rattle.paper.specs.declared.Answer.{Answer}
use Rattle.paper.specs.declared.Written.{Written}
use Rattle.lemmas.specs.Little.{little}
use Rattle.decimal.specs.Word.{word_of}

-- three numbers, each of four bytes
unfoldable pub three_of : ℕ → ℕ → ℕ → List ℕ
three_of a b c = little 4 a ++ (little 4 b ++ little 4 c)

-- ---- the part that an answer shows: whose bytes, where it starts, how many bytes it has
unfoldable pub whose_of : Lent → ℕ
whose_of NetworkBytes = 1
whose_of FaultBytes = 2
whose_of LabelBytes = 3

unfoldable pub part_of : Part → List ℕ
part_of p = three_of (whose_of p.whose) p.start p.len

-- ---- an answer of `solve`
-- number, place, N, amps
unfoldable pub found_of : Answer → List ℕ
found_of a = three_of a.number a.place a.n ++ little 8 a.amps

-- the same, the part that is shown, its bytes, and how many elements of the buffer follow
unfoldable pub head_of : Answer → List ℕ → ℕ → List ℕ
head_of a shown room = found_of a ++ (part_of a.part ++ (shown ++ little 4 room))

unfoldable pub elements_of : List ℤ → List ℕ
elements_of [] = []
elements_of (z ∷ zs) = little 8 (word_of z) ++ elements_of zs

-- an answer, the bytes that it shows, and every element of the buffer
unfoldable pub bytes_of : Answer → List ℕ → List ℤ → List ℕ
bytes_of a shown zs = head_of a shown (length zs) ++ elements_of zs

-- ---- an answer of `write`
-- number, place, the file's length, the part that is shown, how many bytes of the output follow, and these
unfoldable pub written_of : Written → List ℕ → List ℕ
written_of w out = three_of w.number w.place w.len ++ (part_of w.part ++ (little 4 (length out) ++ out))
