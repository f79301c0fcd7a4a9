-- 01, 'Files': little-endian numbers, and parts of a list of bytes. Assumes nothing.
use Rattle.std.specs.Prelude.{Bool, true, false, ◌&&◌, ◌||◌, List, [], ◌∷◌, ℕ, zero, suc, ◌+◌, ◌*◌, leb, eqb, get_or, take, drop}
use Prim.Native.Char.{code}
use Prim.Native.String as S
use Rattle.paper.specs.declared.Lent.{Lent}
use Rattle.paper.specs.declared.Part.{Part}

-- "Little-endian."
abbrev pub u8_at : List ℕ → ℕ → ℕ
u8_at s i = get_or s i 0

abbrev pub u16_at : List ℕ → ℕ → ℕ
u16_at s i = get_or s i 0 + 256 * get_or s (i + 1) 0

-- n bytes from the place i on
unfoldable pub bytes_at : ℕ → List ℕ → ℕ → List ℕ
bytes_at zero s i = []
bytes_at (suc n) s i = get_or s i 0 ∷ bytes_at n s (i + 1)

-- a part of a list
abbrev pub cut : List ℕ → ℕ → ℕ → List ℕ
cut s start len = take len (drop start s)

abbrev pub part : Lent → ℕ → ℕ → Part
part w s n = record { whose = w; start = s; len = n }

-- words as bytes
unfoldable pub text : S.String → List ℕ
text S.[] = []
text (S.◌∷◌ c s) = code c ∷ text s

-- ---- tests
unfoldable pub same_bytes : List ℕ → List ℕ → Bool
same_bytes [] [] = true
same_bytes [] (y ∷ ys) = false
same_bytes (x ∷ xs) [] = false
same_bytes (x ∷ xs) (y ∷ ys) = let rest = same_bytes xs ys in eqb x y && rest

unfoldable pub one_of : ℕ → List ℕ → Bool
one_of n [] = false
one_of n (x ∷ xs) = let rest = one_of n xs in eqb n x || rest

-- from a to b, ends included
unfoldable pub within : ℕ → ℕ → ℕ → Bool
within a b n = leb a n && leb n b

unfoldable pub bytes_open : Unit {0}
unfolding bytes_at text same_bytes one_of within
bytes_open = tt
