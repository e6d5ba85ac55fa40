-- What the contracts of private functions cite; no public contract rests on it. Assumes nothing.
use Rattle.std.specs.Prelude.{List, [], ◌∷◌, ◌++◌, ℕ, take, drop}
use Rattle.std.specs.Int.Bits.{bit_xor}

-- the bytes of a ring, read from a place on
unfoldable pub from : ℕ → List ℕ → List ℕ
from i w = drop i w ++ take i w

-- the bytes of the second list added to those of the first, as far as both go
unfoldable pub added : List ℕ → List ℕ → List ℕ
added [] ys = []
added (x ∷ xs) [] = x ∷ xs
added (x ∷ xs) (y ∷ ys) = bit_xor x y ∷ added xs ys
