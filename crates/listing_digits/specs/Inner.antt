-- What the contracts of private functions cite; no public contract rests on it. Assumes nothing.
use Rattle.std.specs.Prelude.{List, [], ◌∷◌, ◌++◌, ℕ, ◌/◌, ◌%◌}
use Rattle.listing_digits.specs.Digits.{digit}

-- two digits
unfoldable pub pair_of : ℕ → List ℕ
pair_of v = digit (v / 10) ∷ digit (v % 10) ∷ []

-- four digits
unfoldable pub four_of : ℕ → List ℕ
four_of v = pair_of (v / 100) ++ pair_of (v % 100)
