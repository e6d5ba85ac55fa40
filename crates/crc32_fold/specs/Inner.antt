-- What the contracts of private functions cite; no public contract rests on it. Assumes nothing.
use Rattle.std.specs.Prelude.{◌≡◌, List, [], ◌∷◌, ℕ, ◌+◌, ◌<◌, ◌≤◌, get_or}
use Rattle.std.specs.Int.Bits.{bit_xor}
use Rattle.wire.specs.Wire.{le_at}

-- the bytes of a window from a place on are 0 up to an end
abbrev pub Clear : ℕ → List ℕ → ℕ → Type 0
Clear e w end = (k : ℕ) → e ≤ k → k < end → get_or w k 0 ≡ 0

-- the sum of the numbers of n bytes of a window, at the places from i on
unfoldable pub wide_along : ℕ → List ℕ → List ℕ → ℕ → ℕ
wide_along n [] w i = 0
wide_along n (p ∷ ps) w i = bit_xor (le_at n w (i + p)) (wide_along n ps w i)
