-- Byte strings as numbers, by which they are ordered. Assumes nothing.
use Rattle.std.specs.Prelude.{ℕ, ◌+◌, ◌^◌, ◌<◌, ◌≡◌, List, length}
use Rattle.wire.specs.Wire.{le_at}
use Rattle.std.specs.declared.cmp.Ordering.{Ordering}
use Rattle.std.specs.Ordering.{MatchOrdering}

-- how two numbers compare
abbrev pub Compared : Ordering → ℕ → ℕ → Type 0
Compared o a b = MatchOrdering o (a < b) (a ≡ b) (b < a)

-- the number that the bytes spell with a byte 1 after them, so that a shorter string has a smaller one
unfoldable pub value_of : List ℕ → ℕ
value_of x = le_at (length x) x 0 + 256 ^ length x
