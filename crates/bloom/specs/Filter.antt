-- A Bloom filter as a list of 64-bit numbers, each bit of which is a mark. Assumes nothing.
use Rattle.std.specs.Prelude.{ℕ, ◌+◌, ◌-◌, ◌*◌, ◌/◌, ◌%◌, ◌^◌, Bool, ◌||◌, List, eqb, length, get_or, set, replicate}
use Rattle.std.specs.Int.Bits.{bit_or}
use Rattle.wire.specs.Wire.{le_at}

-- the sum of what the first and the last eight bytes of x spell, or all of fewer: of each 63 bits, so that it fits
unfoldable pub digest_of : List ℕ → ℕ
digest_of x = le_at 8 x 0 % 0x8000000000000000 + le_at 8 x (length x - 8) % 0x8000000000000000

-- which of so many elements has the mark of a digest, and the mark
unfoldable pub slot_of : ℕ → ℕ → ℕ
slot_of size d = d % 65521 % size

unfoldable pub mark_of : ℕ → ℕ
mark_of d = 1 * 2 ^ (d % 65521 / 1024) % 2 ^ 64

-- where x has its mark
unfoldable pub place_in : List ℕ → List ℕ → ℕ
place_in f x = slot_of (length f) (digest_of x)

-- f with the mark of x, and with no marks
unfoldable pub added : List ℕ → List ℕ → List ℕ
added f x = set f (place_in f x) (bit_or (get_or f (place_in f x) 0) (mark_of (digest_of x)))

unfoldable pub cleared : List ℕ → List ℕ
cleared f = replicate (length f) 0

-- x has its mark, as every x has where there are no elements
unfoldable pub marked : List ℕ → List ℕ → Bool
marked f x = eqb (length f) 0
    || eqb (bit_or (get_or f (place_in f x) 0) (mark_of (digest_of x))) (get_or f (place_in f x) 0)
