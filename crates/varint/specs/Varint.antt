-- Varints: seven bits a byte, low group first, high bit set on all but the last; at most ten bytes, the tenth 0 or 1
-- (document 01, "Names and entries"). Assumes nothing.
use Rattle.std.specs.Prelude.{◌≡◌, cond, List, [], ◌∷◌, ℕ, zero, suc, ◌+◌, ◌-◌, ◌*◌, ◌/◌, ◌%◌, leb, ltb, length}
use Rattle.std.specs.Int.Count.{count_leading_zeros}

-- what a list of bytes begins with: a value and how many bytes it took; fewer bytes than the varint has; more than ten
-- bytes or a tenth above 1
pub data Decoding : Type 0 where
  value : (v n : ℕ) → Decoding
  cut : Decoding
  malformed : Decoding

-- what is decoded of the groups above a low one, with that group and its byte
unfoldable pub above : ℕ → Decoding → Decoding
above low (value v n) = value (low + 128 * v) (suc n)
above low cut = cut
above low malformed = malformed

-- up to k bytes with the high bit set, and the last byte; after k with the high bit set the last is 0 or 1
unfoldable pub decode_in : ℕ → List ℕ → Decoding
decode_in zero [] = cut
decode_in zero (b ∷ s) = cond (leb b 1) (value b 1) malformed
decode_in (suc k) [] = cut
decode_in (suc k) (b ∷ s) = cond (ltb b 128) (value b 1) (above (b - 128) (decode_in k s))

-- "at most ten bytes": "The reader accepts longer forms"
unfoldable pub decode : List ℕ → Decoding
decode s = decode_in 9 s

-- the fewest bytes that make v: up to k with the high bit set, and the last
unfoldable pub encode_in : ℕ → ℕ → List ℕ
encode_in zero v = v ∷ []
encode_in (suc k) v = cond (ltb v 128) (v ∷ []) ((128 + v % 128) ∷ encode_in k (v / 128))

-- "the writer makes the shortest"
unfoldable pub encode : ℕ → List ℕ
encode v = encode_in 9 v

-- "the bits that remain" of the 64 below the leading zeros (document 02, c)
unfoldable pub bit_length : ℕ → ℕ
bit_length v = 64 - count_leading_zeros 64 v

-- "divided by seven and rounded up, with one byte for zero" (document 02, c): how long `encode v` is (`written-length`)
unfoldable pub written_length : ℕ → ℕ
written_length zero = 1
written_length (suc v) = (bit_length (suc v) + 6) / 7

-- a form of v that takes n bytes is the shortest
abbrev pub Shortest : ℕ → ℕ → Type 0
Shortest v n = n ≡ length (encode v)
