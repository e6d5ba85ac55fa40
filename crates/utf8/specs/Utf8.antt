-- UTF-8 by RFC 3629's table of byte sequences (document 02, g). Assumes nothing.
use Rattle.std.specs.Prelude.{ℕ, zero, suc, Bool, true, false, cond, ◌&&◌, List, [], ◌∷◌, leb}

infix 80 ◌to◌
-- the bytes from a lowest to a highest
pub data Range : Type 0 where
  ◌to◌ : ℕ → ℕ → Range

unfoldable pub within : Range → ℕ → Bool
within (low to high) b = leb low b && leb b high

-- n bytes of 80 to BF, each a tail in the words of RFC 3629
unfoldable pub tails : ℕ → List Range
tails zero = []
tails (suc n) = 0x80 to 0xBF ∷ tails n

-- a sequence of bytes: the range of the first, and those of the bytes that follow
pub data Sequence : Type 0 where
  sequence : Range → List Range → Sequence

-- the table, section 4 of RFC 3629: the sequences of one byte, of two, of three and of four
unfoldable pub sequences : List Sequence
sequences =
    sequence (0x00 to 0x7F) (tails 0)
    ∷ sequence (0xC2 to 0xDF) (tails 1)
    ∷ sequence (0xE0 to 0xE0) (0xA0 to 0xBF ∷ tails 1)
    ∷ sequence (0xE1 to 0xEC) (tails 2)
    ∷ sequence (0xED to 0xED) (0x80 to 0x9F ∷ tails 1)
    ∷ sequence (0xEE to 0xEF) (tails 2)
    ∷ sequence (0xF0 to 0xF0) (0x90 to 0xBF ∷ tails 2)
    ∷ sequence (0xF1 to 0xF3) (tails 3)
    ∷ sequence (0xF4 to 0xF4) (0x80 to 0x8F ∷ tails 2)
    ∷ []

-- the range without bytes
unfoldable pub nothing : Range
nothing = 1 to 0

-- what has to follow a first byte, by the row of a table that has it; no byte will do after one that starts no sequence
unfoldable pub followers : List Sequence → ℕ → List Range
followers [] b = nothing ∷ []
followers (sequence first rest ∷ more) b = cond (within first b) rest (followers more b)

-- bytes in these ranges, and then whole sequences of a table
unfoldable pub utf8_from : List Sequence → List Range → List ℕ → Bool
utf8_from table [] [] = true
utf8_from table [] (b ∷ s) = utf8_from table (followers table b) s
utf8_from table (r ∷ rs) [] = false
utf8_from table (r ∷ rs) (b ∷ s) = within r b && utf8_from table rs s

-- whole sequences and nothing else
unfoldable pub utf8_of : List ℕ → Bool
utf8_of s = utf8_from sequences [] s
