-- UTF-8 as RFC 3629 writes it down, `UTF8-octets = *( UTF8-char )`, apart from how a text is judged byte by byte; and
-- the rule by shape that the table replaced, for the law that no text is accepted that it refused. Assumes nothing.
use Rattle.std.specs.Prelude.{ℕ, ◌≤◌, ◌≡◌}
use mathlib.Core.List.{List, [], ◌∷◌, ◌++◌, Memᴰ}
use Rattle.utf8.specs.Utf8.{Range, ◌to◌, tails, Sequence, sequence}

-- one byte in each range, and no other
unfoldable pub Spells : List Range → List ℕ → Type 0
Spells [] [] = Unit {0}
Spells [] (b ∷ s) = ⊥
Spells (low to high ∷ rs) [] = ⊥
Spells (low to high ∷ rs) (b ∷ s) = (low ≤ b) × (b ≤ high) × Spells rs s

-- sequences of a table, end to end
pub data Octets (table : List Sequence) : List ℕ → Type 0 where
  none : Octets table []
  more : {first : Range} {rest : List Range} {s t : List ℕ} (c : List ℕ) → Memᴰ (sequence first rest) table
      → Spells (first ∷ rest) c → Octets table s → t ≡ c ++ s → Octets table t

-- document 01 before the request: "a byte below 80 hex alone; C0 to DF followed by one byte of 80 to BF, E0 to EF by
-- two, F0 to F7 by three"
unfoldable pub shapes : List Sequence
shapes =
    sequence (0x00 to 0x7F) (tails 0)
    ∷ sequence (0xC0 to 0xDF) (tails 1)
    ∷ sequence (0xE0 to 0xEF) (tails 2)
    ∷ sequence (0xF0 to 0xF7) (tails 3)
    ∷ []
