-- The choice of blocks at the C edge. Assumes nothing.
use Rattle.std.specs.Prelude.{List, [], ◌∷◌, ◌++◌, ℕ, ◌*◌, ◌%◌, length}
use Rattle.verdict.specs.Rules.{Rule, equal, at_least, at_most, if_sound, first_broken, settle}
use Rattle.wire.specs.Wire.{le, splice}
use Rattle.rows.specs.declared.Row.{Row}
use Rattle.parts.specs.declared.time.Epoch.{Epoch}
use Rattle.rows.specs.Rows.{stride}
use Rattle.query.specs.Query.{chosen, table_rows, row_rules}
use Rattle.c_answer.specs.declared.Answer.{Answer}
use Rattle.c_answer.specs.Answer.{answered}

abbrev pub epoch : ℕ → Epoch
epoch t = record { 0 = t }

-- all of the lent rows
abbrev pub c_rows : List ℕ → List Row
c_rows rows = table_rows rows

abbrev pub c_chosen : (rows : List ℕ) (t1 t2 : ℕ) → List ℕ
c_chosen rows t1 t2 = chosen (epoch t1) (epoch t2) 0 (c_rows rows)

-- "numbers: u32 each"
unfoldable pub numbers_bytes : List ℕ → List ℕ
numbers_bytes [] = []
numbers_bytes (n ∷ ns) = le 4 n ++ numbers_bytes ns

-- all of the bytes are rows, so their length is a multiple of a row's: 6, place = that length
abbrev pub whole_rows : ℕ → Rule
whole_rows n = equal 6 n (n % stride) 0

-- 13, then the length of the rows, their number, their order, and last 12 in bytes
unfoldable pub c_query_rules : (rows : List ℕ) (t1 t2 numbers : ℕ) → List Rule
c_query_rules rows t1 t2 numbers =
    at_most 13 t1 t1 t2
    ∷ whole_rows (length rows)
    ∷ (row_rules (c_rows rows)
    ++ (at_least 12 (4 * length (c_chosen rows t1 t2)) numbers (4 * length (c_chosen rows t1 t2)) ∷ []))

unfoldable pub c_query_of : (rows : List ℕ) (t1 t2 numbers : ℕ) → Answer
c_query_of rows t1 t2 numbers =
    answered (settle (first_broken (c_query_rules rows t1 t2 numbers)) (length (c_chosen rows t1 t2)))

-- the lent list of numbers afterwards
unfoldable pub c_query_out : (rows : List ℕ) (t1 t2 : ℕ) (numbers : List ℕ) → List ℕ
c_query_out rows t1 t2 numbers =
    if_sound (first_broken (c_query_rules rows t1 t2 (length numbers)))
    (splice numbers 0 (numbers_bytes (c_chosen rows t1 t2)))
    numbers
