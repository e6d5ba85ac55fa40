-- Where stored bytes stand, at the C edge. Assumes nothing.
use Rattle.std.specs.Prelude.{List, ℕ, ◌/◌, length}
use Rattle.verdict.specs.Rules.{Outcome, given, refused, on_given}
use Rattle.wire.specs.Wire.{le_at}
use Rattle.rows.specs.Rows.{stride}
use Rattle.access.specs.declared.Span.{Span}
use Rattle.access.specs.Access.{row_in, stored_span, dictionary_span}
use Rattle.c_answer.specs.declared.Answer.{Answer}

-- "place = the offset of the first, count = how many they are"
abbrev pub span_answer : Outcome Span → Answer
span_answer (given p) = record { number = 0; place = p.place; count = p.length }
span_answer (refused n p) = record { number = n; place = p; count = 0 }

-- the stored bytes of block i, by its row; the length of the rows says how many there are
unfoldable pub c_stored_of : (log rows : List ℕ) (i : ℕ) → Answer
c_stored_of log rows i = span_answer
    (on_given (row_in rows (length rows / stride) i) (λ row. given (stored_span log row)))

-- those of the dictionary, by a frame: "five u64: place of the dictionary's length field, the dictionary's stored size,
-- [..]" (include/hplog.h)
unfoldable pub c_dictionary_of : (log frame : List ℕ) → Answer
c_dictionary_of log frame = span_answer (given (dictionary_span log (le_at 8 frame 0) (le_at 8 frame 8)))
