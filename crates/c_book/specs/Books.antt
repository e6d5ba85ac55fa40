-- Plain books at the C edge. Assumes nothing.
use Rattle.std.specs.Prelude.{List, ℕ, ◌+◌}
use Rattle.verdict.specs.Rules.{first_broken, Outcome, given, refused, settle}
use Rattle.book.specs.declared.Span.{Span}
use Rattle.book.specs.declared.Tally.{Tally}
use Rattle.book.specs.Book.{span_at, span_of, book_rules, parts_of}
use Rattle.c_answer.specs.declared.Answer.{Answer}

-- "place = the offset of the first byte, count = how many there are"
abbrev pub span_answer : Outcome Span → Answer
span_answer (given p) = record { number = 0; place = p.place; count = p.length }
span_answer (refused n p) = record { number = n; place = p; count = 0 }

-- the plain dictionary of the book of a log with so many blocks
unfoldable pub c_book_of : List ℕ → (blocks : ℕ) → Answer
c_book_of s blocks = span_answer (settle (first_broken (book_rules blocks s)) (span_of s blocks))

-- "count = parts, place = where the last of them stands", the dictionary's being one of them
abbrev pub parts_answer : Outcome Tally → Answer
parts_answer (given t) = record { number = 0; place = t.last; count = t.blocks + 1 }
parts_answer (refused n p) = record { number = n; place = p; count = 0 }

unfoldable pub c_parts_of : List ℕ → Answer
c_parts_of s = parts_answer (parts_of s)

-- the plain bytes of the part at a place
unfoldable pub c_part_of : List ℕ → (at : ℕ) → Answer
c_part_of s at = span_answer (given (span_at s at))
