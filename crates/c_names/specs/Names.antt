-- Plain dictionaries at the C edge. Assumes nothing.
use Rattle.std.specs.Prelude.{List, ℕ}
use Rattle.verdict.specs.Rules.{Outcome, given, refused}
use Rattle.names.specs.Dictionary.{dictionary_of}
use Rattle.lookup.specs.declared.Span.{Span}
use Rattle.lookup.specs.Lookup.{span_at, lookup_of}
use Rattle.name_search.specs.Search.{Found, numbered, missing, seek_of}
use Rattle.c_answer.specs.declared.Answer.{Answer}
use Rattle.c_answer.specs.Answer.{answered}

-- count: the names
unfoldable pub c_names_of : List ℕ → Answer
c_names_of s = answered (dictionary_of s)

-- a name "as place and length"
abbrev pub span_answer : Outcome Span → Answer
span_answer (given p) = record { number = 0; place = p.place; count = p.length }
span_answer (refused n p) = record { number = n; place = p; count = 0 }

unfoldable pub c_name_of : List ℕ → (i : ℕ) → Answer
c_name_of s i = span_answer (lookup_of s i)

-- the name whose id stands at a place, which is never refused
unfoldable pub c_name_at_of : List ℕ → (at : ℕ) → Answer
c_name_at_of s at = span_answer (given (span_at s at))

-- a name's number: "place = 1 and count = the number", both 0 where no name is the one given
abbrev pub number_answer : Outcome Found → Answer
number_answer (given (numbered i)) = record { number = 0; place = 1; count = i }
number_answer (given missing) = answered (given 0)
number_answer (refused n p) = answered (refused n p)

unfoldable pub c_number_of : (dictionary name : List ℕ) → Answer
c_number_of dictionary name = number_answer (seek_of dictionary name)
