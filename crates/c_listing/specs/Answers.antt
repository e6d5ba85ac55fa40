-- What the calls of the listing answer at the C edge. Assumes nothing.
use Rattle.std.specs.Prelude.{List, ◌≡◌, ℕ}
use Rattle.verdict.specs.Rules.{given, on_given}
use Rattle.contents.specs.Contents.{contents_of}
use Rattle.listing_tokens.specs.declared.Token.{Token}
use Rattle.listing_tokens.specs.Tokens.{joined}
use Rattle.listing_places.specs.Listing.{tokens_from}
use Rattle.listing_pieces.specs.Steps.{Rendered}
use Rattle.listing_input.specs.Printed.{printed_of}
use Rattle.listing_input.specs.Ranges.{range_of, range_text}
use Rattle.listing_numbers.specs.declared.Listing.{Listing}
use Rattle.listing_numbers.specs.Listing.{state_in}
use Rattle.c_answer.specs.declared.Answer.{Answer}
use Rattle.c_answer.specs.Answer.{answered}
use Rattle.c_listing.specs.declared.Listed.{Listed}

-- the tokens that a listing of a log and its book has left
abbrev pub left : (log book : List ℕ) → Listing → List Token
left log book l = tokens_from log book (state_in l)

-- count: the entries
unfoldable pub c_list_of : (log book : List ℕ) → Answer
c_list_of log book = answered (on_given (contents_of log book) (λ t. given t.entries))

-- the start: how the call answers, and what is left to write is what the listing program prints
pub record Started (log book : List ℕ) (r : Listed) : Type 0 where
  pub says : r.answer ≡ c_list_of log book
  pub text : joined (left log book r.next) ≡ printed_of log book (contents_of log book)

-- count: the entries of all times
unfoldable pub c_range_of : (log book : List ℕ) (t1 t2 : ℕ) → Answer
c_range_of log book t1 t2 = answered (on_given (range_of log book t1 t2) (λ t. given t.entries))

-- the start of a range: how the call answers, and what is left to write are the lines of the entries from T1 to T2
pub record StartedRange (log book : List ℕ) (t1 t2 : ℕ) (r : Listed) : Type 0 where
  pub says : r.answer ≡ c_range_of log book t1 t2
  pub text : joined (left log book r.next) ≡ range_text log book t1 t2

-- a piece: never a refusal; as many whole tokens as fit are written, and the others are left
pub record Went (log book : List ℕ) (from : Listing) (out : List ℕ) (r : Listed) (exit : List ℕ) : Type 0 where
  pub says : r.answer ≡ answered (given r.answer.count)
  pub piece : Rendered (left log book from) out (left log book r.next) r.answer.count exit
