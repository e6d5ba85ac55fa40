-- `listing_digits::shown_in_text` meets its contract. Assumes nothing.
use Rattle.listing_digits.proofs.Hex.{text-below, text-above, text-quote, text-rest}
use borrow.Author.Rules.{rules}
use Rattle.listing_digits.proofs.shown_in_text.Goals as goal

pub returns-then-b-lt32 : goal.returns-then-b-lt32
returns-then-b-lt32 c = text-below c.args.b (search rules)

pub returns-then-b-gt126 : goal.returns-then-b-gt126
returns-then-b-gt126 c = text-above c.args.b (search rules) (search rules)

pub returns-then-b-eq34 : goal.returns-then-b-eq34
returns-then-b-eq34 c = text-quote c.args.b (search rules)

pub returns : goal.returns
returns c = text-rest c.args.b (search rules) (search rules) (search rules)
