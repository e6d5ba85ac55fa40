-- `listing_digits::shown_in_name` meets its contract. Assumes nothing.
use mathlib.Core.Path.{◌∙◌}
use Rattle.listing_digits.proofs.Hex.{name-space, name-equals, name-rest}
use borrow.Author.Rules.{rules}
use Rattle.listing_digits.proofs.shown_in_name.Goals as goal

pub returns-then-b-eq32 : goal.returns-then-b-eq32
returns-then-b-eq32 c = name-space c.args.b (search rules)

pub returns-then-b-eq61 : goal.returns-then-b-eq61
returns-then-b-eq61 c = name-equals c.args.b (search rules)

pub returns : goal.returns
returns c = c.shown_in_text.ensures ∙ name-rest c.args.b (search rules) (search rules)
