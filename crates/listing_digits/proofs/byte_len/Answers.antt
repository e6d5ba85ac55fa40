-- `listing_digits::byte_len` meets its contract. Assumes nothing.
use mathlib.Core.Path.{ap, sym}
use Rattle.listing_digits.specs.Digits.{byte_len}
use Rattle.listing_digits.proofs.byte_len.Goals as goal

pub returns-then-shown : goal.returns-then-shown
unfolding byte_len
returns-then-shown c = ap byte_len (sym c.if-shown.true)

pub returns-else-shown : goal.returns-else-shown
unfolding byte_len
returns-else-shown c = ap byte_len (sym c.if-shown.false)
