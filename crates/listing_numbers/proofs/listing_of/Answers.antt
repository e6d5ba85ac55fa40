-- `listing_numbers::listing_of` meets its contract. Assumes nothing.
use mathlib.Core.Path.{sym}
use Rattle.listing_numbers.specs.Listing.{state_in, state_for}
use Rattle.listing_numbers.proofs.listing_of.Goals as goal

pub returns-in-Blocks : goal.returns-in-Blocks
unfolding state_in state_for
returns-in-Blocks c = rw c.listing_at.ensures (sym c.in-Blocks.is)

pub returns-in-Entries : goal.returns-in-Entries
unfolding state_in state_for
returns-in-Entries c = rw c.listing_at-in-Entries.ensures (sym c.in-Entries.is)

pub returns-in-Entry : goal.returns-in-Entry
unfolding state_in state_for
returns-in-Entry c = rw c.listing_at-in-Entry.ensures (sym c.in-Entry.is)

pub returns-in-Fields : goal.returns-in-Fields
unfolding state_in state_for
returns-in-Fields c = rw c.listing_at-in-Fields.ensures (sym c.in-Fields.is)

pub returns-in-Name : goal.returns-in-Name
unfolding state_in state_for
returns-in-Name c = rw c.listing_at-in-Name.ensures (sym c.in-Name.is)

pub returns-in-Value : goal.returns-in-Value
unfolding state_in state_for
returns-in-Value c = rw c.listing_at-in-Value.ensures (sym c.in-Value.is)

pub returns-in-Text : goal.returns-in-Text
unfolding state_in state_for
returns-in-Text c = rw c.listing_at-in-Text.ensures (sym c.in-Text.is)

pub returns-in-Refused : goal.returns-in-Refused
unfolding state_in state_for
returns-in-Refused c = rw c.listing_off.ensures (sym c.in-Refused.is)

pub returns-in-End : goal.returns-in-End
unfolding state_in state_for
returns-in-End c = rw c.listing_off-in-End.ensures (sym c.in-End.is)
