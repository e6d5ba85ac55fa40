-- `listing_numbers::state_of` meets its contract. Assumes nothing.
use Rattle.listing_numbers.specs.Listing.{state_in, state_for}
use Rattle.listing_numbers.proofs.States.{state-other}
use Rattle.listing_numbers.proofs.state_of.Goals as goal

pub returns-in-1 : goal.returns-in-1
unfolding state_in state_for
returns-in-1 c = rw (c.in-1.is, c.place_of-p.ensures)

pub returns-in-2 : goal.returns-in-2
unfolding state_in state_for
returns-in-2 c = rw (c.in-2.is, c.place_of-p.ensures)

pub returns-in-3 : goal.returns-in-3
unfolding state_in state_for
returns-in-3 c = rw (c.in-3.is, c.place_of-p.ensures)

pub returns-in-4 : goal.returns-in-4
unfolding state_in state_for
returns-in-4 c = rw (c.in-4.is, c.place_of-p.ensures)

pub returns-in-5 : goal.returns-in-5
unfolding state_in state_for
returns-in-5 c = rw (c.in-5.is, c.place_of-p.ensures)

pub returns-in-6 : goal.returns-in-6
unfolding state_in state_for
returns-in-6 c = rw (c.in-6.is, c.place_of-p.ensures)

pub returns-in-7 : goal.returns-in-7
unfolding state_in state_for
returns-in-7 c = rw (c.in-7.is, c.place_of-p.ensures)

pub returns-in-8 : goal.returns-in-8
unfolding state_in state_for
returns-in-8 c = rw c.in-8.is

pub returns-in_default : goal.returns-in_default
unfolding state_in
returns-in_default c = state-other _ _ (search) (search) (search) (search) (search) (search) (search) (search)
