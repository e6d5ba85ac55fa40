-- `c_writer::turn_for` meets its contract. Assumes nothing.
use Rattle.c_writer.specs.State.{turn_for}
use Rattle.c_writer.proofs.Turns.{turn-other}
use Rattle.c_writer.proofs.turn_for.Goals as goal

pub returns-in-0 : goal.returns-in-0
unfolding turn_for
returns-in-0 c = rw c.in-0.is

pub returns-in-1 : goal.returns-in-1
unfolding turn_for
returns-in-1 c = rw c.in-1.is

pub returns-in_default : goal.returns-in_default
returns-in_default c = turn-other _ (search) (search)
