-- `From<Writer>` for a state meets its contract. Assumes nothing.
use Rattle.c_writer.specs.State.{state_of}
use Rattle.c_writer.proofs.StateFromWriter.from.Goals as goal

pub returns : goal.returns
unfolding state_of
returns c = rw c.number_of.ensures
