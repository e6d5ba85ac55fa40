-- `From<State>` for a writer meets its contract. Assumes nothing.
use Rattle.c_writer.specs.State.{writer_in}
use Rattle.c_writer.proofs.WriterFromState.from.Goals as goal

pub returns : goal.returns
unfolding writer_in
returns c = rw c.turn_for.ensures
