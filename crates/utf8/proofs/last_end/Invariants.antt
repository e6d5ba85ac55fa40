-- `last_end`: the windows up to the place reached are windows still. Assumes nothing.
use Rattle.utf8.specs.Steps.{Windows}
use Rattle.utf8.proofs.last_end.Given as goal

abbrev pub invariant-loop-k : goal.invariant-loop-k
invariant-loop-k l = Windows l.s l.i l.k

abbrev pub decreases-loop-k : goal.decreases-loop-k
decreases-loop-k l = l.k
