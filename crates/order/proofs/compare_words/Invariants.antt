-- `compare_words` meets its contract. The invariant: from k on the bytes agree. Assumes nothing.
use Rattle.order.proofs.Values.{Agree}
use Rattle.order.proofs.compare_words.Given as goal

abbrev pub invariant-loop-k : goal.invariant-loop-k
invariant-loop-k l = Agree l.x l.y l.n l.k

abbrev pub decreases-loop-k : goal.decreases-loop-k
decreases-loop-k l = l.k
