-- `compare_bytes` meets its contract. The invariant: from k on the bytes agree. Assumes nothing.
use Rattle.order.proofs.Values.{Agree}
use Rattle.order.proofs.compare_bytes.Given as goal

abbrev pub invariant-loop-k : goal.invariant-loop-k
invariant-loop-k l = Agree l.x l.y l.n l.k
