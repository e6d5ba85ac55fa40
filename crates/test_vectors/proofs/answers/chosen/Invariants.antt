use Rattle.std.proofs.Common.{◌≡◌, length}
use Rattle.io.specs.Counts.{IsPrefixLen}
use Rattle.test_vectors.proofs.answers.chosen.Given as goal

abbrev pub invariant-loop-i : goal.invariant-loop-i
invariant-loop-i l = (length l.out ≡ length l.initial.out) × IsPrefixLen l.end l.out
