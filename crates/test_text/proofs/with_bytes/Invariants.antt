use Rattle.std.proofs.Common.{◌≡◌, length}
use Rattle.io.specs.Counts.{IsPrefixLen}
use Rattle.test_text.proofs.with_bytes.Given as goal

abbrev pub invariant-loop-b : goal.invariant-loop-b
invariant-loop-b l = (length l.out ≡ length l.initial.out) × IsPrefixLen l.end l.out
