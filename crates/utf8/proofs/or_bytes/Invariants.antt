-- `or_bytes`: where the bytes so far, or-ed, are below 80 hex, each of them is. Assumes nothing.
use Prim.Native.Nat.{◌-◌, ◌≤◌, ◌<◌}
use Rattle.utf8.specs.Steps.{Low}
use Rattle.utf8.proofs.or_bytes.Given as goal

abbrev pub invariant-loop-k : goal.invariant-loop-k
invariant-loop-k l = (l.k ≤ l.w) × (l.all < 0x80 → Low l.k l.s l.i)
