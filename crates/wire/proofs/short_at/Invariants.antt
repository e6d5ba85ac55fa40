use Prim.Native.Nat.{◌+◌, ◌-◌, ◌≤◌}
use mathlib.Core.Path.{◌≡◌}
use Rattle.wire.specs.Wire.{le_at}
use Rattle.wire.proofs.short_at.Given as goal

abbrev pub invariant-loop-n : goal.invariant-loop-n
invariant-loop-n l = (l.n ≤ l.m) × (l.v ≡ le_at (l.m - l.n) l.s (l.at + l.n))

abbrev pub decreases-loop-n : goal.decreases-loop-n
decreases-loop-n l = l.n
