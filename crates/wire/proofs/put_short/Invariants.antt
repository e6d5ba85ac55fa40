use Prim.Native.Nat.{◌+◌, ◌-◌, ◌≤◌}
use mathlib.Core.Path.{◌≡◌}
use lib.ListN.{length}
use Rattle.wire.specs.Wire.{le, splice}
use Rattle.wire.proofs.put_short.Given as goal

abbrev pub invariant-loop-i : goal.invariant-loop-i
invariant-loop-i l = (l.i ≤ l.n) × (length l.out ≡ length l.initial.out)
    × (splice l.out (l.at + l.i) (le (l.w - l.i) l.x) ≡ splice l.initial.out l.at (le l.w l.v))
