-- `misfits`: where no byte so far misfits, each of them fits. Assumes nothing.
use mathlib.Core.Path.{◌≡◌}
use mathlib.Core.Bool.{false}
use Prim.Native.Nat.{◌-◌, ◌≤◌}
use Rattle.utf8.specs.Steps.{Fitting}
use Rattle.utf8.proofs.misfits.Given as goal

abbrev pub invariant-loop-k : goal.invariant-loop-k
invariant-loop-k l = (l.k ≤ l.w) × (l.any ≡ false → Fitting l.k l.s l.i)
