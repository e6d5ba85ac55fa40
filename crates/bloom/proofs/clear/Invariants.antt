-- `clear` meets its contract. The invariant: the first i elements are 0. Assumes nothing.
use Prim.Native.Nat.{◌-◌, ◌≤◌}
use mathlib.Core.Path.{◌≡◌}
use mathlib.Core.List.{◌++◌}
use lib.ListN.{length, drop, replicate}
use Rattle.bloom.proofs.clear.Given as goal

abbrev pub invariant-loop-i : goal.invariant-loop-i
invariant-loop-i l = (l.filter ≡ replicate l.i 0 ++ drop l.i l.initial.filter) × (length l.filter ≡ length l.initial.filter) × (l.i ≤ l.n)
