-- `crc32_fold::fold_all` meets its contract. Assumes nothing.
use mathlib.Core.Path.{◌≡◌}
use Prim.Native.Nat.{◌-◌, ◌≤◌}
use lib.ListN.{length, take, drop}
use Rattle.crc32_fold.specs.Fold.{initial, folded, near}
use Rattle.crc32_fold.proofs.fold_all.Given as goal

-- what is left to take out, from the window at n and the place, gives what all gives from the start
abbrev pub invariant-loop-at : goal.invariant-loop-at
invariant-loop-at l =
    (l.at ≤ l.end) × (l.n ≤ 1024) × (length l.window ≡ 1483)
    × (folded near (l.end - l.at) (take 300 (drop l.n l.window)) (drop l.at l.s) ≡ folded near l.end (initial 300 l.c) l.s)

abbrev pub decreases-loop-at : goal.decreases-loop-at
decreases-loop-at l = l.end - l.at
