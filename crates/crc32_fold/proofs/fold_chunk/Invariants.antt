-- `crc32_fold::fold_chunk` meets its contract. Assumes nothing.
use mathlib.Core.Path.{◌≡◌}
use Prim.Native.Nat.{◌+◌, ◌-◌, ◌≤◌}
use lib.ListN.{length, take, drop}
use Rattle.crc32_fold.specs.Fold.{folded, near}
use Rattle.crc32_fold.proofs.fold_chunk.Given as goal

-- what is left to take out, from the window at i, gives what all gives from the start
abbrev pub invariant-loop-i : goal.invariant-loop-i
invariant-loop-i l =
    (l.i ≤ l.n) × ((length l.window ≡ 1483) × (folded near (l.n - l.i) (take 300 (drop l.i l.window))
    (drop (l.at + l.i) l.s) ≡ folded near l.n (take 300 l.initial.window) (drop l.at l.s)))
