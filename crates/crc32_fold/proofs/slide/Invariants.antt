-- `crc32_fold::slide` meets its contract. Assumes nothing.
use mathlib.Core.Path.{◌≡◌}
use Prim.Native.Nat.{◌-◌, ◌≤◌}
use lib.ListN.{length, take, drop}
use Rattle.crc32_fold.proofs.slide.Given as goal

-- the bytes before i are in place, and those from i on are as they were
abbrev pub invariant-loop-i : goal.invariant-loop-i
invariant-loop-i l =
    (l.i ≤ 300) × (length l.window ≡ 1483) × (drop l.i l.window ≡ drop l.i l.initial.window) × (take l.i l.window ≡ take l.i (drop l.n l.initial.window))
