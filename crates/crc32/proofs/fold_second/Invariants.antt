-- `crc32::fold_second` meets its contract. Assumes nothing.
use mathlib.Core.Path.{◌≡◌}
use Prim.Native.Nat.{◌+◌, ◌-◌, ◌≤◌}
use lib.ListN.{length, drop}
use Rattle.crc32_fold.specs.Fold.{folded}
use Rattle.crc32.specs.Far.{far}
use Rattle.crc32.specs.Inner.{from}
use Rattle.crc32.proofs.fold_second.Given as goal

-- what is left to take out, from the ring at k, gives what all gives from the start
abbrev pub invariant-loop-k : goal.invariant-loop-k
invariant-loop-k l =
    (l.i ≤ l.k) × (l.k ≤ l.i + (2181 - l.i)) × (length l.ring ≡ 4018)
    × (folded far (2181 - l.k) (from l.k l.ring) (drop (l.at + (l.k - l.i)) l.s) ≡ folded far (2181 - l.i) (from l.i l.initial.ring) (drop l.at l.s))
