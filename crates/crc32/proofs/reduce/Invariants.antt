-- `crc32::reduce` meets its contract. Assumes nothing.
use mathlib.Core.Path.{◌≡◌}
use Prim.Native.Nat.{◌-◌, ◌%◌, ◌≤◌}
use lib.ListN.{length, drop}
use Rattle.crc32_fold.specs.Fold.{initial, folded}
use Rattle.crc32.specs.Far.{far}
use Rattle.crc32.proofs.reduce.Given as goal

-- what is left to take out, in whole rounds, from the ring and the place, gives what all gives from the start
abbrev pub invariant-loop-at : goal.invariant-loop-at
invariant-loop-at l =
    (l.at ≤ l.end) × ((l.end - l.at) % 4018 ≡ 0) × (length l.ring ≡ 4018)
    × (folded far (l.end - l.at) l.ring (drop l.at l.s) ≡ folded far l.end (initial 4018 0xFFFFFFFF) l.s)

abbrev pub decreases-loop-at : goal.decreases-loop-at
decreases-loop-at l = l.end - l.at
