-- `crc32_register::words_by` meets its contract. Assumes nothing.
use mathlib.Core.Path.{◌≡◌}
use Prim.Native.Nat.{◌-◌, ◌%◌, ◌^◌, ◌<◌, ◌≤◌}
use lib.ListN.{length, drop}
use Rattle.crc32_register.specs.Register.{crc_from}
use Rattle.crc32_register.proofs.words_by.Given as goal

-- the bytes that are left, from the register and the place, give what all of them give from the start
abbrev pub invariant-loop-i : goal.invariant-loop-i
invariant-loop-i l = (l.i ≤ length l.s) × (l.i % 8 ≡ 0) × (l.c < 2 ^ 32) × (crc_from l.c (drop l.i l.s) ≡ crc_from l.start l.s)

abbrev pub decreases-loop-i : goal.decreases-loop-i
decreases-loop-i l = length l.s - l.i
