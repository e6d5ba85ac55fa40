-- `crc32::add` meets its contract. Assumes nothing.
use mathlib.Core.Path.{◌≡◌}
use Prim.Native.Nat.{ℕ, ◌-◌, ◌<◌, ◌≤◌}
use lib.ListN.{length, get_or, drop}
use lib.Bits.{bit_xor}
use Rattle.crc32.proofs.add.Given as goal

-- the bytes before i are sums, and those from i on are as they were
abbrev pub invariant-loop-i : goal.invariant-loop-i
invariant-loop-i l =
    (l.i ≤ l.n) × (length l.out ≡ length l.initial.out) × (drop l.i l.out ≡ drop l.i l.initial.out) ×
    ((k : ℕ) → k < l.i → get_or l.out k 0 ≡ bit_xor (get_or l.initial.out k 0) (get_or l.s k 0))
