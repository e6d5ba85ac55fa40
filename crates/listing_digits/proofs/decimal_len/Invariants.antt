-- `listing_digits::decimal_len` meets its contract. The loop's invariant: what was counted and the digits of what is left are the number's. Assumes nothing.
use mathlib.Core.Path.{◌≡◌}
use Prim.Native.Nat.{◌+◌, ◌≤◌}
use lib.ListN.{length}
use Rattle.listing_digits.specs.Digits.{decimal_of}
use Rattle.listing_digits.proofs.decimal_len.Given as goal

abbrev pub invariant-loop-x : goal.invariant-loop-x
invariant-loop-x l = (l.x ≤ l.n) × (l.k + length (decimal_of l.x) ≡ length (decimal_of l.n))

abbrev pub decreases-loop-x : goal.decreases-loop-x
decreases-loop-x l = l.x
