-- `listing_digits::put_hex` meets its contract. Assumes nothing.
use mathlib.Core.Path.{◌≡◌}
use mathlib.Core.List.{◌++◌}
use Prim.Native.Nat.{◌+◌}
use lib.ListN.{length, drop}
use Rattle.wire.specs.Wire.{splice}
use Rattle.listing_digits.specs.Digits.{hex_of}
use Rattle.listing_digits.proofs.put_hex.Given as goal

abbrev pub invariant-loop-i : goal.invariant-loop-i
invariant-loop-i l =
    (length l.out ≡ length l.initial.out)
    × ((hex_of l.i l.x ++ drop l.i (hex_of l.width l.n) ≡ hex_of l.width l.n) × (l.out ≡ splice l.initial.out (l.at + l.i) (drop l.i (hex_of l.width l.n))))

abbrev pub decreases-loop-i : goal.decreases-loop-i
decreases-loop-i l = l.i
