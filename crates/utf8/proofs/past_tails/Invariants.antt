-- `past_tails`: what is still owed at the place reached decides as all of it did after the first byte. Assumes nothing.
use mathlib.Core.Path.{◌≡◌}
use Prim.Native.Nat.{◌+◌, ◌≤◌, ◌<◌}
use lib.ListN.{length, drop}
use Rattle.utf8.specs.Utf8.{tails, sequences, utf8_from}
use Rattle.utf8.proofs.past_tails.Given as goal

abbrev pub invariant-loop-left : goal.invariant-loop-left
invariant-loop-left l =
    (l.i < l.at) × (l.at ≤ length l.s) × (utf8_from sequences (tails l.left) (drop l.at l.s) ≡ utf8_from sequences (tails l.n) (drop (l.i + 1) l.s))

abbrev pub decreases-loop-left : goal.decreases-loop-left
decreases-loop-left l = l.left
