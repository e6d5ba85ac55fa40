-- `encode_at` meets its contract: the form of what is left, laid over what is written so far, gives the whole. Assumes nothing.
use mathlib.Core.Path.{◌≡◌}
use Prim.Native.Nat.{◌≤◌}
use lib.ListN.{length}
use Rattle.wire.specs.Wire.{splice}
use Rattle.varint.specs.Varint.{encode}
use Rattle.varint.proofs.encode_at.Given as goal

abbrev pub invariant-loop-x : goal.invariant-loop-x
invariant-loop-x l = (length l.out ≡ length l.initial.out) × (l.x ≤ l.v) × (splice l.out l.p (encode l.x) ≡ splice l.initial.out l.at (encode l.v))

abbrev pub decreases-loop-x : goal.decreases-loop-x
decreases-loop-x l = l.x
