-- `listing_digits::put_one` meets its contract. Assumes nothing.
use mathlib.Core.Path.{sym}
use native.Mathlib.Omega.{arith}
use Rattle.wire.proofs.Splices.{splice-set, splice-past}
use Rattle.listing_digits.proofs.put_one.Goals as goal

pub returns-then-i-out : goal.returns-then-i-out
returns-then-i-out c = splice-set _ _ _

pub returns-else-i-out : goal.returns-else-i-out
returns-else-i-out c = sym (splice-past _ _ _ (omega arith))

pub returns-else-at-out : goal.returns-else-at-out
returns-else-at-out c = sym (splice-past _ _ _ (omega arith))
