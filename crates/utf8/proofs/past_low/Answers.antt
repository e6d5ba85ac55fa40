-- `past_low`: only bytes below 80 hex stand between the start and the place reached. Assumes nothing.
use borrow.Author.Rules.{rules}
use native.Mathlib.Omega.{arith}
use Rattle.utf8.proofs.Steps.{passed_none, passed-more}
use Rattle.utf8.proofs.past_low.Goals as goal

pub loop-i-init : goal.loop-i-init
loop-i-init c = passed_none _ _ (search rules)

pub returns-then-or_bytes-ge128 : goal.returns-then-or_bytes-ge128
returns-then-or_bytes-ge128 c = c.loop-i.invariant

pub loop-i-preserved : goal.loop-i-preserved
loop-i-preserved c = passed-more _ _ _ c.loop-i.invariant _ (c.or_bytes.ensures (search rules)) (omega arith)

pub returns : goal.returns
returns c = c.loop-i.invariant
