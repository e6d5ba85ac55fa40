-- `past_windows`: each byte between the start and the place reached fits. Assumes nothing.
use borrow.Author.Rules.{rules}
use native.Mathlib.Omega.{arith}
use Rattle.utf8.proofs.Windows.{windows-none, windows-more}
use Rattle.utf8.proofs.past_windows.Goals as goal

pub loop-i-init : goal.loop-i-init
loop-i-init c = windows-none _ _ (search rules)

pub returns-then-or_bytes-lt128 : goal.returns-then-or_bytes-lt128
returns-then-or_bytes-lt128 c = c.loop-i.invariant

pub returns-then-misfits : goal.returns-then-misfits
returns-then-misfits c = c.loop-i.invariant

pub loop-i-preserved : goal.loop-i-preserved
loop-i-preserved c =
    windows-more _ _ _ c.loop-i.invariant _ (c.misfits.ensures (search rules)) (omega arith)

pub returns : goal.returns
returns c = c.loop-i.invariant
