-- `last_end`: the windows up to the place reached are windows still. Assumes nothing.
use borrow.Author.Tests.{not-true}
use native.Mathlib.Omega.{arith}
use Rattle.utf8.proofs.Steps.{passed_none}
use Rattle.utf8.proofs.Windows.{windows-less}
use Rattle.utf8.proofs.Runs.{windows-passed}
use Rattle.utf8.proofs.last_end.Goals as goal

pub loop-k-init : goal.loop-k-init
loop-k-init c = c.requires.1

pub returns-then-not-goes_on : goal.returns-then-not-goes_on
returns-then-not-goes_on c =
    windows-passed _ _ _ c.requires.0 c.loop-k.invariant (c.goes_on.ensures (not-true _ (search)))

pub loop-k-preserved : goal.loop-k-preserved
loop-k-preserved c = windows-less _ _ _ _ c.loop-k.invariant (omega arith) (omega arith)

pub returns : goal.returns
returns c = passed_none _ _ (omega (arith, c.loop-k.invariant.within, c.loop-k.invariant.from))

pub goes_on-requires : goal.goes_on-requires
goes_on-requires c = c.loop-k.invariant.within
