-- `misfits`: where no byte so far misfits, each of them fits. Assumes nothing.
use borrow.Author.Rules.{rules}
use native.Mathlib.Omega.{arith}
use Rattle.utf8.proofs.Windows.{or-false, fitting-none, fitting-more}
use Rattle.utf8.proofs.misfits.Goals as goal

pub loop-k-init : goal.loop-k-init
loop-k-init c = (search rules, λ e. fitting-none _ _)

pub loop-k-preserved : goal.loop-k-preserved
loop-k-preserved c = (
  search rules,
  λ e.
      let b = or-false _ _ e in
      fitting-more _ _ _ (c.loop-k.invariant.1 b.0) (c.misfit-any.ensures b.1),
)

pub returns : goal.returns
returns c = λ e. record { each = λ j l. (c.loop-k.invariant.1 e).each j (omega arith) }
