-- `or_bytes`: where the bytes so far, or-ed, are below 80 hex, each of them is. Assumes nothing.
use borrow.Author.Rules.{rules}
use native.Mathlib.Omega.{arith}
use Rattle.utf8.proofs.Steps.{low-none, low-more, or-low}
use Rattle.utf8.proofs.or_bytes.Goals as goal

pub loop-k-init : goal.loop-k-init
loop-k-init c = (search rules, λ e. low-none _ _)

pub loop-k-preserved : goal.loop-k-preserved
loop-k-preserved c = (search rules, λ e. let b = or-low _ _ e in low-more _ _ _ (c.loop-k.invariant.1 b.0) b.1)

pub returns : goal.returns
returns c = λ e. record { below = λ j l. (c.loop-k.invariant.1 e).below j (omega arith) }
