-- `valid`: what follows the place reached decides the whole text. Assumes nothing.
use borrow.Author.Rules.{rules}
use native.Mathlib.Omega.{arith}
use mathlib.Core.Path.{refl, sym, ◌∙◌}
use Rattle.utf8.proofs.Steps.{end-right}
use Rattle.utf8.proofs.valid.Goals as goal

pub loop-i-init : goal.loop-i-init
loop-i-init c = (search rules, refl)

pub returns-then-next-eq0 : goal.returns-then-next-eq0
returns-then-next-eq0 c = sym (c.past_sequences-next.ensures.none (search rules)) ∙ c.loop-i.invariant.1

pub loop-i-smaller : goal.loop-i-smaller
loop-i-smaller c = omega (arith, (c.past_sequences-next.ensures.past (search rules)).0)

pub loop-i-preserved : goal.loop-i-preserved
loop-i-preserved c = (search rules, (c.past_sequences-next.ensures.past (search rules)).1 ∙ c.loop-i.invariant.1)

pub returns : goal.returns
returns c = end-right c.args.s.now c.loop-i.i (search rules) ∙ c.loop-i.invariant.1
