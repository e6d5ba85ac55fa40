use native.Mathlib.Omega.{arith}
use mathlib.Core.Path.{sym}
use borrow.Author.Tests.{eq-eqb, ne_eqb}
use Rattle.wire.proofs.Numbers.{le_at-zero, zero_more, zero-not, zero-end}
use borrow.Author.Rules.{rules}
use Rattle.wire.proofs.zero_at.Goals as goal

pub loop-i-init : goal.loop-i-init
loop-i-init c = (search rules, le_at-zero _ _)

pub returns-then-s-at-ne0 : goal.returns-then-s-at-ne0
returns-then-s-at-ne0 c =
    let a = c.args in
    sym (ne_eqb _ _ (zero-not c.loop-i.i a.n a.s.now a.at (omega arith) c.if-s-at-ne0.true))

pub loop-i-preserved : goal.loop-i-preserved
loop-i-preserved c =
    let a = c.args in
    (search rules, zero_more c.loop-i.i a.s.now a.at c.loop-i.invariant.1 c.if-s-at-ne0.false)

pub returns : goal.returns
returns c =
    let a = c.args in
    sym (eq-eqb _ _ (zero-end c.loop-i.i a.n a.s.now a.at (omega arith) c.loop-i.invariant.1))
