use native.Mathlib.Omega.{arith}
use mathlib.Core.Path.{sym, ◌∙◌}
use Rattle.wire.proofs.Compares.{part-short, rest-agrees, rest-differs, rest-none}
use Rattle.wire.proofs.same_at.Goals as goal

pub returns-then-saturating_sub-xs : goal.returns-then-saturating_sub-xs
returns-then-saturating_sub-xs c =
    let a = c.args in
    sym (part-short a.s.now a.at a.xs.now (omega arith))

pub agreeing_words-i-requires : goal.agreeing_words-i-requires
agreeing_words-i-requires c = omega arith

pub loop-i-init : goal.loop-i-init
loop-i-init c = c.agreeing_words-i.ensures

pub returns-then-s-at : goal.returns-then-s-at
returns-then-s-at c =
    let a = c.args in
    sym (rest-differs a.s.now a.at a.xs.now c.loop-i.i (omega arith) (omega arith) c.if-s-at.true) ∙ c.loop-i.invariant.rest

pub loop-i-preserved : goal.loop-i-preserved
loop-i-preserved c =
    let a = c.args in
    record {
      within = omega arith;
      rest = rest-agrees a.s.now a.at a.xs.now c.loop-i.i (omega arith) (omega arith) c.if-s-at.false ∙ c.loop-i.invariant.rest;
    }

pub returns : goal.returns
returns c =
    let a = c.args in
    sym (rest-none a.s.now a.at a.xs.now c.loop-i.i (omega arith)) ∙ c.loop-i.invariant.rest
