use native.Mathlib.Omega.{arith}
use mathlib.Core.Path.{refl, sym, ◌∙◌}
use native.Mathlib.Nat.{add-zero}
use lib.ListN.{length-set}
use Rattle.wire.proofs.Splices.{copy-turn, copy-end}
use borrow.Author.Rules.{rules}
use Rattle.wire.proofs.copy_at.Goals as goal

pub loop-i-init : goal.loop-i-init
loop-i-init c = (search rules, refl, rw add-zero)

pub bounds-out-at : goal.bounds-out-at
bounds-out-at c = omega arith

pub loop-i-preserved : goal.loop-i-preserved
loop-i-preserved c =
    let a = c.args in (
      search rules,
      simp length-set c.loop-i.invariant.1,
      copy-turn c.loop-i.out a.from.now a.at c.loop-i.i 0 (omega arith) ∙ c.loop-i.invariant.2,
    )

pub returns : goal.returns
returns c =
    let a = c.args in
    sym (copy-end c.loop-i.out a.from.now a.at c.loop-i.i (omega arith)) ∙ c.loop-i.invariant.2
