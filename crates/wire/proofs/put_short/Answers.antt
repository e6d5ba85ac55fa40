use native.Mathlib.Omega.{arith}
use mathlib.Core.Path.{refl, sym, ◌∙◌}
use native.Mathlib.Nat.{add-zero, sub-zero}
use lib.ListN.{length-set}
use Rattle.wire.proofs.Stores.{put-turn, put-end}
use borrow.Author.Rules.{rules}
use Rattle.wire.proofs.put_short.Goals as goal

pub loop-i-init : goal.loop-i-init
loop-i-init c = (search rules, refl, rw (add-zero, sub-zero))

pub bounds-out-at : goal.bounds-out-at
bounds-out-at c = omega arith

pub loop-i-preserved : goal.loop-i-preserved
loop-i-preserved c =
    let a = c.args in (
      search rules,
      simp length-set c.loop-i.invariant.1,
      put-turn c.loop-i.out a.at c.loop-i.i a.w c.loop-i.x (omega arith) ∙ c.loop-i.invariant.2,
    )

pub returns : goal.returns
returns c =
    let a = c.args in
    sym (put-end c.loop-i.out a.at c.loop-i.i a.w c.loop-i.x (omega arith)) ∙ c.loop-i.invariant.2
