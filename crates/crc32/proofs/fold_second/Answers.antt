-- `crc32::fold_second` meets its contract. Assumes nothing.
use mathlib.Core.Path.{◌≡◌, refl, ◌∙◌}
use Prim.Native.Nat.{◌+◌, ◌-◌}
use native.Mathlib.Omega.{arith}
use lib.ListN.{drop, length-set}
use Rattle.crc32.proofs.Ring.{carry-second, ring-turn, ring-end}
use borrow.Author.Rules.{rules}
use Rattle.crc32.proofs.fold_second.Goals as goal

pub loop-k-init : goal.loop-k-init
loop-k-init c =
    let a = c.args in
    let e : a.at + (a.i - a.i) ≡ a.at = omega arith in
    (search rules, search rules, search rules, rw e refl)

pub loop-k-preserved : goal.loop-k-preserved
loop-k-preserved c =
    let l = c.loop-k in
    let a = c.args in (
      search rules,
      omega arith,
      simp length-set l.invariant.2,
      ring-turn 2181 l.k a.i a.at _ l.ring a.s.now (omega arith) (omega arith) l.invariant.0
          (carry-second l.ring l.k l.invariant.2 (omega arith) (omega arith)) ∙ l.invariant.3,
    )

pub returns : goal.returns
returns c =
    let l = c.loop-k in
    let a = c.args in (
      l.invariant.2,
      ring-end 2181 l.k a.i l.ring (drop (a.at + (l.k - a.i)) a.s.now) _ (omega arith)
          (omega arith) l.invariant.3,
    )
