-- `crc32::add` meets its contract. Assumes nothing.
use mathlib.Core.Path.{refl}
use native.Mathlib.Omega.{arith}
use lib.ListN.{length-set}
use Rattle.crc32_fold.proofs.Window.{slide-rest}
use Rattle.crc32.proofs.Ring.{add_turn, add-end}
use borrow.Author.Rules.{rules}
use Rattle.crc32.proofs.add.Goals as goal

pub loop-i-init : goal.loop-i-init
loop-i-init c = (search rules, refl, refl, λ k l. absurd (omega arith))

pub loop-i-preserved : goal.loop-i-preserved
loop-i-preserved c =
    let l = c.loop-i in
    let a = c.args in (
      search rules,
      simp length-set l.invariant.1,
      slide-rest a.out.now l.out l.i 0 (omega arith) l.invariant.2 _,
      add_turn a.out.now l.out a.s.now l.i l.invariant.2 l.invariant.3 (omega arith),
    )

pub returns : goal.returns
returns c =
    let l = c.loop-i in
    let a = c.args in
    add-end a.out.now l.out a.s.now l.i l.invariant.2 l.invariant.3 l.invariant.1 (omega arith)
