-- `crc32_fold::slide` meets its contract. Assumes nothing.
use mathlib.Core.Path.{◌≡◌, refl}
use native.Mathlib.Omega.{arith}
use lib.ListN.{length-set}
use Rattle.crc32_fold.proofs.Window.{slide-turn, slide-rest}
use borrow.Author.Rules.{rules}
use Rattle.crc32_fold.proofs.slide.Goals as goal

pub returns-then-n-eq0 : goal.returns-then-n-eq0
returns-then-n-eq0 c =
    let e : c.args.n ≡ 0 = omega arith in
    (search rules, rw e refl)

pub loop-i-init : goal.loop-i-init
loop-i-init c = (search rules, search rules, refl, refl)

pub loop-i-preserved : goal.loop-i-preserved
loop-i-preserved c =
    let l = c.loop-i in
    let a = c.args in (
      search rules,
      simp length-set l.invariant.1,
      slide-rest a.window.now l.window l.i a.n (omega arith) l.invariant.2 _,
      slide-turn a.window.now l.window l.i a.n (omega arith) l.invariant.2 (omega arith) l.invariant.3,
    )

pub returns : goal.returns
returns c =
    let l = c.loop-i in
    let e : l.i ≡ 300 = omega arith in
    (l.invariant.1, rw e at l.invariant.3)
