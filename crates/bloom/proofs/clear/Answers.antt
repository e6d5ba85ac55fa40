-- `clear` meets its contract. The invariant: the first i elements are 0. Assumes nothing.
use Prim.Native.Nat.{ℕ}
use mathlib.Core.Path.{refl, ap, ◌∙◌}
use mathlib.Core.List.{List}
use native.Mathlib.Omega.{arith}
use lib.ListN.{set}
use borrow.Author.Fill.{fill_none, fill_more}
use Rattle.bloom.proofs.Marks.{all-cleared}
use borrow.Author.Rules.{rules}
use Rattle.bloom.proofs.clear.Goals as goal

pub loop-i-init : goal.loop-i-init
loop-i-init c = (fill_none _ 0, refl, omega arith)

pub loop-i-preserved : goal.loop-i-preserved
loop-i-preserved c =
    let f = c.args.filter.now in
    let i = c.loop-i.i in
    (ap (λ (t : List ℕ). set t i 0) c.loop-i.invariant.0 ∙ fill_more i 0 f (omega arith), search rules, omega arith)

pub returns : goal.returns
returns c =
    c.loop-i.invariant.0 ∙ all-cleared c.args.filter.now c.loop-i.i (omega arith) (omega arith)
