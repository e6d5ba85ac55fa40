-- `crc32_fold::fold_chunk` meets its contract. Assumes nothing.
use mathlib.Core.Path.{◌≡◌, sym, ap, ◌∙◌}
use Prim.Native.Nat.{ℕ, ◌+◌}
use native.Mathlib.Nat.{add-zero, sub-zero}
use native.Mathlib.Omega.{arith}
use lib.ListN.{take, drop, length-set}
use Rattle.crc32_fold.specs.Fold.{near}
use Rattle.crc32_fold.proofs.Window.{near_byte, fold-turn, fold_end}
use Rattle.crc32_fold.proofs.Fold.{near-below}
use borrow.Author.Rules.{rules}
use Rattle.crc32_fold.proofs.fold_chunk.Goals as goal

pub loop-i-init : goal.loop-i-init
loop-i-init c = (search rules, (search rules, rw (sub-zero, add-zero)))

pub loop-i-preserved : goal.loop-i-preserved
loop-i-preserved c =
    let l = c.loop-i in
    let a = c.args in (
      search rules,
      (
        simp length-set l.invariant.1.0,
        fold-turn near 299 near-below l.window a.s.now a.at l.i (omega arith) a.n _ (omega arith)
            (near_byte l.window a.s.now a.at l.i) ∙ l.invariant.1.1,
      ),
    )

pub returns : goal.returns
returns c =
    let l = c.loop-i in
    let a = c.args in
    let e : a.n ≡ l.i = omega arith in (
      l.invariant.1.0,
      ap (λ (k : ℕ). take 300 (drop k l.window)) e
          ∙ sym (fold_end near a.n l.i (take 300 (drop l.i l.window)) (drop (a.at + l.i) a.s.now)
          (omega arith)) ∙ l.invariant.1.1,
    )
