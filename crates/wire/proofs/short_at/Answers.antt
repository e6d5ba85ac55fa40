use native.Mathlib.Omega.{arith}
use Prim.Native.Nat.{◌+◌, ◌-◌, ◌^◌, ◌<◌}
use mathlib.Core.Path.{◌≡◌, sym, ◌∙◌}
use Rattle.wire.proofs.Numbers.{le_at-zero, le_at-less, short-turn, short-end}
use borrow.Author.Rules.{rules}
use Rattle.wire.proofs.short_at.Goals.{In-loop-n}
use Rattle.wire.proofs.short_at.Goals as goal

-- what was read so far leaves room for one byte more
small : (c : In-loop-n) → c.loop-n.v < 256 ^ 7
small c =
    let a = c.args in
    let h = le_at-less (c.min-m.result - c.loop-n.n) 7 a.s.now (a.at + c.loop-n.n) (omega arith)
    (λ k. omega (arith, c.shared_slice_known-1.given k)) in
    omega (arith, h, c.loop-n.invariant.1)

pub loop-n-init : goal.loop-n-init
loop-n-init c = (search rules, let e : c.min-m.result - c.min-m.result ≡ 0 = omega arith in rw e (sym (le_at-zero _ _)))

pub overflow_mul-v : goal.overflow_mul-v
overflow_mul-v c = let h = small (goal.at.overflow_mul-v c).In-loop-n in omega arith

pub overflow_add-v : goal.overflow_add-v
overflow_add-v c = let h = small (goal.at.overflow_add-v c).In-loop-n in omega arith

pub loop-n-preserved : goal.loop-n-preserved
loop-n-preserved c =
    let a = c.args in
    (search rules, omega (arith, short-turn a.s.now a.at c.min-m.result c.loop-n.n (omega arith) (omega arith), c.loop-n.invariant.1))

pub returns : goal.returns
returns c =
    let a = c.args in
    c.loop-n.invariant.1 ∙ short-end a.w a.s.now a.at c.min-m.result c.loop-n.n (omega arith) (omega arith)
