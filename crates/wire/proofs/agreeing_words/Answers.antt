use native.Mathlib.Omega.{arith}
use Prim.Native.Nat.{◌+◌}
use mathlib.Core.Path.{sym, ◌∙◌}
use Rattle.wire.proofs.Numbers.{le_at-same}
use Rattle.wire.proofs.Compares.{agreeing-none, rest-run}
use Rattle.wire.proofs.agreeing_words.Goals as goal

pub loop-i-init : goal.loop-i-init
loop-i-init c = agreeing-none _ _ _

pub returns-then-u64_at : goal.returns-then-u64_at
returns-then-u64_at c = c.loop-i.invariant

pub loop-i-preserved : goal.loop-i-preserved
loop-i-preserved c =
    let a = c.args in
    let s = a.s.now in
    let xs = a.xs.now in
    let e = sym c.u64_at.ensures ∙ c.if-u64_at.false ∙ c.u64_at-in-loop-i.ensures in
    let f = le_at-same 8 s xs (a.at + c.loop-i.i) c.loop-i.i (λ k. omega (arith, c.shared_slice_known-1.given k))
    (λ k. omega (arith, c.shared_slice_known-2-1.given k)) e in
    record { within = omega arith; rest = rest-run 8 s a.at xs c.loop-i.i (omega arith) (omega arith) f ∙ c.loop-i.invariant.rest }

pub returns : goal.returns
returns c = c.loop-i.invariant
