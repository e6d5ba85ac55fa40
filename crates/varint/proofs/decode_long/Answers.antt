-- `decode_long` meets its contract: each turn of the loop keeps `Turn`, and there are at most eight. Assumes nothing.
use borrow.Author.Rules.{rules}
use native.Mathlib.Omega.{arith}
use mathlib.Core.Path.{◌≡◌}
use Prim.Native.Nat.{◌+◌, ◌-◌}
use Rattle.varint.proofs.Decoding.{turn-first, turn-group, turn-high, turn_end, turn_last, turn_more, turn-tenth, turn-long}
use Rattle.varint.proofs.decode_long.Goals as goal

pub loop-init : goal.loop-init
loop-init c = turn-first _ _ _ (search rules) (search rules) (omega (arith, c.type_inv.s c.args.at))

pub returns-then-s-p : goal.returns-then-s-p
returns-then-s-p c = turn_end c.loop.invariant (search rules)

pub overflow_mul-result : goal.overflow_mul-result
overflow_mul-result c = let f = turn-group c.loop.invariant c.from-b.result (search rules) (search rules) in omega arith

pub overflow_add-result : goal.overflow_add-result
overflow_add-result c = let f = turn-group c.loop.invariant c.from-b.result (search rules) (search rules) in omega arith

pub returns-then-b-lt128 : goal.returns-then-b-lt128
returns-then-b-lt128 c = turn_last c.loop.invariant _ (search rules) (search rules) (search rules) (search rules)

pub overflow_mul-value : goal.overflow_mul-value
overflow_mul-value c = let f = turn-group c.loop.invariant (c.from-b.result - 128) (search rules)
    (search rules) in omega arith

pub overflow_add-value : goal.overflow_add-value
overflow_add-value c = let f = turn-group c.loop.invariant (c.from-b.result - 128) (search rules)
    (search rules) in omega arith

pub overflow_mul-scale : goal.overflow_mul-scale
overflow_mul-scale c = let f = turn-group c.loop.invariant 0 (search rules) (search rules) in omega arith

pub loop-preserved : goal.loop-preserved
loop-preserved c =
    let q : 8 - (c.loop.counter + 1) ≡ 8 - c.loop.counter - 1 = omega arith in
    rw q (turn_more c.loop.invariant _ (search rules) (search rules) (search rules) (search rules) (search rules))

pub returns-then-s-p-2 : goal.returns-then-s-p-2
returns-then-s-p-2 c = turn_end c.loop.invariant (search rules)

pub returns-then-tenth-gt1 : goal.returns-then-tenth-gt1
returns-then-tenth-gt1 c = turn-long c.loop.invariant c.from-tenth.result (search rules) (search rules) (search rules)
    (search rules)

pub overflow_mul-result-2 : goal.overflow_mul-result-2
overflow_mul-result-2 c = let f = turn-high c.loop.invariant c.from-tenth.result (search rules) (search rules) in omega arith

pub overflow_add-result-2 : goal.overflow_add-result-2
overflow_add-result-2 c = let f = turn-high c.loop.invariant c.from-tenth.result (search rules) (search rules) in omega arith

pub returns : goal.returns
returns c = turn-tenth c.loop.invariant _ (search rules) (search rules) (search rules) (search rules)
