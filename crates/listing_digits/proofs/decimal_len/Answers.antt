-- `listing_digits::decimal_len` meets its contract. The loop's invariant: what was counted and the digits of what is left are the number's. Assumes nothing.
use native.Mathlib.Omega.{arith}
use Rattle.listing_digits.proofs.Decimals.{length-four, decimal-short}
use Rattle.listing_digits.proofs.decimal_len.Goals as goal

pub overflow_add-k : goal.overflow_add-k
overflow_add-k c = omega (arith, decimal-short c.args.n)

pub loop-x-preserved : goal.loop-x-preserved
loop-x-preserved c = (omega arith, omega (arith, length-four c.loop-x.x c.loop-x-test.true (omega arith)))

pub overflow_add-result : goal.overflow_add-result
overflow_add-result c = omega (arith, c.short_len.ensures, decimal-short c.args.n)

pub returns : goal.returns
returns c = omega (arith, c.short_len.ensures)
