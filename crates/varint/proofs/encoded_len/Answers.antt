-- `encoded_len` meets its contract: it works out `written_length`. Assumes nothing.
use borrow.Author.Rules.{rules}
use native.Mathlib.Omega.{arith}
use lib.Count.{leading_le}
use Rattle.varint.proofs.Lengths.{written-length, written_one, written-more}
use Rattle.varint.proofs.encoded_len.Goals as goal

pub overflow_cast-bits : goal.overflow_cast-bits
overflow_cast-bits c = omega (arith, leading_le 64 c.args.v)

pub overflow_sub-bits : goal.overflow_sub-bits
overflow_sub-bits c = leading_le 64 _

pub returns-then-bits-le7 : goal.returns-then-bits-le7
returns-then-bits-le7 c =
    let v = c.args.v in
    omega (arith, written_one v (search rules) (search rules), written-length v (search rules))

pub returns : goal.returns
returns c =
    let v = c.args.v in
    omega (arith, written-more v (search rules), written-length v (search rules))
