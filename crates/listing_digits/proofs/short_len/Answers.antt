-- `listing_digits::short_len` meets its contract. Assumes nothing.
use native.Mathlib.Omega.{arith}
use Rattle.listing_digits.proofs.Decimals.{length-one, length_more}
use Rattle.listing_digits.proofs.short_len.Goals as goal

pub returns-then-x-lt10 : goal.returns-then-x-lt10
returns-then-x-lt10 c = length-one _ (omega arith)

pub returns-then-x-lt100 : goal.returns-then-x-lt100
returns-then-x-lt100 c = length_more _ 1 (omega arith) (omega arith) (length-one _ (omega arith))

pub returns-then-x-lt1000 : goal.returns-then-x-lt1000
returns-then-x-lt1000 c = length_more _ 2 (omega arith) (omega arith) (length_more _ 1 (omega arith) (omega arith) (length-one _ (omega arith)))

pub returns : goal.returns
returns c =
    length_more _ 3 (omega arith) (omega arith)
    (length_more _ 2 (omega arith) (omega arith) (length_more _ 1 (omega arith) (omega arith) (length-one _ (omega arith))))
