-- `listing_digits::put_fitting` meets its contract. Assumes nothing.
use native.Mathlib.Omega.{arith}
use Rattle.listing_digits.specs.Digits.{decimal_of}
use Rattle.listing_digits.proofs.Fitting.{put-none, put_all}
use Rattle.listing_digits.proofs.put_fitting.Goals as goal

pub returns-then-out-at : goal.returns-then-out-at
returns-then-out-at c = let a = c.args in put-none (decimal_of a.n) a.out.now a.at (omega arith)

pub returns-then-out-at-2 : goal.returns-then-out-at-2
returns-then-out-at-2 c =
    let a = c.args in
    put-none (decimal_of a.n) a.out.now a.at (omega (arith, c.decimal_len-k.ensures))

pub returns : goal.returns
returns c =
    let a = c.args in
    put_all (decimal_of a.n) a.out.now a.at _ _ (omega (arith, c.decimal_len-k.ensures)) c.decimal_len-k.ensures c.put_digits.ensures
