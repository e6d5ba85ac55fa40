-- `listing_digits::put_digits` meets its contract. The loop's invariant: what is left of the number, put at its place, gives all of it. Assumes nothing.
use mathlib.Core.Path.{◌∙◌}
use native.Mathlib.Omega.{arith}
use borrow.Author.Rules.{rules}
use Rattle.listing_digits.proofs.Decimals.{digits-all, digits-four, four-left}
use Rattle.listing_digits.proofs.put_digits.Goals as goal

pub loop-x-init : goal.loop-x-init
loop-x-init c = digits-all _ _ _ _ (search rules) (search rules) (omega arith)

pub overflow_sub-i : goal.overflow_sub-i
overflow_sub-i c = let h = four-left _ _ _ _ _ _ c.loop-x.invariant c.loop-x-test.true in omega arith

pub put_four-requires : goal.put_four-requires
put_four-requires c =
    let v = c.loop-x.invariant in
    let h = four-left _ _ _ _ _ _ v c.loop-x-test.true in
    (omega arith, omega (arith, v.size, v.room))

pub overflow_sub-i-in-loop-x : goal.overflow_sub-i-in-loop-x
overflow_sub-i-in-loop-x c =
    let h = four-left _ _ _ _ _ _ c.loop-x.invariant c.loop-x-test.true in
    omega arith

pub loop-x-preserved : goal.loop-x-preserved
loop-x-preserved c =
    digits-four _ _ _ _ _ _ c.loop-x.invariant c.loop-x-test.true _ c.put_four.ensures

pub put_short-requires : goal.put_short-requires
put_short-requires c = let v = c.loop-x.invariant in (omega arith, omega (arith, v.ends, v.room, v.size))

pub shape_of-out : goal.shape_of-out
shape_of-out c = let v = c.loop-x.invariant in omega (arith, v.size)

pub returns : goal.returns
returns c = c.put_short.ensures ∙ c.loop-x.invariant.rest
