-- `listing_digits::put_digits` meets its contract. The loop's invariant: what is left of the number, put at its place, gives all of it. Assumes nothing.
use Rattle.listing_digits.proofs.Decimals.{Digits}
use Rattle.listing_digits.proofs.put_digits.Given as goal

abbrev pub invariant-loop-x : goal.invariant-loop-x
invariant-loop-x l = Digits l.n l.initial.out l.at l.out l.i l.x

abbrev pub decreases-loop-x : goal.decreases-loop-x
decreases-loop-x l = l.x
