-- `listing_digits::put_pair` meets its contract. Assumes nothing.
use native.Mathlib.Omega.{arith}
use lib.ListN.{length-set}
use Rattle.listing_digits.specs.Digits.{digit}
use Rattle.listing_digits.specs.Inner.{pair_of}
use Rattle.listing_digits.proofs.Decimals.{two-stores}
use Rattle.listing_digits.proofs.put_pair.Goals as goal

pub bounds-out-at-2 : goal.bounds-out-at-2
bounds-out-at-2 c = simp length-set (omega arith)

pub returns : goal.returns
unfolding pair_of digit
returns c = two-stores _ _ _ _
