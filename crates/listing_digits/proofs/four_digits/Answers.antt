-- `listing_digits::four_digits` meets its contract. Assumes nothing.
use mathlib.Core.Path.{refl}
use Prim.Native.Nat.{◌/◌, ◌%◌}
use native.Mathlib.Omega.{arith}
use Rattle.listing_digits.proofs.Fours.{tens, four_bytes}
use Rattle.listing_digits.proofs.four_digits.Goals as goal

pub overflow_mul-result-2 : goal.overflow_mul-result-2
overflow_mul-result-2 c = let r = c.args.r in omega (arith, tens (r / 100) (r % 100) (omega arith) (omega arith))

pub overflow_sub-result : goal.overflow_sub-result
overflow_sub-result c = let r = c.args.r in omega (arith, tens (r / 100) (r % 100) (omega arith) (omega arith))

pub returns : goal.returns
returns c = let r = c.args.r in four_bytes r _ _ (omega arith) (tens (r / 100) (r % 100) (omega arith) (omega arith)) refl
