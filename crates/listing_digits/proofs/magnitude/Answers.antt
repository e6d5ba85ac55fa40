-- `listing_digits::magnitude` meets its contract. Assumes nothing.
use native.Mathlib.Omega.{arith}
use Rattle.listing_digits.proofs.Signs.{Below, below, Above, above}
use Rattle.listing_digits.proofs.magnitude.Goals.{Else-z-lt0, Then-z-lt0}
use Rattle.listing_digits.proofs.magnitude.Goals as goal

low : (c : Then-z-lt0) → Below c.args.z
low c = below c.args.z c.ranges.z c.if-z-lt0.true

high : (c : Else-z-lt0) → Above c.args.z
high c = above c.args.z c.ranges.z c.if-z-lt0.false

pub overflow_sub-result : goal.overflow_sub-result
overflow_sub-result c = (low (goal.at.overflow_sub-result c).Then-z-lt0).fits

pub overflow_cast-result : goal.overflow_cast-result
overflow_cast-result c = let b = low (goal.at.overflow_cast-result c).Then-z-lt0 in rw b.is (tt, record { fits = omega arith })

pub overflow_add-result : goal.overflow_add-result
overflow_add-result c = let b = low (goal.at.overflow_add-result c).Then-z-lt0 in rw b.is (omega arith)

pub returns-then-z-lt0 : goal.returns-then-z-lt0
returns-then-z-lt0 c = let b = low (goal.at.returns-then-z-lt0 c).Then-z-lt0 in rw b.is b.size

pub overflow_cast-result-2 : goal.overflow_cast-result-2
overflow_cast-result-2 c = let b = high (goal.at.overflow_cast-result-2 c).Else-z-lt0 in rw b.is (tt, record { fits = omega arith })

pub returns : goal.returns
returns c = let b = high (goal.at.returns c).Else-z-lt0 in rw b.is b.size
