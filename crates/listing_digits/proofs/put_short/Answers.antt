-- `listing_digits::put_short` meets its contract. Assumes nothing.
use mathlib.Core.Path.{sym, ap, ◌∙◌}
use Prim.Native.Nat.{◌+◌, ◌/◌, ◌%◌}
use native.Mathlib.Omega.{arith}
use lib.ListN.{length, length-set}
use Rattle.wire.specs.Wire.{splice}
use Rattle.wire.proofs.Splices.{splice-set, splice-cons}
use Rattle.listing_digits.specs.Digits.{digit}
use Rattle.listing_digits.specs.Inner.{pair_of}
use Rattle.listing_digits.proofs.Decimals.{decimal-small, decimal-some, length-pair, length-fours, short-two, short-three, short-four}
use Rattle.listing_digits.proofs.put_short.Goals as goal

pub bounds-out-at : goal.bounds-out-at
bounds-out-at c = omega (arith, decimal-some c.args.n)

pub returns-then-n-lt10 : goal.returns-then-n-lt10
unfolding digit
returns-then-n-lt10 c =
    let a = c.args in
    splice-set a.out.now a.at (0x30 + a.n) ∙ ap (splice a.out.now a.at) (sym (decimal-small a.n c.if-n-lt10.true))

pub put_pair-requires : goal.put_pair-requires
put_pair-requires c =
    let a = c.args in
    let e = short-two a.n (omega arith) (omega arith) in
    (omega arith, omega (arith, ap length e, length-pair a.n))

pub returns-then-n-lt100 : goal.returns-then-n-lt100
returns-then-n-lt100 c =
    let a = c.args in
    c.put_pair.ensures ∙ ap (splice a.out.now a.at) (short-two a.n c.if-n-lt10.false c.if-n-lt100.true)

pub bounds-out-at-then-n-lt1000 : goal.bounds-out-at-then-n-lt1000
bounds-out-at-then-n-lt1000 c = omega (arith, decimal-some c.args.n)

pub put_pair-requires-then-n-lt1000 : goal.put_pair-requires-then-n-lt1000
put_pair-requires-then-n-lt1000 c =
    let a = c.args in
    let e = short-three a.n (omega arith) (omega arith) in
    (omega arith, simp length-set (omega (arith, ap length e, length-pair (a.n % 100))))

pub shape_of-out-then-n-lt1000 : goal.shape_of-out-then-n-lt1000
shape_of-out-then-n-lt1000 c = let a = c.args in omega (
  arith,
  length-set a.out.now a.at (0x30 + a.n / 100),
)

pub returns-then-n-lt1000 : goal.returns-then-n-lt1000
unfolding digit
returns-then-n-lt1000 c =
    let a = c.args in
    c.put_pair-then-n-lt1000.ensures ∙ splice-cons a.out.now a.at (0x30 + a.n / 100) (pair_of (a.n % 100))
    ∙ ap (splice a.out.now a.at) (short-three a.n c.if-n-lt100.false c.if-n-lt1000.true)

pub put_four-requires : goal.put_four-requires
put_four-requires c =
    let a = c.args in
    let e = short-four a.n (omega arith) (omega arith) in
    (omega arith, omega (arith, ap length e, length-fours a.n))

pub returns : goal.returns
returns c =
    let a = c.args in
    c.put_four.ensures ∙ ap (splice a.out.now a.at) (short-four a.n c.if-n-lt1000.false (omega arith))
