-- `listing_digits::put_hex` meets its contract. Assumes nothing.
use Rattle.listing_digits.proofs.Hex.{hex-start, hex-untouched, hex-turn, hex-put, hex-end}
use native.Mathlib.Omega.{arith}
use borrow.Author.Rules.{rules}
use Rattle.listing_digits.proofs.put_hex.Goals as goal

pub loop-i-init : goal.loop-i-init
loop-i-init c =
    let a = c.args in
    (search rules, (hex-start a.out.now a.at a.width a.n, hex-untouched a.out.now a.at a.width a.n))

pub loop-i-preserved : goal.loop-i-preserved
loop-i-preserved c =
    let a = c.args in
    let v = c.loop-i.invariant in
    let h = c.loop-i-test.true in (
      search rules,
      (
        hex-turn a.out.now a.at a.width a.n c.loop-i.i c.loop-i.x v.1.0 h,
        hex-put a.out.now a.at a.width a.n c.loop-i.i c.loop-i.x v.1.0 _ _ _ h v.1.1 c.hex_digit.ensures
            c.put_one.ensures,
      ),
    )

pub returns : goal.returns
returns c =
    let a = c.args in
    hex-end a.out.now a.at a.width a.n _ c.loop-i.i (omega (arith, c.loop-i-test.false)) c.loop-i.invariant.1.1
