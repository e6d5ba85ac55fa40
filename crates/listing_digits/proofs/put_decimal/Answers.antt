-- `listing_digits::put_decimal` meets its contract. Assumes nothing.
use mathlib.Core.Path.{sym, ap, ◌∙◌}
use native.Mathlib.Omega.{arith}
use lib.ListN.{length}
use Rattle.wire.specs.Wire.{splice}
use Rattle.listing_digits.proofs.Decimals.{decimal-short}
use Rattle.listing_digits.proofs.Fitting.{put-sure, put_front}
use Rattle.listing_digits.proofs.put_decimal.Goals as goal

pub slice_bounds-digits-end : goal.slice_bounds-digits-end
slice_bounds-digits-end c =
    let n = c.args.n in
    omega (arith, (put-sure _ _ _ _ _ c.put_fitting-k.ensures (omega (arith, decimal-short n))).0, decimal-short n)

pub slice_bounds-copy_at-end : goal.slice_bounds-copy_at-end
slice_bounds-copy_at-end c =
    let n = c.args.n in
    let h = c.put_fitting-k.ensures in
    (put-sure _ _ _ _ _ h (omega (arith, decimal-short n))).0 ∙ sym (ap length (put_front _ _ _ _ h (omega (arith, decimal-short n))))

pub returns : goal.returns
returns c =
    let a = c.args in
    c.copy_at.ensures ∙ ap (splice a.out.now a.at) (put_front _ _ _ _ c.put_fitting-k.ensures (omega (arith, decimal-short a.n)))
