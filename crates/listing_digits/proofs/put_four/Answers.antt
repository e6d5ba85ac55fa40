-- `listing_digits::put_four` meets its contract. Assumes nothing.
use mathlib.Core.Path.{ap, ◌∙◌}
use native.Mathlib.Omega.{arith}
use lib.ListN.{length-set}
use Rattle.wire.specs.Wire.{splice}
use Rattle.listing_digits.proofs.Decimals.{four-stores}
use Rattle.listing_digits.proofs.Fours.{le_is}
use Rattle.listing_digits.proofs.put_four.Goals as goal

pub bounds-out-at-2 : goal.bounds-out-at-2
bounds-out-at-2 c = simp length-set (omega arith)

pub bounds-out-at-3 : goal.bounds-out-at-3
bounds-out-at-3 c = simp length-set (omega arith)

pub bounds-out-at-4 : goal.bounds-out-at-4
bounds-out-at-4 c = simp length-set (omega arith)

pub returns : goal.returns
returns c =
    let a = c.args in
    four-stores a.out.now a.at _ _ _ _ ∙ ap (splice a.out.now a.at) (le_is c.four_digits-w.result ∙ c.four_digits-w.ensures)
