-- `listing_digits::put_negative` meets its contract. Assumes nothing.
use mathlib.Core.Path.{sym, ap, ◌∙◌}
use mathlib.Core.List.{List, [], ◌∷◌}
use Prim.Native.Nat.{ℕ, ◌+◌}
use native.Mathlib.Omega.{arith}
use Rattle.wire.specs.Wire.{le, splice}
use Rattle.wire.proofs.Splices.{splice-join, splice-past}
use Rattle.listing_digits.specs.Digits.{decimal_of}
use Rattle.listing_digits.proofs.put_negative.Goals as goal

pub returns-then-at-out : goal.returns-then-at-out
unfolding le
returns-then-at-out c =
    let a = c.args in
    c.put_decimal.ensures ∙ ap (λ (m : List ℕ). splice m (a.at + 1) (decimal_of a.n)) c.put_u8.ensures
    ∙ splice-join a.out.now (0x2D ∷ []) (decimal_of a.n) a.at

pub returns-else-at-out : goal.returns-else-at-out
returns-else-at-out c = sym (splice-past _ _ _ (omega arith))
