-- `listing_digits::put_byte` meets its contract. Assumes nothing.
use mathlib.Core.Path.{◌∙◌, ap, sym}
use mathlib.Core.Bool.{Bool}
use native.Mathlib.Omega.{arith}
use borrow.Author.Rules.{rules}
use Rattle.wire.specs.Wire.{splice}
use Rattle.listing_digits.specs.Digits.{byte_of}
use Rattle.listing_digits.proofs.Fours.{le_four}
use Rattle.listing_digits.proofs.Hex.{hex-byte, shown-byte}
use Rattle.listing_digits.proofs.put_byte.Goals as goal

pub returns-then-shown : goal.returns-then-shown
returns-then-shown c =
    let a = c.args in
    c.copy_at.ensures ∙ ap (splice a.out.now a.at) (shown-byte a.b ∙ ap (λ (s : Bool). byte_of s a.b) (sym c.if-shown.true))

pub returns : goal.returns
returns c =
    let a = c.args in
    c.put_u32.ensures
    ∙ ap (splice a.out.now a.at)
    (le_four 0x5C 0x78 c.wide32-high.result c.wide32-low.result _ (omega arith) (omega arith) c.wide32-high.ensures.1 c.wide32-low.ensures.1 (omega arith)
    ∙ hex-byte a.b _ _ (search rules) (c.wide32-high.ensures.0 ∙ c.hex_digit.ensures) (c.wide32-low.ensures.0 ∙ c.hex_digit-2.ensures)
    ∙ ap (λ (s : Bool). byte_of s a.b) (sym c.if-shown.false))
