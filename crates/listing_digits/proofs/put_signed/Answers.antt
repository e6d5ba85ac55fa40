-- `listing_digits::put_signed` meets its contract. Assumes nothing.
use mathlib.Core.Path.{◌≡◌, ap, ◌∙◌}
use mir.Syntax.{w64}
use mir.ValLaws.{to_z-of_z}
use Rattle.listing_digits.specs.Digits.{magnitude_of}
use Rattle.listing_digits.proofs.Signs.{below, above}
use Rattle.listing_digits.proofs.put_signed.Goals as goal

pub returns-then-z-lt0 : goal.returns-then-z-lt0
returns-then-z-lt0 c =
    let b = below c.args.z c.ranges.z c.if-z-lt0.true in
    let m : c.magnitude.result ≡ magnitude_of c.args.z = c.magnitude.ensures ∙ ap magnitude_of (to_z-of_z w64 c.args.z c.ranges.z) in
    rw (b.shown, ← m) (cc)

pub returns : goal.returns
returns c =
    let b = above c.args.z c.ranges.z c.if-z-lt0.false in
    let m : c.magnitude-2.result ≡ magnitude_of c.args.z = c.magnitude-2.ensures ∙ ap magnitude_of (to_z-of_z w64 c.args.z c.ranges.z) in
    rw (b.shown, ← m) (cc)
