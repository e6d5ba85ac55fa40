-- `listing_digits::signed_len` meets its contract. Assumes nothing.
use mathlib.Core.Path.{sym, ap, ◌∙◌}
use lib.ListN.{length}
use Prim.Native.Nat.{ℕ, ◌+◌}
use mir.Syntax.{w64}
use mir.ValLaws.{to_z-of_z}
use native.Mathlib.Numerals.{add-one}
use native.Mathlib.Omega.{arith}
use Rattle.listing_digits.specs.Digits.{decimal_of, magnitude_of}
use Rattle.listing_digits.proofs.Signs.{below, above}
use Rattle.listing_digits.proofs.Decimals.{decimal-short}
use Rattle.listing_digits.proofs.signed_len.Goals as goal

pub overflow_add-result : goal.overflow_add-result
overflow_add-result c = omega (arith, c.decimal_len-n.ensures, decimal-short c.magnitude.result)

pub returns-then-z-lt0 : goal.returns-then-z-lt0
returns-then-z-lt0 c =
    let b = below c.args.z c.ranges.z c.if-z-lt0.true in
    let e = c.magnitude.ensures ∙ ap magnitude_of (to_z-of_z w64 c.args.z c.ranges.z) in
    ap (λ (k : ℕ). k + 1) (c.decimal_len-n.ensures ∙ ap (λ (n : ℕ). length (decimal_of n)) e) ∙ add-one _ ∙ sym (ap length b.shown)

pub returns : goal.returns
returns c =
    let b = above c.args.z c.ranges.z c.if-z-lt0.false in
    let e = c.magnitude.ensures ∙ ap magnitude_of (to_z-of_z w64 c.args.z c.ranges.z) in
    c.decimal_len-n.ensures ∙ ap (λ (n : ℕ). length (decimal_of n)) e ∙ sym (ap length b.shown)
