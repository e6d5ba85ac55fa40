-- Laws of whole numbers with a sign. Assumes nothing.
use mathlib.Core.Path.{◌≡◌, refl, sym, ap, ◌∙◌, subst}
use mathlib.Core.Bool.{true, false}
use mathlib.Core.List.{◌∷◌}
use Prim.Native.Nat.{ℕ, suc, ◌+◌, ◌-◌, ◌^◌, ◌<◌}
use native.Mathlib.Omega.{arith}
use native.Mathlib.Numerals.{add-one}
use lib.IntN.{ℤ, pos, negsuc, ◌-ℤ◌}
use lib.Signed.{lt_z}
use mir.Val.{to_z, of_z, SFits}
use mir.ValLaws.{to_z-of_z}
use mir.Syntax.{w64}
use borrow.Author.Tests.{le-ltb, ltb-true}
use Rattle.listing_digits.specs.Digits.{decimal_of, magnitude_of, signed_of}

-- a number below 0 as the code has it, one nearer to 0 and without its sign
pub record Below (z : ℤ) : Type 0 where
  pub fits : SFits w64 (negsuc 0 -ℤ to_z w64 (of_z w64 z))
  pub n : ℕ
  pub is : to_z w64 (of_z w64 (negsuc 0 -ℤ to_z w64 (of_z w64 z))) ≡ pos n
  pub small : n < 2 ^ 63
  pub size : n + 1 ≡ magnitude_of z
  pub shown : signed_of z ≡ 0x2D ∷ decimal_of (magnitude_of z)

pub below : (z : ℤ) → SFits w64 z → lt_z (to_z w64 (of_z w64 z)) (pos 0) ≡ true → Below z
unfolding magnitude_of signed_of
below (pos a) f t = absurd (omega (arith, ltb-true a 0 (ap (λ (y : ℤ). lt_z y (pos 0)) (sym (to_z-of_z w64 (pos a) f)) ∙ t)))
below (negsuc a) f t =
    let e : suc a - 1 ≡ a = omega arith in
    let s : negsuc 0 -ℤ negsuc a ≡ pos a = rw (le-ltb (suc a) 1 (omega arith), e) in
    let x : negsuc 0 -ℤ to_z w64 (of_z w64 (negsuc a)) ≡ pos a = ap (λ (y : ℤ). negsuc 0 -ℤ y) (to_z-of_z w64 (negsuc a) f) ∙ s in
    let g : SFits w64 (pos a) = record { sfits = f.sfits } in
    record {
      fits = subst (λ (y : ℤ). SFits w64 y) (sym x) g;
      n = a;
      is = ap (λ (y : ℤ). to_z w64 (of_z w64 y)) x ∙ to_z-of_z w64 (pos a) g;
      small = f.sfits;
      size = add-one a;
      shown = refl;
    }

-- a number from 0 on
pub record Above (z : ℤ) : Type 0 where
  pub n : ℕ
  pub is : to_z w64 (of_z w64 z) ≡ pos n
  pub small : n < 2 ^ 63
  pub size : n ≡ magnitude_of z
  pub shown : signed_of z ≡ decimal_of (magnitude_of z)

pub above : (z : ℤ) → SFits w64 z → lt_z (to_z w64 (of_z w64 z)) (pos 0) ≡ false → Above z
unfolding magnitude_of signed_of
above (pos a) f t = record { n = a; is = to_z-of_z w64 (pos a) f; small = f.sfits; size = refl; shown = refl }
above (negsuc a) f t =
    let h : true ≡ false = ap (λ (y : ℤ). lt_z y (pos 0)) (sym (to_z-of_z w64 (negsuc a) f)) ∙ t in
    let z : ◌≡◌ {A = ℕ} 0 1 = cc in absurd (omega arith)
