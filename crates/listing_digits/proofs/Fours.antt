-- Four digits at once: two numbers below a hundred side by side, and their tens by one product. Assumes nothing.
use mathlib.Core.Path.{◌≡◌, sym, ap, ◌∙◌}
use mathlib.Core.List.{[], ◌∷◌}
use Prim.Native.Nat.{ℕ, ◌+◌, ◌-◌, ◌*◌, ◌/◌, ◌%◌, ◌<◌}
use native.Mathlib.Omega.{arith}
use lib.Bits.{bit_and, and_block, and_mask}
use Rattle.wire.specs.Wire.{le}
use Rattle.listing_digits.specs.Digits.{digit}
use Rattle.listing_digits.specs.Inner.{pair_of, four_of}

-- 103 / 1024 is near enough to a tenth
tenth : (h : ℕ) → h < 100 → h * 103 / 1024 ≡ h / 10
tenth h a = omega arith

apart : (h l q : ℕ) → q ≡ h * 103 / 1024 → (h + l * 0x10000) * 103 / 1024 ≡ l * 6592 + q
apart h l q e = omega (arith, e)

high-tenth : (l q : ℕ) → l < 100 → q < 10 → (l * 6592 + q) / 0x10000 ≡ l / 10
high-tenth l q a b = omega arith

low-tenth : (l q : ℕ) → q < 10 → (l * 6592 + q) % 0x10000 % 16 ≡ q
low-tenth l q b = omega arith

nibbles : (a r : ℕ) → r < 0x10000 → bit_and (a * 0x10000 + r) 0xF000F ≡ a % 16 * 0x10000 + r % 16
nibbles a r h = and_block 16 a 15 r 15 h (omega arith) ∙ omega (arith, and_mask a 4, and_mask r 4)

both : (a r q t : ℕ) → a ≡ t → r % 16 ≡ q → t < 10 → a % 16 * 0x10000 + r % 16 ≡ q + t * 0x10000
both a r q t e g h = omega (arith, e, g)

pub tens : (h l : ℕ) → h < 100 → l < 100 → bit_and ((h + l * 0x10000) * 103 / 1024) 0xF000F ≡ h / 10 + l / 10 * 0x10000
tens h l a b =
    let q = h / 10 in
    let s : q < 10 = omega arith in
    let x = l * 6592 + q in
    let e : (h + l * 0x10000) * 103 / 1024 ≡ x = apart h l q (sym (tenth h a)) in
    let g : x ≡ x / 0x10000 * 0x10000 + x % 0x10000 = omega arith in
    ap (λ (n : ℕ). bit_and n 0xF000F) (e ∙ g) ∙ nibbles (x / 0x10000) (x % 0x10000) (omega arith)
    ∙ both (x / 0x10000) (x % 0x10000) q (l / 10) (high-tenth l q b s) (low-tenth l q s) (omega arith)

-- four bytes side by side
pub le_four : (a b c d w : ℕ) → a < 256 → b < 256 → c < 256 → d < 256 → w ≡ a + b * 0x100 + c * 0x10000 + d * 0x1000000 → le 4 w ≡ a ∷ b ∷ c ∷ d ∷ []
unfolding le
le_four a b c d w ha hb hc hd e =
    let x : w / 256 ≡ b + c * 0x100 + d * 0x10000 = omega (arith, e) in
    let y : (b + c * 0x100 + d * 0x10000) / 256 ≡ c + d * 0x100 = omega arith in
    let z : (c + d * 0x100) / 256 ≡ d = omega arith in
    let p : w % 256 ≡ a = omega (arith, e) in
    let q : (b + c * 0x100 + d * 0x10000) % 256 ≡ b = omega arith in
    let r : (c + d * 0x100) % 256 ≡ c = omega arith in
    let s : d % 256 ≡ d = omega arith in
    rw (p, x, q, y, r, z, s)

-- the bytes of the sum
pub four_bytes : (r w t : ℕ) → r < 10000 → t ≡ r / 100 / 10 + r % 100 / 10 * 0x10000 → w ≡ 0x30303030 + (r / 100 + r % 100 * 0x10000) * 0x100 - t * 2559
    → le 4 w ≡ four_of r
unfolding four_of pair_of digit
four_bytes r w t h g e =
    let a = r / 100 / 10 in
    let b = r / 100 % 10 in
    let c = r % 100 / 10 in
    let d = r % 100 % 10 in
    let x : r / 100 ≡ 10 * a + b = omega arith in
    let y : r % 100 ≡ 10 * c + d = omega arith in
    le_four (0x30 + a) (0x30 + b) (0x30 + c) (0x30 + d) w (omega arith) (omega arith) (omega arith) (omega arith) (omega (arith, e, g, x, y))

-- a number's bytes, each by one division
pub le_is : (w : ℕ) → w % 0x100 ∷ w / 0x100 % 0x100 ∷ w / 0x10000 % 0x100 ∷ w / 0x1000000 % 0x100 ∷ [] ≡ le 4 w
unfolding le
le_is w =
    let x : w / 256 / 256 ≡ w / 0x10000 = omega arith in
    let y : w / 0x10000 / 256 ≡ w / 0x1000000 = omega arith in
    rw (x, y)
