-- Laws of hex digits, and of bytes that are shown by them. Assumes nothing.
use mathlib.Core.Path.{◌≡◌, refl, sym, ap, ◌∙◌}
use mathlib.Core.Bool.{Bool, true, false, not, ◌&&◌}
use mathlib.Core.List.{List, [], ◌∷◌, ◌++◌, append_assoc, append-nil}
use Prim.Native.Nat.{ℕ, zero, suc, ◌+◌, ◌-◌, ◌/◌, ◌%◌, ◌≤◌, ◌<◌}
use native.Mathlib.Nat.{add-zero}
use native.Mathlib.Numerals.{add-one}
use native.Mathlib.Omega.{arith}
use lib.ListN.{length, drop, length-append}
use lib.Seq.{drop-append_seam, drop-length}
use lib.Dec.{eqb}
use borrow.Author.Tests.{le-leb, lt-leb, ne_eqb}
use Rattle.wire.specs.Wire.{splice}
use Rattle.wire.proofs.Splices.{splice-nil}
use Rattle.listing_digits.specs.Digits.{hex_digit, hex_of, shown_in_text, shown_in_name, byte_of, byte_len}

pub length-hex : (w n : ℕ) → length (hex_of w n) ≡ w
unfolding hex_of
length-hex zero n = refl
length-hex (suc w) n = length-append (hex_of w (n / 16)) (hex_digit (n % 16) ∷ []) ∙ ap (λ (k : ℕ). k + 1) (length-hex w (n / 16)) ∙ add-one w

-- an element laid right before what was laid
splice-before : (l : List ℕ) (p d : ℕ) (t : List ℕ) → splice (splice l (suc p) t) p (d ∷ []) ≡ splice l p (d ∷ t)
unfolding splice
splice-before [] p d t = refl
splice-before (b ∷ l) zero d t = ap (λ (m : List ℕ). d ∷ m) (splice-nil (splice l 0 t) 0)
splice-before (b ∷ l) (suc p) d t = ap (λ (m : List ℕ). b ∷ m) (splice-before l p d t)

-- ---- the digits from the last to the first: i are to come, and x is left of n

module _ (l : List ℕ) (at w n : ℕ) where
  pub hex-start : hex_of w n ++ drop w (hex_of w n) ≡ hex_of w n
  hex-start =
      ap (λ (k : ℕ). hex_of w n ++ drop k (hex_of w n)) (sym (length-hex w n))
      ∙ ap (λ (t : List ℕ). hex_of w n ++ t) (drop-length (hex_of w n)) ∙ append-nil (hex_of w n)

  pub hex-untouched : l ≡ splice l (at + w) (drop w (hex_of w n))
  hex-untouched =
      sym (ap (λ (k : ℕ). splice l (at + w) (drop k (hex_of w n))) (sym (length-hex w n))
      ∙ ap (splice l (at + w)) (drop-length (hex_of w n)) ∙ splice-nil l (at + w))

  module _ (i x : ℕ) (left : hex_of i x ++ drop i (hex_of w n) ≡ hex_of w n) where
    go : (j : ℕ) → i ≡ suc j → hex_of j (x / 16) ++ (hex_digit (x % 16) ∷ drop i (hex_of w n)) ≡ hex_of w n
    unfolding hex_of
    go j e =
        sym (append_assoc (hex_of j (x / 16)) (hex_digit (x % 16) ∷ []) (drop i (hex_of w n)))
        ∙ ap (λ (k : ℕ). hex_of k x ++ drop i (hex_of w n)) (sym e) ∙ left

    next : 0 < i → hex_digit (x % 16) ∷ drop i (hex_of w n) ≡ drop (i - 1) (hex_of w n)
    next h =
        let e : i ≡ suc (i - 1) = omega arith in
        sym (drop-append_seam (hex_of (i - 1) (x / 16)) (hex_digit (x % 16) ∷ drop i (hex_of w n)))
        ∙ ap (λ (k : ℕ). drop k (hex_of (i - 1) (x / 16) ++ (hex_digit (x % 16) ∷ drop i (hex_of w n)))) (length-hex (i - 1) (x / 16))
        ∙ ap (drop (i - 1)) (go (i - 1) e)

    pub hex-turn : 0 < i → hex_of (i - 1) (x / 16) ++ drop (i - 1) (hex_of w n) ≡ hex_of w n
    hex-turn h =
        let e : i ≡ suc (i - 1) = omega arith in
        ap (λ (t : List ℕ). hex_of (i - 1) (x / 16) ++ t) (sym (next h)) ∙ go (i - 1) e

    pub hex-put : (m k : List ℕ) (d : ℕ) → 0 < i → m ≡ splice l (at + i) (drop i (hex_of w n)) → d ≡ hex_digit (x % 16)
        → k ≡ splice m (at + (i - 1)) (d ∷ []) → k ≡ splice l (at + (i - 1)) (drop (i - 1) (hex_of w n))
    hex-put m k d h p q r =
        let e : at + i ≡ suc (at + (i - 1)) = omega arith in
        r ∙ ap (λ (t : List ℕ). splice t (at + (i - 1)) (d ∷ [])) (p ∙ ap (λ (a : ℕ). splice l a (drop i (hex_of w n))) e)
        ∙ splice-before l (at + (i - 1)) d (drop i (hex_of w n))
        ∙ ap (splice l (at + (i - 1))) (ap (λ (v : ℕ). v ∷ drop i (hex_of w n)) q ∙ next h)

  pub hex-end : (m : List ℕ) (i : ℕ) → i ≤ 0 → m ≡ splice l (at + i) (drop i (hex_of w n)) → m ≡ splice l at (hex_of w n)
  hex-end m i h p = let z : i ≡ 0 = omega arith in p ∙ rw (z, add-zero)

-- ---- bytes

pub hex-byte : (b c d : ℕ) → b < 256 → c ≡ hex_digit (b / 16) → d ≡ hex_digit (b % 16) → 0x5C ∷ 0x78 ∷ c ∷ d ∷ [] ≡ byte_of false b
unfolding byte_of hex_of
hex-byte b c d h p q = let e : b / 16 % 16 ≡ b / 16 = omega arith in rw (p, q, e)

pub shown-byte : (b : ℕ) → b ∷ [] ≡ byte_of true b
unfolding byte_of
shown-byte b = refl

pub length-byte : (shown : Bool) (b : ℕ) → length (byte_of shown b) ≡ byte_len shown
unfolding byte_of byte_len
length-byte true b = refl
length-byte false b = ap (λ (k : ℕ). suc (suc k)) (length-hex 2 b)

-- ---- which bytes are shown as they are

module _ (b : ℕ) where
  pub text-below : b < 0x20 → false ≡ shown_in_text b
  unfolding shown_in_text
  text-below h = rw (lt-leb 0x20 b h)

  pub text-above : 0x20 ≤ b → 0x7E < b → false ≡ shown_in_text b
  unfolding shown_in_text
  text-above l h = rw (le-leb 0x20 b l, lt-leb b 0x7E h)

  pub text-quote : b ≡ 0x22 → false ≡ shown_in_text b
  unfolding shown_in_text
  text-quote e = rw e

  pub text-rest : 0x20 ≤ b → b ≤ 0x7E → (b ≡ 0x22 → ⊥) → not (eqb b 0x5C) ≡ shown_in_text b
  unfolding shown_in_text
  text-rest l h q = rw (le-leb 0x20 b l, le-leb b 0x7E h, ne_eqb b 0x22 q)

  pub name-space : b ≡ 0x20 → false ≡ shown_in_name b
  unfolding shown_in_name shown_in_text
  name-space e = rw e

  pub name-equals : b ≡ 0x3D → false ≡ shown_in_name b
  unfolding shown_in_name shown_in_text
  name-equals e = rw e

  and-true : (t : Bool) → t ≡ (t && true)
  and-true true = refl
  and-true false = refl

  pub name-rest : (b ≡ 0x20 → ⊥) → (b ≡ 0x3D → ⊥) → shown_in_text b ≡ shown_in_name b
  unfolding shown_in_name
  name-rest p q = rw (ne_eqb b 0x20 p, ne_eqb b 0x3D q) (and-true (shown_in_text b))
