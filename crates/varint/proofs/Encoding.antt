-- The turns of the loop that writes the bytes of a shortest form. Assumes nothing.
use mathlib.Core.Path.{◌≡◌, sym, ◌∙◌}
use mathlib.Core.List.{List}
use Prim.Native.Nat.{ℕ, ◌+◌, ◌/◌, ◌%◌, ◌^◌, ◌≤◌, ◌<◌}
use native.Mathlib.Omega.{arith}
use lib.ListN.{length, set}
use Rattle.wire.specs.Wire.{splice}
use Rattle.wire.proofs.Splices.{splice-past, splice-set, splice-cons}
use Rattle.varint.specs.Varint.{encode}
use Rattle.varint.proofs.Codec.{encode-last, encode-more}

-- where the form of x, laid over l from p, gives m
module _ (l m : List ℕ) (p x : ℕ) (e : splice l p (encode x) ≡ m) where
  pub write-past : length l ≤ p → l ≡ m
  write-past h = sym (splice-past l p (encode x) h) ∙ e

  pub write-last : (b : ℕ) → x < 128 → b ≡ x → set l p b ≡ m
  write-last b h q = splice-set l p b ∙ rw (q, ← encode-last x h) e

  pub write-more : (b : ℕ) → 128 ≤ x → x < 2 ^ 64 → b ≡ x % 128 + 128 → splice (set l p b) (p + 1) (encode (x / 128)) ≡ m
  write-more b h g q =
      let f : b ≡ 128 + x % 128 = omega arith in
      splice-cons l p b (encode (x / 128)) ∙ rw (f, ← encode-more x h g) e
